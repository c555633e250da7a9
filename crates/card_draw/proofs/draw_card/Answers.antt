-- `card_draw::draw_card` meets its contract.
use mathlib.Core.Path.{sym, ap, ◌∙◌}
use lib.ListN.{length}
use Rattle.sequences.proofs.Stores.{sets_all}
use Rattle.card_draw.specs.Drawn.{drawn_coefficients, drawn_points}
use Rattle.card_draw.proofs.Drawing.{length-coefficients}
use Rattle.card_draw.proofs.draw_card.Goals as goal

pub returns : goal.returns
returns c =
    let a = c.args in
    let cs = c.draw_polynomials-state.ensures.1
    ∙ sets_all (drawn_coefficients a.s a.d a.seed) a.coefficients.now
    (length-coefficients a.s a.d a.seed ∙ sym c.requires.2) in
    let ps = c.draw_points.ensures ∙ ap (drawn_points (length a.points.now)) c.draw_polynomials-state.ensures.0 in
    record {
      value = c.write.ensures.value ∙ rw (cs, ps);
      out_after = c.write.ensures.out_after ∙ rw (cs, ps);
    }
