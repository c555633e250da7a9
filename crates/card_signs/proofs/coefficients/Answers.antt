-- `card_signs::coefficients` meets its contract.
use mathlib.Core.Path.{sym, ap, ◌∙◌}
use Rattle.layout.specs.Values.{coefficients}
use Rattle.card_signs.proofs.Signs.{zeros, taken_off}
use Rattle.card_signs.proofs.coefficients.Goals as goal

pub returns-then-is_plane : goal.returns-then-is_plane
returns-then-is_plane c =
    zeros _ c.requires.0 c.args.j c.requires.1 (sym c.is_plane.ensures ∙ c.if-is_plane.true)

pub returns : goal.returns
returns c =
    c.coefficients.ensures ∙ ap (coefficients c.args.card.now) c.offset.ensures
    ∙ taken_off _ c.requires.0 c.args.j c.requires.1 (sym c.is_plane.ensures ∙ c.if-is_plane.false)
