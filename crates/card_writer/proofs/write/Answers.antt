-- `card_writer::write` meets its contract.
use mathlib.Core.Path.{◌≡◌, sym, ap, ◌∙◌}
use native.Mathlib.Omega.{arith}
use lib.ListN.{length}
use Rattle.std.proofs.lemmas.Result.{err_from_is_err_and}
use Rattle.refusals.proofs.Refusals.{passed_none, refused_by, refused_some}
use Rattle.card_bytes.specs.Bytes.{card_bytes}
use Rattle.card_bytes.specs.Causes.{write_cause}
use Rattle.card_bytes.proofs.Lengths.{length-card, wanted-most}
use Rattle.card_writer.proofs.Checked.{accepted}
use Rattle.card_writer.proofs.Placing.{writing-refused, writing-short, writing-whole}
use Rattle.card_writer.proofs.write.Goals as goal
use Rattle.card_writer.proofs.write.Goals.{After-card_length-length, In_ok-check}

pub returns-in_err-check : goal.returns-in_err-check
returns-in_err-check c =
    let a = c.args in
    let p = err_from_is_err_and c.from_residual.result c.from_residual.ensures.1 in
    let h = c.in_err-check.ensures in
    let w = writing-refused a.degrees.now a.coefficients.now a.points.now a.out.now (refused_some _ h) in
    record {
      value = rw (p.1, p.2, refused_by _ h) (sym (ap (λ x. x.0) w));
      out_after = sym (ap (λ x. x.1) w);
    }

-- nothing refuses the numbers
unrefused : (c : In_ok-check)
    → (let a = c.args in write_cause a.degrees.now a.coefficients.now a.points.now) ≡ 0
unrefused c = passed_none _ c.in_ok-check.ensures

pub card_length-length-requires : goal.card_length-length-requires
card_length-length-requires c =
    let a = c.args in
    let k = accepted a.degrees.now a.coefficients.now a.points.now (unrefused c) in
    (k.count, omega (arith, wanted-most a.degrees.now k.low, k.long, k.count), k.points)

-- and the length worked out is the card's
card_long : (c : After-card_length-length)
    → (let a = c.args in
    c.card_length-length.result ≡ length (card_bytes a.degrees.now a.coefficients.now a.points.now))
card_long c =
    let a = c.args in
    let k = accepted a.degrees.now a.coefficients.now a.points.now (unrefused (goal.at.After-card_length-length c).In_ok-check) in
    c.card_length-length.ensures ∙ sym (length-card a.degrees.now a.coefficients.now a.points.now k.long)

pub returns-then-out-length : goal.returns-then-out-length
returns-then-out-length c =
    let a = c.args in
    let v = writing-short a.degrees.now a.coefficients.now a.points.now a.out.now
    (unrefused (goal.at.returns-then-out-length c).In_ok-check)
    (omega (arith, card_long (goal.at.returns-then-out-length c).After-card_length-length, c.if-out-length.true)) in
    record {
      value = sym (ap (λ p. p.0) v);
      out_after = sym (ap (λ p. p.1) v);
    }

pub put_card-requires : goal.put_card-requires
put_card-requires c =
    record {
      points_value = unrefused (goal.at.put_card-requires c).In_ok-check;
      points_in_bounds = omega (arith, card_long (goal.at.put_card-requires c).After-card_length-length, c.if-out-length.false);
    }

pub returns : goal.returns
returns c =
    let a = c.args in
    let w = writing-whole a.degrees.now a.coefficients.now a.points.now a.out.now (unrefused (goal.at.returns c).In_ok-check)
    (omega (arith, card_long (goal.at.returns c).After-card_length-length, c.if-out-length.false)) in
    record {
      value = rw (card_long (goal.at.returns c).After-card_length-length) (sym (ap (λ x. x.0) w));
      out_after = c.put_card.ensures ∙ sym (ap (λ x. x.1) w);
    }
