-- `card_checks::check` meets its contract: each answer is that of the cause found.
use Rattle.std.proofs.Common.{◌≡◌, false, ltb, sym, ap, ◌∙◌, arith}
use Rattle.std.proofs.lemmas.Bool.Decides.{nat_tests}
use Rattle.refusals.specs.Limits.{most_degree}
use Rattle.refusals.specs.Refusals.{checked}
use Rattle.card_bytes.specs.Causes.{some}
use Rattle.card_bytes.specs.Claim.{Counted}
use Rattle.card_checks.proofs.Order.{write_count, write_degree, write_length, write_numbers}
use Rattle.card_checks.proofs.check.Goals as goal
use Rattle.card_checks.proofs.check.Goals.{Else-has_high, Else-points-gt-MOST_POINTS}

pub returns-then-is_empty : goal.returns-then-is_empty
returns-then-is_empty c = ap checked (sym (write_count _ _ _ (λ k. grind (arith, nat_tests))))

-- the counts are right
counted : (c : Else-points-gt-MOST_POINTS) → Counted c.args.degrees.now c.args.points.now
counted c = record {
  s_least = grind (arith, nat_tests);
  s_most = c.if-degrees-gt-MOST_POLYNOMIALS.false;
  n_most = c.if-points-gt-MOST_POINTS.false;
}

pub returns-then-has_high : goal.returns-then-has_high
returns-then-has_high c =
    ap checked
    (sym (write_degree _ _ _ (counted (goal.at.returns-then-has_high c).Else-points-gt-MOST_POINTS)
    (sym c.has_high.ensures ∙ c.if-has_high.true)))

-- and the degrees too
low : (c : Else-has_high) → some (ltb most_degree) c.args.degrees.now ≡ false
low c = sym c.has_high.ensures ∙ c.if-has_high.false

pub returns-then-coefficients-wanted : goal.returns-then-coefficients-wanted
returns-then-coefficients-wanted c =
    ap checked
    (sym (write_length _ _ _ (counted (goal.at.returns-then-coefficients-wanted c).Else-points-gt-MOST_POINTS)
    (low (goal.at.returns-then-coefficients-wanted c).Else-has_high) (λ z. c.if-coefficients-wanted.true (z ∙ sym c.wanted.ensures))))

pub returns : goal.returns
returns c =
    c.check_numbers.ensures
    ∙ ap checked
    (sym (write_numbers _ _ _ (counted (goal.at.returns c).Else-points-gt-MOST_POINTS) (low (goal.at.returns c).Else-has_high)
    (c.if-coefficients-wanted.false ∙ c.wanted.ensures)))
