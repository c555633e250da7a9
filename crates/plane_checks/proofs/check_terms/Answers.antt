-- `plane_checks::check_terms` meets its contract. The loop's invariant: no term below i is wrong, and least is one above the place of the
-- last one passed, or 0.
use mathlib.Core.Path.{◌≡◌, refl, sym, ap, ◌∙◌}
use mathlib.Core.Bool.{true}
use Prim.Native.Nat.{ℕ, ◌^◌, ◌<◌}
use native.Mathlib.Omega.{arith}
use lib.IntN.{nat_abs}
use Rattle.integers.proofs.Search.{some_none, some_more}
use Rattle.refusals.specs.Refusals.{checked}
use Rattle.layout.specs.Format.{two's}
use Rattle.layout.proofs.Twos.{abs_word, abs_word-zero}
use Rattle.plane_checks.specs.Checks.{wrong_term}
use Rattle.plane_checks.proofs.Terms.{cause-some, least_next, too_high, falls, rises, zero_term, right}
use Rattle.plane_checks.proofs.check_terms.Goals as goal
use Rattle.plane_checks.proofs.check_terms.Goals.{then-a-b-gt-MOST_DEGREE-via-then-a-b-gt-MOST_DEGREE as by-powers}
use Rattle.plane_checks.proofs.check_terms.Goals.{then-a-b-gt-MOST_DEGREE-via-else-a-b-gt-MOST_DEGREE+then-place-least as by-order}
use Rattle.plane_checks.proofs.check_terms.Goals.{
  then-a-b-gt-MOST_DEGREE-via-else-a-b-gt-MOST_DEGREE+else-place-least+then-word-eq0 as by-zero,
}

-- the four bytes w, which are v: 0, or not
module _ (v w : ℕ) (e : w ≡ v) where
  is_zero : w ≡ 0 → nat_abs (two's (2 ^ 31) v) ≡ 0
  is_zero h = abs_word-zero v (sym e ∙ h)

  not_zero : w < 2 ^ 32 → (w ≡ 0 → ⊥) → nat_abs (two's (2 ^ 31) v) ≡ 0 → ⊥
  not_zero f h z = h (e ∙ abs_word v (omega arith) z)

pub loop-i-init : goal.loop-i-init
loop-i-init c = (some_none _, refl)

pub returns-then-a-b-gt-MOST_DEGREE : goal.returns-then-a-b-gt-MOST_DEGREE
returns-then-a-b-gt-MOST_DEGREE c =
    let a = c.args in
    let wrong : wrong_term a.card.now a.at c.loop-i.i ≡ true = elim c.then-a-b-gt-MOST_DEGREE.branch [
      | by-powers w ↦ too_high a.card.now a.at c.loop-i.i (omega arith)
      | by-order w ↦ falls _ _ c.loop-i.i _ c.loop-i.invariant.1 (omega arith) (omega arith)
      | by-zero w ↦ zero_term _ _ c.loop-i.i (is_zero _ _ w.word.ensures w.if-word-eq0.true)
    ] in
    ap checked (cause-some 18 _ _ c.loop-i.i (omega arith) wrong)

pub loop-i-preserved : goal.loop-i-preserved
loop-i-preserved c =
    let o = rises _ _ c.loop-i.i _ c.loop-i.invariant.1 (omega arith) (omega arith) in (
      some_more _ c.loop-i.i c.loop-i.invariant.0
          (right _ _ c.loop-i.i (omega arith) o (not_zero _ _ c.word.ensures (omega arith) c.if-word-eq0.false)),
      least_next _ _ c.loop-i.i _ _ (omega arith) (omega arith) (omega arith),
    )
