-- `solver_residuals::subtract_queries` meets its contract.
use native.Mathlib.Omega.{arith}
use Prim.Native.Nat.{ℕ, ◌-◌, ◌^◌, ◌≤◌}
use mathlib.Core.Path.{◌≡◌, refl, sym, ap, ◌∙◌}
use mathlib.Core.List.{List}
use borrow.Author.Tests.{leb-true}
use lib.IntN.{ℤ, pos, nat_abs, ◌-ℤ◌}
use lib.ListN.{length, get_or}
use mir.Syntax.{w16}
use mir.Val.{to_z, of_z}
use Rattle.refusals.specs.Limits.{most_points}
use Rattle.integers.proofs.I16.{back, fits-small}
use Rattle.integers.proofs.Stores.{writing_next}
use Rattle.signs.proofs.Positions.{below_at}
use Rattle.solver_residuals.specs.Residuals.{digit_sum}
use Rattle.solver_residuals.proofs.Gathering.{not_small}
use Rattle.integers.proofs.Abs.{abs_dif}
use Rattle.solver_residuals.proofs.subtract_queries.Goals as goal
use Rattle.solver_residuals.proofs.subtract_queries.Goals.{After-queries_by_digits-z}
use Rattle.solver_residuals.proofs.subtract_queries.Goals.{then-not-is_small-via-then-not-is_small}
use Rattle.solver_residuals.proofs.subtract_queries.Goals.{then-not-is_small-via-else-not-is_small+then-not-is_small-2}

-- the number that remains at h, small
abbrev Remains : (i : ℕ) (a o t : List ℕ) (u x : List ℤ) → ℕ → ℤ → Type 0
Remains i a o t u x h z = (z ≡ get_or x h (pos 0) -ℤ digit_sum i (get_or a h 0) o t u) × (nat_abs z ≤ most_points)

pub digit_sets-requires : goal.digit_sets-requires
digit_sets-requires c =
    let a = c.args in
    (c.requires.i_le_most_polynomials.0, below_at (3 ^ a.i) a.a.now c.requires.i_le_most_polynomials.1 c.loop-k.k (omega arith))

-- a number less its query, as the code has them
remains : (x q s : ℤ) → nat_abs x ≤ 64 → nat_abs q ≤ 16384 → q ≡ s
    → to_z w16 (of_z w16 (to_z w16 (of_z w16 x) -ℤ to_z w16 (of_z w16 q))) ≡ x -ℤ s
remains x q s h k e =
    rw (back x (fits-small x (omega arith)), back q (fits-small q (omega arith)))
    (back (x -ℤ q) (fits-small (x -ℤ q) (omega (arith, abs_dif x q))) ∙ ap (λ (z : ℤ). x -ℤ z) e)

-- what remains of the two numbers
first_is : (c : After-queries_by_digits-z) →
    let a = c.args in
    to_z w16 (of_z w16 (to_z w16 (of_z w16 (get_or a.x.now c.loop-k.k (pos 0)))
    -ℤ to_z w16 (of_z w16 c.queries_by_digits-z.result.first)))
    ≡ get_or a.x.now c.loop-k.k (pos 0) -ℤ digit_sum a.i (get_or a.a.now c.loop-k.k 0) a.ones.now a.twos.now a.u.now
first_is c =
    let (e, s) = c.queries_by_digits-z.ensures.first_value in
    let a = c.args in
    remains _ _ (digit_sum a.i (get_or a.a.now c.loop-k.k 0) a.ones.now a.twos.now a.u.now) (c.requires.within.0.at c.loop-k.k) s
    (e ∙ rw (c.digit_sets.ensures.0, c.digit_sets.ensures.1) refl)

second_is : (c : After-queries_by_digits-z) →
    let a = c.args in
    to_z w16 (of_z w16 (to_z w16 (of_z w16 (get_or a.y.now c.loop-k.k (pos 0)))
    -ℤ to_z w16 (of_z w16 c.queries_by_digits-z.result.second)))
    ≡ get_or a.y.now c.loop-k.k (pos 0) -ℤ digit_sum a.i (get_or a.a.now c.loop-k.k 0) a.ones.now a.twos.now a.v.now
second_is c =
    let (e, s) = c.queries_by_digits-z.ensures.second_value in
    let a = c.args in
    remains _ _ (digit_sum a.i (get_or a.a.now c.loop-k.k 0) a.ones.now a.twos.now a.v.now) (c.requires.within.1.at c.loop-k.k) s
    (e ∙ rw (c.digit_sets.ensures.0, c.digit_sets.ensures.1) refl)

pub returns-then-not-is_small : goal.returns-then-not-is_small
returns-then-not-is_small c =
    let a = c.args in
    let z = (goal.at.returns-then-not-is_small c).After-queries_by_digits-z in
    λ r' t' S T w w'. elim c.then-not-is_small.branch [
      | then-not-is_small-via-then-not-is_small b ↦
          not_small a.i c.loop-k.k a.a.now a.ones.now a.twos.now a.u.now a.x.now r' _
          c.loop-k-test.true (first_is z) (sym c.is_small.ensures ∙ b.if-not-is_small.true) S w
      | then-not-is_small-via-else-not-is_small+then-not-is_small-2 b ↦
          not_small a.i c.loop-k.k a.a.now a.ones.now a.twos.now a.v.now a.y.now t' _
          c.loop-k-test.true (second_is z) (sym b.is_small-else-not-is_small.ensures ∙ b.if-not-is_small-2.true) T w'
    ]

pub loop-k-preserved : goal.loop-k-preserved
loop-k-preserved c =
    let a = c.args in
    let h = c.loop-k-test.true in
    let z = (goal.at.loop-k-preserved c).After-queries_by_digits-z in (
      writing_next (pos 0) (Remains a.i a.a.now a.ones.now a.twos.now a.u.now a.x.now) (length a.a.now)
          a.r.now c.loop-k.r c.loop-k.k _ c.loop-k.invariant.0 h (omega (arith, c.requires.i_le_most_polynomials.4))
          (first_is z, leb-true _ most_points (sym c.is_small.ensures ∙ c.if-not-is_small.false)),
      writing_next (pos 0) (Remains a.i a.a.now a.ones.now a.twos.now a.v.now a.y.now) (length a.a.now)
          a.t.now c.loop-k.t c.loop-k.k _ c.loop-k.invariant.1 h (omega (arith, c.requires.i_le_most_polynomials.5))
          (second_is z, leb-true _ most_points (sym c.is_small-else-not-is_small.ensures ∙ c.if-not-is_small-2.false)),
    )
