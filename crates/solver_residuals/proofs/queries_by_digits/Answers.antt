-- `solver_residuals::queries_by_digits` meets its contract.
use native.Mathlib.Omega.{arith}
use Prim.Native.Nat.{◌-◌, ◌<◌}
use mathlib.Core.Path.{◌≡◌, refl, ap, ◌∙◌}
use borrow.Author.Rules.{rules}
use lib.IntN.{ℤ, pos, ◌+ℤ◌, ◌*ℤ◌}
use lib.ListN.{length, get_or}
use mir.Syntax.{w16}
use mir.Val.{to_z, of_z}
use Rattle.signs.specs.Bits.{sign_bits}
use Rattle.integers.proofs.Abs.{abs_sum}
use Rattle.integers.proofs.I16.{back, fits-small}
use Rattle.integers.proofs.I64.{back_64}
use Rattle.solver_residuals.proofs.Sums.{sign_small}
use Rattle.solver_residuals.proofs.Gathering.{summing_next, summing_last, addend_small}
use Rattle.solver_residuals.proofs.queries_by_digits.Goals as goal
use Rattle.solver_residuals.proofs.queries_by_digits.Goals.{After-scale-first, After-scale-second}

pub scale-first-requires : goal.scale-first-requires
scale-first-requires c =
    let x = get_or c.args.u.now c.loop-j.j (pos 0) in
    rw (back_64 c.sign_by-s.result (search rules), back x (search rules), c.sign_by-s.ensures)
    (sign_small _ _ _ _, omega (arith, c.requires.within.0.at c.loop-j.j))

-- what is added
product_first : (c : After-scale-first) →
    let a = c.args in
    to_z w16 (of_z w16 c.scale-first.result)
    ≡ sign_bits a.a.ones a.a.twos (get_or a.ones.now c.loop-j.j 0) (get_or a.twos.now c.loop-j.j 0)
    *ℤ get_or a.u.now c.loop-j.j (pos 0)
product_first c =
    let a = c.args in
    back c.scale-first.result (search rules) ∙ c.scale-first.ensures
    ∙ rw (
      back_64 c.sign_by-s.result (search rules),
      back (get_or a.u.now c.loop-j.j (pos 0)) (search rules),
      c.sign_by-s.ensures,
    ) refl

pub overflow_add-first : goal.overflow_add-first
overflow_add-first c =
    let a = c.args in
    let p = sign_bits a.a.ones a.a.twos (get_or a.ones.now c.loop-j.j 0) (get_or a.twos.now c.loop-j.j 0)
    *ℤ get_or a.u.now c.loop-j.j (pos 0) in
    rw (product_first c) (fits-small _ (omega (
      arith,
      abs_sum (to_z w16 c.loop-j.first-bits) p,
      c.loop-j.invariant.1.small,
      addend_small a.a.ones a.a.twos (get_or a.ones.now c.loop-j.j 0) (get_or a.twos.now c.loop-j.j 0)
          (get_or a.u.now c.loop-j.j (pos 0)) (c.requires.within.0.at c.loop-j.j),
      c.requires.ones_len.3,
      c.loop-j-test.true,
    )))

pub scale-second-requires : goal.scale-second-requires
scale-second-requires c =
    let x = get_or c.args.v.now c.loop-j.j (pos 0) in
    rw (back_64 c.sign_by-s.result (search rules), back x (search rules), c.sign_by-s.ensures)
    (sign_small _ _ _ _, omega (arith, c.requires.within.1.at c.loop-j.j))

-- what is added
product_second : (c : After-scale-second) →
    let a = c.args in
    to_z w16 (of_z w16 c.scale-second.result)
    ≡ sign_bits a.a.ones a.a.twos (get_or a.ones.now c.loop-j.j 0) (get_or a.twos.now c.loop-j.j 0)
    *ℤ get_or a.v.now c.loop-j.j (pos 0)
product_second c =
    let a = c.args in
    back c.scale-second.result (search rules) ∙ c.scale-second.ensures
    ∙ rw (
      back_64 c.sign_by-s.result (search rules),
      back (get_or a.v.now c.loop-j.j (pos 0)) (search rules),
      c.sign_by-s.ensures,
    ) refl

pub overflow_add-second : goal.overflow_add-second
overflow_add-second c =
    let a = c.args in
    let p = sign_bits a.a.ones a.a.twos (get_or a.ones.now c.loop-j.j 0) (get_or a.twos.now c.loop-j.j 0)
    *ℤ get_or a.v.now c.loop-j.j (pos 0) in
    rw (product_second c) (fits-small _ (omega (
      arith,
      abs_sum (to_z w16 c.loop-j.second-bits) p,
      c.loop-j.invariant.2.small,
      addend_small a.a.ones a.a.twos (get_or a.ones.now c.loop-j.j 0) (get_or a.twos.now c.loop-j.j 0)
          (get_or a.v.now c.loop-j.j (pos 0)) (c.requires.within.1.at c.loop-j.j),
      c.requires.ones_len.3,
      c.loop-j-test.true,
    )))

pub loop-j-preserved : goal.loop-j-preserved
loop-j-preserved c =
    let a = c.args in
    let h : c.loop-j.j < length a.u.now = c.loop-j-test.true in
    let one = (goal.at.loop-j-preserved c).After-scale-first in
    let other = (goal.at.loop-j-preserved c).After-scale-second in (
      omega (arith, h),
      summing_next a.a.ones a.a.twos c.loop-j.j a.ones.now a.twos.now a.u.now (to_z w16 c.loop-j.first-bits) _
          h c.requires.ones_len.0 c.requires.ones_len.1 c.requires.within.0 c.loop-j.invariant.1
          (back _ (overflow_add-first one) ∙ ap (λ (z : ℤ). (to_z w16 c.loop-j.first-bits) +ℤ z) (product_first one)),
      summing_next a.a.ones a.a.twos c.loop-j.j a.ones.now a.twos.now a.v.now (to_z w16 c.loop-j.second-bits) _
          (omega (arith, h, c.requires.ones_len.2)) (omega (arith, c.requires.ones_len)) (omega (arith, c.requires.ones_len))
          c.requires.within.1 c.loop-j.invariant.2
          (back _ (overflow_add-second other) ∙ ap (λ (z : ℤ). (to_z w16 c.loop-j.second-bits) +ℤ z) (product_second other)),
    )

pub returns : goal.returns
returns c =
    let a = c.args in record {
      first_value = (
        summing_last a.a.ones a.a.twos c.loop-j.j a.ones.now a.twos.now a.u.now (to_z w16 c.loop-j.first-bits)
            (omega (arith, c.requires.ones_len.0)) c.loop-j.invariant.1,
        omega (arith, c.loop-j.invariant.1.small, c.requires.ones_len.3),
      );
      second_value = (
        summing_last a.a.ones a.a.twos c.loop-j.j a.ones.now a.twos.now a.v.now (to_z w16 c.loop-j.second-bits)
            (omega (arith, c.requires.ones_len.0)) c.loop-j.invariant.2,
        omega (arith, c.loop-j.invariant.2.small, c.requires.ones_len.3),
      );
    }
