-- `solver_moments::is_odd` meets its contract: the remainder that the code tests is 0 exactly where the number is even.
use Prim.Native.Nat.{ℕ, zero, suc}
use native.Mathlib.Omega.{arith}
use mathlib.Core.Path.{◌≡◌, refl, sym, ap, ◌∙◌}
use mathlib.Core.Bool.{Bool, true, false, not}
use borrow.Author.Tests.{eq-eqb, ne_eqb}
use lib.Dec.{eqb}
use lib.IntN.{ℤ, pos, nat_abs}
use lib.Signed.{rem_z, mag_rem}
use mir.Syntax.{w16}
use mir.Val.{SFits, of_z, to_z}
use mir.Facts.{sfits_lit}
use Rattle.integers.specs.Half.{is_even}
use Rattle.integers.proofs.Abs.{abs_rem, abs_zero}
use Rattle.integers.proofs.I16.{back}
use Rattle.integers.proofs.Parts.{int}
use Rattle.solver_moments.proofs.is_odd.Goals as goal

rem_fits : (x : ℤ) → SFits w16 x → SFits w16 (rem_z x (pos 2))
rem_fits x f = omega (int, mag_rem x (pos 2))

even : (x : ℤ) → SFits w16 x → of_z w16 (rem_z x (pos 2)) ≡ 0 → is_even x ≡ true
unfolding is_even
even x f e =
    let z : rem_z x (pos 2) ≡ pos 0 = sym (back _ (rem_fits x f)) ∙ ap (to_z w16) e ∙ back (pos 0) (sfits_lit tt) in
    eq-eqb _ _ (sym (abs_rem x (pos 2)) ∙ ap nat_abs z)

odd : (x : ℤ) → (of_z w16 (rem_z x (pos 2)) ≡ 0 → ⊥) → is_even x ≡ false
unfolding is_even
odd x h = ne_eqb _ _ (λ e. h (ap (of_z w16) (abs_zero (rem_z x (pos 2)) (abs_rem x (pos 2) ∙ e))))

-- a test that is as an equation to 0 says
tested : (n : ℕ) (b : Bool) → (n ≡ 0 → b ≡ true) → ((n ≡ 0 → ⊥) → b ≡ false) → eqb n 0 ≡ b
tested zero b t f = sym (t refl)
tested (suc n) b t f = let h : suc n ≡ 0 → ⊥ = λ e. omega arith in ne_eqb (suc n) 0 h ∙ sym (f h)

pub returns : goal.returns
returns c =
    let x = c.args.x in
    let f = c.ranges.x in
    rw (back x f) (ap not (tested (of_z w16 (rem_z x (pos 2))) (is_even x) (even x f) (odd x)))
