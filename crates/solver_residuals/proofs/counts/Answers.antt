-- `solver_residuals::counts` meets its contract.
use Prim.Native.Nat.{ℕ, zero, suc}
use native.Mathlib.Omega.{arith}
use mathlib.Core.Path.{◌≡◌, refl, sym, ◌∙◌}
use mathlib.Core.Bool.{not}
use borrow.Author.Rules.{rules}
use borrow.Author.Tests.{ne_eqb}
use lib.Dec.{eqb}
use lib.IntN.{ℤ}
use mir.Syntax.{w16}
use mir.Val.{SFits, of_z}
use Rattle.solver_residuals.specs.Residuals.{either0, other0}
use Rattle.solver_residuals.proofs.Sums.{zero_bits, other_bits}
use Rattle.solver_residuals.proofs.counts.Goals as goal

-- the test of a number's bits is that of the number
tested : (y : ℤ) → SFits w16 y → (n : ℕ) → of_z w16 y ≡ n → not (eqb n 0) ≡ other0 y
tested y f zero e = sym (zero_bits y f e)
tested y f (suc n) e =
    let h : suc n ≡ 0 → ⊥ = λ z. omega arith in
    rw (ne_eqb (suc n) 0 h) (sym (other_bits y (λ z. h (sym e ∙ z))))

pub returns-then-x-ne0 : goal.returns-then-x-ne0
unfolding either0
returns-then-x-ne0 c = rw (ne_eqb _ 0 c.if-x-ne0.true, other_bits c.args.x c.if-x-ne0.true) refl

pub returns-else-x-ne0 : goal.returns-else-x-ne0
unfolding either0
returns-else-x-ne0 c = rw (zero_bits c.args.x c.ranges.x c.if-x-ne0.false) (tested c.args.y c.ranges.y _ refl)
