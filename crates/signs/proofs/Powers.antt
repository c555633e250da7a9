-- The powers of 3: the table of the eight weights, and the largest.
use mathlib.Core.Path.{◌≡◌, refl}
use mathlib.Core.List.{[], ◌∷◌}
use Prim.Native.Nat.{ℕ, zero, suc, ◌*◌, ◌^◌, ◌<◌, ◌≤◌}
use native.Mathlib.Nat.{pow-le-pow_right, pow-succ'}
use native.Mathlib.Omega.{arith}
use lib.ListN.{get_or}
use Rattle.refusals.specs.Limits.{most_polynomials}

pub powers : (j : ℕ) → j < most_polynomials → get_or (1 ∷ 3 ∷ 9 ∷ 27 ∷ 81 ∷ 243 ∷ 729 ∷ 2187 ∷ []) j 0 ≡ 3 ^ j
powers zero h = refl
powers (suc zero) h = refl
powers (suc (suc zero)) h = refl
powers (suc (suc (suc zero))) h = refl
powers (suc (suc (suc (suc zero)))) h = refl
powers (suc (suc (suc (suc (suc zero))))) h = refl
powers (suc (suc (suc (suc (suc (suc zero)))))) h = refl
powers (suc (suc (suc (suc (suc (suc (suc zero))))))) h = refl
powers (suc (suc (suc (suc (suc (suc (suc (suc j)))))))) h = absurd (omega arith)

pub power-most : (i : ℕ) → i ≤ most_polynomials → 3 ^ i ≤ 3 ^ most_polynomials
power-most i h = pow-le-pow_right (omega arith) h

pub power_less : (i : ℕ) → i < most_polynomials → 3 * 3 ^ i ≤ 3 ^ most_polynomials
power_less i h = omega (arith, power-most (suc i) h, pow-succ' 3 i)
