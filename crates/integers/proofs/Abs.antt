-- Absolute values of sums, differences, negations and products.
use mathlib.Core.Path.{◌≡◌, refl}
use Prim.Native.Nat.{ℕ, suc, ◌+◌, ◌*◌, ◌%◌, ◌≤◌}
use native.Mathlib.Nat.{mul-le-mul}
use lib.IntN.{ℤ, pos, negsuc, neg_ℤ, nat_abs, ◌+ℤ◌, ◌-ℤ◌, ◌*ℤ◌}
use lib.Signed.{rem_z}
use Rattle.integers.proofs.Parts.{parts, sum, dif, neg, int}

pub abs_sum : (a b : ℤ) → nat_abs (a +ℤ b) ≤ nat_abs a + nat_abs b
abs_sum a b = omega (int, sum a b, parts a, parts b, parts (a +ℤ b))

pub abs_dif : (a b : ℤ) → nat_abs (a -ℤ b) ≤ nat_abs a + nat_abs b
abs_dif a b = omega (int, dif a b, parts a, parts b, parts (a -ℤ b))

pub abs_neg : (a : ℤ) → nat_abs (neg_ℤ a) ≡ nat_abs a
abs_neg a = omega (int, neg a, parts a, parts (neg_ℤ a))

pub abs_zero : (a : ℤ) → nat_abs a ≡ 0 → a ≡ pos 0
abs_zero a h = omega (int, parts a)

pub abs-* : (a b : ℤ) → nat_abs (a *ℤ b) ≡ nat_abs a * nat_abs b
abs-* (pos m) (pos n) = refl
abs-* (pos m) (negsuc n) = abs_neg (pos (m * suc n))
abs-* (negsuc m) (pos n) = abs_neg (pos (suc m * n))
abs-* (negsuc m) (negsuc n) = refl

-- a bound on a product, from one on each factor
pub abs-*-le : (a b : ℤ) {m n : ℕ} → nat_abs a ≤ m → nat_abs b ≤ n → nat_abs (a *ℤ b) ≤ m * n
abs-*-le a b h k = rw (abs-* a b) (mul-le-mul h k)

-- the remainder's, whatever the signs
pub abs_rem : (a b : ℤ) → nat_abs (rem_z a b) ≡ nat_abs a % nat_abs b
abs_rem (pos m) b = refl
abs_rem (negsuc m) b = abs_neg (pos (suc m % nat_abs b))
