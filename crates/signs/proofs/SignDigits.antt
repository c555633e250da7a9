-- The digit of a sign in a pattern number: 0 for 0, 1 for +, 2 for −.
use mathlib.Core.Path.{◌≡◌, refl}
use Prim.Native.Nat.{zero, suc, ◌<◌}
use native.Mathlib.Omega.{arith}
use lib.IntN.{ℤ, pos, negsuc}
use Rattle.integers.specs.Sign.{sgn_ℤ}
use Rattle.integers.proofs.Parts.{up, dn}
use Rattle.signs.specs.Signs.{sign_of, sign_digit}

-- the sign that the digit of z's sign stands for is z's sign
pub digit-sign : (z : ℤ) → sign_of (sign_digit z) ≡ sgn_ℤ z
unfolding sign_of sign_digit
digit-sign (pos zero) = refl
digit-sign (pos (suc n)) = refl
digit-sign (negsuc n) = refl

pub digit-small : (z : ℤ) → sign_digit z < 3
unfolding sign_digit
digit-small (pos zero) = omega arith
digit-small (pos (suc n)) = omega arith
digit-small (negsuc n) = omega arith

pub digit-minus : (z : ℤ) → 0 < dn z → sign_digit z ≡ 2
unfolding sign_digit
digit-minus (pos n) h = absurd (omega arith)
digit-minus (negsuc n) h = refl

pub digit_plus : (z : ℤ) → 0 < up z → sign_digit z ≡ 1
unfolding sign_digit
digit_plus (pos zero) h = absurd (omega arith)
digit_plus (pos (suc n)) h = refl
digit_plus (negsuc n) h = absurd (omega arith)

pub digit-zero : (z : ℤ) → z ≡ pos 0 → sign_digit z ≡ 0
unfolding sign_digit
digit-zero z e = rw e
