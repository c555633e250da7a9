-- Digits as sets of polynomials, one bit each, and the sign of a product on a pattern by them.
-- That `sign_bits` of the digits of two numbers is their `sign` is the law `sign_bits_lem` of proofs/Digitwise.antt.
--
--   bit_of x y            == 1 where x is y, else 0
--   digit_set d s n       == bit j is set where digit j of n is d, for the s digits of n
--   sign_bits a₁ a₂ p₁ p₂ == the sign of the product with powers 1 at a₁ and 2 at a₂ on the pattern with + at p₁ and − at p₂
use Rattle.std.specs.Prelude.{cond, ℕ, zero, suc, ◌+◌, ◌*◌, ◌/◌, ◌%◌, ◌^◌, eqb, ℤ, pos, negsuc}
use Rattle.std.specs.Int.Bits.{bit_and, bit_or}
use Rattle.std.specs.Int.Count.{ones}

abbrev pub bit_of : ℕ → ℕ → ℕ
bit_of x y = cond (eqb x y) 1 0

unfoldable pub digit_set : ℕ → ℕ → ℕ → ℕ
digit_set d zero n = 0
digit_set d (suc s) n = bit_of (n / 3 ^ s) d * 2 ^ s + digit_set d s (n % 3 ^ s)

unfoldable pub sign_bits : (a₁ a₂ p₁ p₂ : ℕ) → ℤ
sign_bits a₁ a₂ p₁ p₂ =
    cond (eqb (bit_and (bit_or a₁ a₂) (bit_or p₁ p₂)) (bit_or a₁ a₂)) (cond (eqb (ones (bit_and a₁ p₂) % 2) 0) (pos 1) (negsuc 0)) (pos 0)
