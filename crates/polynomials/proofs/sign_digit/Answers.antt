-- `polynomials::sign_digit` meets its contract.
use mathlib.Core.Path.{◌≡◌, sym}
use mathlib.Core.Bool.{true, false}
use lib.IntN.{ℤ, pos}
use lib.Signed.{lt_z}
use mir.Syntax.{w64}
use mir.Val.{SFits, to_z, of_z}
use mir.Facts.{to_z-of_z, sfits_lit}
use Rattle.integers.proofs.Parts.{int, ne_parts}
use Rattle.integers.proofs.I64.{same_bits, other_bits}
use Rattle.signs.specs.Signs.{sign_digit}
use Rattle.signs.proofs.SignDigits.{digit-minus, digit_plus, digit-zero}
use Rattle.polynomials.proofs.sign_digit.Goals as goal

module _ (v : ℤ) (f : SFits w64 v) where
  minus : lt_z (to_z w64 (of_z w64 v)) (pos 0) ≡ true → 2 ≡ sign_digit v
  minus h = sym (digit-minus v (omega (int, rw (to_z-of_z f) at h)))

  zero : of_z w64 v ≡ 0 → 0 ≡ sign_digit v
  zero h = sym (digit-zero v (same_bits v (pos 0) f (sfits_lit tt) h))

  plus : lt_z (to_z w64 (of_z w64 v)) (pos 0) ≡ false → (of_z w64 v ≡ 0 → ⊥) → 1 ≡ sign_digit v
  plus h n = sym (digit_plus v (omega (int, rw (to_z-of_z f) at h, ne_parts v (pos 0) (other_bits v (pos 0) n))))

pub returns-then-v-lt0 : goal.returns-then-v-lt0
returns-then-v-lt0 c = minus _ c.ranges.v c.if-v-lt0.true

pub returns-then-v-eq0 : goal.returns-then-v-eq0
returns-then-v-eq0 c = zero _ c.ranges.v c.if-v-eq0.true

pub returns-else-v-eq0 : goal.returns-else-v-eq0
returns-else-v-eq0 c = plus _ c.ranges.v c.if-v-lt0.false c.if-v-eq0.false
