-- Integers that an `i64` holds. A local of the code holds bits: where the code reads x back, a need says `to_z w64 (of_z w64 x)`, and
-- `to_z-of_z` of `mir.Facts` is x again for an x that fits. A test `x == y` is a fact of the bits (`same_bits`), and `<` and `<=` are
-- tests of the integers (`Parts`, `int`).
use mathlib.Core.Path.{◌≡◌, sym, ap, ◌∙◌}
use Prim.Native.Nat.{ℕ, suc, ◌^◌, ◌/◌, ◌<◌}
use native.Mathlib.Nat.{div-le_self}
use native.Mathlib.Omega.{arith}
use lib.IntN.{ℤ, pos, negsuc, neg_ℤ, nat_abs, ◌-ℤ◌}
use lib.Signed.{quot_z, rem_z, mag_rem}
use mir.Syntax.{w64}
use mir.Val.{SFits, to_z, of_z}
use mir.Facts.{to_z_pos, to_z-of_z}
use Rattle.integers.proofs.Parts.{parts, mag_is, neg, dif, int}

-- a small absolute value
pub fits_abs : (z : ℤ) → nat_abs z < 2 ^ 63 → SFits w64 z
fits_abs z h = omega (int, parts z)

-- what is read back from a number's bits
pub back_64 : (x : ℤ) → SFits w64 x → to_z w64 (of_z w64 x) ≡ x
back_64 x h = to_z-of_z h

-- two numbers that fit are equal where their bits are
pub same_bits : (a b : ℤ) → SFits w64 a → SFits w64 b → of_z w64 a ≡ of_z w64 b → a ≡ b
same_bits a b f g e = sym (to_z-of_z f) ∙ ap (to_z w64) e ∙ to_z-of_z g

-- and differ where their bits do
pub other_bits : (a b : ℤ) → (of_z w64 a ≡ of_z w64 b → ⊥) → a ≡ b → ⊥
other_bits a b h e = h (ap (of_z w64) e)

-- the difference of two numbers of at most 32 bits, as the code takes it
module _ (a b : ℕ) (h : a < 2 ^ 32) (k : b < 2 ^ 32) where
  apart : to_z w64 a -ℤ to_z w64 b ≡ pos a -ℤ pos b
  apart =
      let e : to_z w64 a ≡ pos a = to_z_pos w64 (omega arith) in
      let f : to_z w64 b ≡ pos b = to_z_pos w64 (omega arith) in
      rw (e, f)

  pub less_fits : SFits w64 (to_z w64 a -ℤ to_z w64 b)
  less_fits = rw apart (omega (int, dif (pos a) (pos b), parts (pos a -ℤ pos b)))

  pub less_is : to_z w64 (of_z w64 (to_z w64 a -ℤ to_z w64 b)) ≡ pos a -ℤ pos b
  less_is = to_z-of_z less_fits ∙ apart

-- the quotient by a natural number, and every remainder
pub quot_fits : {z : ℤ} (k : ℕ) → SFits w64 z → SFits w64 (quot_z z (pos k))
quot_fits {z} k f = go z f
  where
    go : (z : ℤ) → SFits w64 z → SFits w64 (quot_z z (pos k))
    go (pos a) f = omega (int, div-le_self a k)
    go (negsuc a) f = let q = pos (suc a / k) in omega (int, div-le_self (suc a) k, neg q, mag_is (neg_ℤ q))

pub rem_fits : {z : ℤ} (d : ℤ) → SFits w64 z → SFits w64 (rem_z z d)
rem_fits {z} d f = omega (int, mag_rem z d)

-- both by 2
pub quot2_fits : {z : ℤ} → SFits w64 z → SFits w64 (quot_z z (pos 2))
quot2_fits f = quot_fits 2 f

pub rem2_fits : {z : ℤ} → SFits w64 z → SFits w64 (rem_z z (pos 2))
rem2_fits f = rem_fits (pos 2) f
