-- Two's complement, from the number to its bytes.
use mathlib.Core.Path.{◌≡◌, refl}
use Prim.Native.Nat.{ℕ, ◌*◌, ◌<◌}
use mathlib.Core.Bool.{true, false}
use lib.IntN.{ℤ, pos, negsuc, nat_abs, ◌+ℤ◌}
use lib.Signed.{lt_z}
use Rattle.integers.proofs.Parts.{int, sum}
use Rattle.card_bytes.specs.Bytes.{complement}

module _ (h : ℕ) where
  pub complement_negative : (z : ℤ) → nat_abs z < h → lt_z z (pos 0) ≡ true → pos (2 * h) +ℤ z ≡ pos (complement h z)
  unfolding complement
  complement_negative (pos n) l t = absurd (omega int)
  complement_negative (negsuc n) l t = omega (int, sum (pos (2 * h)) (negsuc n))

  pub complement_natural : (z : ℤ) → lt_z z (pos 0) ≡ false → z ≡ pos (complement h z)
  unfolding complement
  complement_natural (pos n) t = refl
  complement_natural (negsuc n) t = absurd (omega int)
