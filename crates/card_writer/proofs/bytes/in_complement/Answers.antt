-- `card_writer::bytes::in_complement` meets its contract.
use mathlib.Core.Path.{◌≡◌, refl, ◌∙◌}
use mathlib.Core.Bool.{true, false}
use Prim.Native.Nat.{ℕ, ◌*◌, ◌≤◌, ◌<◌}
use native.Mathlib.Omega.{arith}
use lib.IntN.{ℤ, pos, nat_abs, ◌+ℤ◌, ◌*ℤ◌}
use lib.Dec.{T}
use lib.Signed.{lt_z, non_neg}
use mir.Syntax.{w32, w64}
use mir.Val.{Fits, SFits, to_z, of_z}
use mir.Facts.{to_z_pos}
use Rattle.integers.proofs.I64.{fits_abs, back_64}
use Rattle.card_bytes.specs.Bytes.{complement}
use Rattle.card_bytes.proofs.Numbers.{complement_less}
use Rattle.card_writer.proofs.Complements.{complement_negative, complement_natural}
use Rattle.card_writer.proofs.bytes.in_complement.Goals as goal

module _ (half : ℕ) (z : ℤ) (p : (nat_abs z < half) × (half ≤ 2147483648)) where
  same : to_z w64 (of_z w64 z) ≡ z
  same = back_64 z (fits_abs z (omega (arith, p)))

  twice : pos 2 *ℤ to_z w64 half ≡ pos (2 * half)
  twice = let e : to_z w64 half ≡ pos half = to_z_pos w64 (omega (arith, p)) in rw e refl

  twice_fits : SFits w64 (pos 2 *ℤ to_z w64 half)
  twice_fits = rw twice (fits_abs (pos (2 * half)) (omega (arith, p)))

  -- what is returned for a number below 0, and for another one
  module _ (t : lt_z (to_z w64 (of_z w64 z)) (pos 0) ≡ true) where
    shifted : to_z w64 (of_z w64 (pos 2 *ℤ to_z w64 half)) +ℤ to_z w64 (of_z w64 z) ≡ pos (complement half z)
    shifted =
        let e : to_z w64 (of_z w64 (pos 2 *ℤ to_z w64 half)) ≡ pos (2 * half) = back_64 _ twice_fits ∙ twice in
        rw (e, same) (complement_negative half z p.0 (rw same at t))

    shifted_fits : SFits w64 (to_z w64 (of_z w64 (pos 2 *ℤ to_z w64 half)) +ℤ to_z w64 (of_z w64 z))
    shifted_fits = rw shifted (fits_abs (pos (complement half z)) (omega (arith, p, complement_less half z p.0)))

    negative : to_z w64 (of_z w64 (to_z w64 (of_z w64 (pos 2 *ℤ to_z w64 half)) +ℤ to_z w64 (of_z w64 z))) ≡ pos (complement half z)
    negative = back_64 _ shifted_fits ∙ shifted

  natural : lt_z (to_z w64 (of_z w64 z)) (pos 0) ≡ false → to_z w64 (of_z w64 z) ≡ pos (complement half z)
  natural t = same ∙ complement_natural half z (rw same at t)

  result : {y : ℤ} → y ≡ pos (complement half z) → (nat_abs y ≡ complement half z) × (nat_abs y < 2 * half)
  result e = rw e (refl, complement_less half z p.0)

  fits : {y : ℤ} → y ≡ pos (complement half z) → T (non_neg y) × Fits w32 (nat_abs y)
  fits e = rw e (tt, omega (arith, p, complement_less half z p.0))

pub returns-then-z-lt0 : goal.returns-then-z-lt0
returns-then-z-lt0 c =
    let a = c.args in result a.half a.z c.requires (negative a.half a.z c.requires c.if-z-lt0.true)

pub returns : goal.returns
returns c =
    let a = c.args in result a.half a.z c.requires (natural a.half a.z c.requires c.if-z-lt0.false)
