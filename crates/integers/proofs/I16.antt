-- Integers that an `i16` holds, as I64.antt has them for an `i64`.
use mathlib.Core.Path.{◌≡◌}
use Prim.Native.Nat.{◌≤◌}
use lib.IntN.{ℤ, nat_abs}
use mir.Syntax.{w16, w64}
use mir.Val.{SFits, to_z, of_z}
use mir.Facts.{to_z-of_z}
use Rattle.integers.proofs.Parts.{parts, int}

pub fits-small : (z : ℤ) → nat_abs z ≤ 32767 → SFits w16 z
fits-small z h = omega (int, parts z)

pub fits_wide : (z : ℤ) → SFits w16 z → SFits w64 z
fits_wide z h = omega (int, parts z)

-- what is read back from a number's bits
pub back : (x : ℤ) → SFits w16 x → to_z w16 (of_z w16 x) ≡ x
back x h = to_z-of_z h
