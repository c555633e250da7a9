-- The text of an integer by its sign, and its length.
use mathlib.Core.Path.{◌≡◌, refl}
use mathlib.Core.List.{◌∷◌}
use Prim.Native.Nat.{suc, ◌≤◌}
use native.Mathlib.Omega.{arith}
use lib.IntN.{ℤ, pos, negsuc, nat_abs}
use lib.ListN.{length}
use lib.Signed.{◌≤ℤ◌, ◌<ℤ◌}
use mir.Syntax.{w64}
use mir.Val.{SFits}
use Rattle.integers.proofs.Parts.{int}
use Rattle.lines.specs.Text.{minus, decimal, signed}
use Rattle.lines.proofs.Decimals.{decimal-length}

pub signed_below : (z : ℤ) → z <ℤ pos 0 → signed z ≡ minus ∷ decimal (nat_abs z)
unfolding signed
signed_below (pos n) h = absurd (omega (int, h))
signed_below (negsuc n) h = refl

pub signed_above : (z : ℤ) → pos 0 ≤ℤ z → signed z ≡ decimal (nat_abs z)
unfolding signed
signed_above (pos n) h = refl
signed_above (negsuc n) h = absurd (omega (int, h))

pub signed-length : (z : ℤ) → SFits w64 z → length (signed z) ≤ 20
unfolding signed
signed-length (pos n) h = omega (arith, decimal-length 18 n (omega (arith, h.sfits)))
signed-length (negsuc n) h = omega (arith, decimal-length 18 (suc n) (omega (arith, h.sfits)))
