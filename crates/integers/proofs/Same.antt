-- The test of equal integers says what it is for.
use mathlib.Core.Path.{◌≡◌, refl}
use mathlib.Core.Bool.{true, false}
use lib.IntN.{ℤ, pos, negsuc}
use lib.Signed.{le_z}
use Rattle.integers.specs.Same.{same}
use Rattle.integers.proofs.Parts.{int}
use Rattle.integers.proofs.Ranges.{both}

pub same_self : (z : ℤ) → same z z ≡ true
same_self z = let t : le_z z z ≡ true = omega int in rw t

pub same_means : (z x : ℤ) → same z x ≡ true → z ≡ x
same_means z x e = let p : (le_z z x ≡ true) × (le_z x z ≡ true) = both _ _ e in omega int

-- 2 and 3 either way about, −1 and −2, −1 and 1; and what is equal
examples : (same (pos 2) (pos 3) ≡ false) × (same (pos 3) (pos 2) ≡ false) × (same (negsuc 0) (negsuc 1) ≡ false)
    × (same (negsuc 0) (pos 1) ≡ false) × (same (negsuc 4) (negsuc 4) ≡ true) × (same (pos 0) (pos 0) ≡ true)
examples = (refl, refl, refl, refl, refl, refl)
