-- A number within its limits, as the code tests it.
--
-- z is what a call gave, and fits its bits; x is the number that it is by the call's contract
use mathlib.Core.Path.{◌≡◌, ◌∙◌}
use mathlib.Core.Bool.{Bool, true, false}
use Prim.Native.Nat.{ℕ, ◌≤◌}
use borrow.Author.Tests.{leb-true, leb-false, lt-ltb}
use lib.Dec.{leb}
use lib.IntN.{ℤ, pos, nat_abs}
use mir.Syntax.{w64}
use mir.Val.{SFits, to_z, of_z}
use mir.Facts.{to_z-of_z}
use Rattle.integers.specs.Range.{is_within}
use Rattle.integers.specs.Search.{outside}
use Rattle.integers.proofs.Ranges.{within_abs}

-- the test of the limits −k and k, which gave t
module _ {x z : ℤ} (f : SFits w64 z) (e : z ≡ x) (k : ℕ) {t : Bool} (d : t ≡ is_within (to_z w64 (of_z w64 z)) (pos k)) where
  tested : t ≡ leb (nat_abs x) k
  tested = d ∙ rw (to_z-of_z f, e) (within_abs x k)

  pub is_far : t ≡ false → outside k x ≡ true
  is_far h = lt-ltb k (nat_abs x) (leb-false (nat_abs x) k (rw tested at h))

  pub is_near : t ≡ true → nat_abs x ≤ k
  is_near h = leb-true (nat_abs x) k (rw tested at h)
