-- Equal integers.
--
--   same x y == the test that x and y are equal: neither is above the other
use Rattle.std.specs.Prelude.{Bool, ◌&&◌, ℤ}
use Rattle.std.specs.Int.Signed.{le_z}

abbrev pub same : ℤ → ℤ → Bool
same x y = le_z x y && le_z y x
