-- The range from −n to n.
--
--   is_within x n == the test −n ≤ x ≤ n, false for every x where n is negative
use Rattle.std.specs.Prelude.{Bool, ◌&&◌, ℤ, neg_ℤ}
use Rattle.std.specs.Int.Signed.{le_z}

unfoldable pub is_within : ℤ → ℤ → Bool
is_within x n = le_z (neg_ℤ n) x && le_z x n
