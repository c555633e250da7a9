-- Tests of whole numbers.
--
--   any_below f n == f holds of a number below n
--   outside b z  == z is below −b or above b
use Rattle.std.specs.Prelude.{Bool, false, ◌||◌, ℕ, zero, suc, ltb, ℤ, nat_abs}

unfoldable pub any_below : (ℕ → Bool) → ℕ → Bool
any_below f zero = false
any_below f (suc n) = any_below f n || f n

abbrev pub outside : ℕ → ℤ → Bool
outside b z = ltb b (nat_abs z)
