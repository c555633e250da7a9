-- Powers of integers.
--
--   power z k == z to the power k, where any z to the power 0 is 1
use Rattle.std.specs.Prelude.{ℕ, zero, suc, ℤ, pos, ◌*ℤ◌}

unfoldable pub power : ℤ → ℕ → ℤ
power z zero = pos 1
power z (suc k) = z *ℤ power z k
