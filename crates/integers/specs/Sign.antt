-- The sign of an integer.
--
--   sgn_ℤ x == −1, 0 or 1, as x is negative, 0 or positive
use Rattle.std.specs.Prelude.{zero, suc, ℤ, pos, negsuc}

abbrev pub sgn_ℤ : ℤ → ℤ
sgn_ℤ (pos zero) = pos 0
sgn_ℤ (pos (suc n)) = pos 1
sgn_ℤ (negsuc n) = negsuc 0
