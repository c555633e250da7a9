-- The positive and the negative part of an integer, of which one is 0.
--
--   up z == z where it is positive, else 0
--   dn z == −z where z is negative, else 0
use Rattle.std.specs.Prelude.{ℕ, suc, ℤ, pos, negsuc}

abbrev pub up : ℤ → ℕ
up (pos n) = n
up (negsuc n) = 0

abbrev pub dn : ℤ → ℕ
dn (pos n) = 0
dn (negsuc n) = suc n
