-- The values of polynomials in X and Y (document 02, wish 6).
--
--   term_value c at p i == at the point p, the value of term i of the polynomial whose body begins at byte `at`: its coefficient times X to
--                         its power of X times Y to its power of Y
--   plane_value c at p  == the value of that polynomial at p: the sum of its terms
use Rattle.std.specs.Prelude.{List, ℕ, ℤ, ◌*ℤ◌}
use Rattle.integers.specs.Sums.{sum_to}
use Rattle.integers.specs.Powers.{power}
use Rattle.plane.specs.Format.{Point, term_count, x_power, y_power, term_coefficient}

abbrev pub term_value : List ℕ → ℕ → Point → ℕ → ℤ
term_value c at p i = term_coefficient c at i *ℤ power p.0 (x_power c at i) *ℤ power p.1 (y_power c at i)

unfoldable pub plane_value : List ℕ → ℕ → Point → ℤ
plane_value c at p = sum_to (term_value c at p) (term_count c at)
