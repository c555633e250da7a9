-- The value of a polynomial in one variable.
--
--   evaluate p x == the value at x of the polynomial with the coefficients p, from the constant up: the sum of p[i] times x^i to degree 6
use Rattle.std.specs.Prelude.{List, ◌+◌, ℤ, pos, ◌*ℤ◌, get_or}
use Rattle.refusals.specs.Limits.{most_degree}
use Rattle.integers.specs.Sums.{sum_to}
use Rattle.integers.specs.Powers.{power}

unfoldable pub evaluate : List ℤ → ℤ → ℤ
evaluate p x = sum_to (λ i. get_or p i (pos 0) *ℤ power x i) (most_degree + 1)
