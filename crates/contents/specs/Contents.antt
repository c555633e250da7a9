-- The contents of a card, apart from its bytes: how many polynomials, their values, and the points (document 000, section 3.2; document 01,
-- "Patterns and products"). A point may be of any type X: on a card it is a pair.
--
--   Contents X         == contents with points in X
--   product_to v s α    == at a point where polynomial j has the value v j, the value of the product α of the first s polynomials: of each,
--                         its value to its power, where any value to the power 0 is 1
--   pattern_to v s      == the pattern number of such a point: of the first s polynomials, the digit of their sign
--   values_at K x       == the values of the polynomials of the contents K at the point x
--   product_value K α x == the value of the product α of all polynomials of K at the point x
-- query_in K α        == the Tarski query of the product α: the sum over the points of the sign of that value, a point counted as often as
--                         it stands in K
--   pattern_at K x      == the pattern number of the point x
--   patterns_in K       == the patterns of all points, in the points' order
use Rattle.std.specs.Prelude.{List, map, ℕ, zero, suc, ◌+◌, ◌*◌, ◌/◌, ◌%◌, ◌^◌, ℤ, pos, ◌*ℤ◌}
use Rattle.integers.specs.Sign.{sgn_ℤ}
use Rattle.integers.specs.Sums.{sum_ℤ}
use Rattle.integers.specs.Powers.{power}
use Rattle.signs.specs.Signs.{sign_digit}

pub record Contents (X : Type 0) : Type 0 where
  pub s : ℕ  -- how many polynomials
  pub value : ℕ → X → ℤ  -- of polynomial j, from 0, at a point
  pub points : List X

-- ---- one point, by the values of the polynomials there

unfoldable pub product_to : (ℕ → ℤ) → ℕ → ℕ → ℤ
product_to v zero α = pos 1
product_to v (suc s) α = power (v s) (α / 3 ^ s) *ℤ product_to v s (α % 3 ^ s)

unfoldable pub pattern_to : (ℕ → ℤ) → ℕ → ℕ
pattern_to v zero = 0
pattern_to v (suc s) = pattern_to v s + sign_digit (v s) * 3 ^ s

-- ---- the contents

module _ {X : Type 0} where
  abbrev pub values_at : Contents X → X → ℕ → ℤ
  values_at K x j = K.value j x

  abbrev pub product_value : Contents X → ℕ → X → ℤ
  product_value K α x = product_to (values_at K x) K.s α

  unfoldable pub query_in : Contents X → ℕ → ℤ
  query_in K α = sum_ℤ (map (λ x. sgn_ℤ (product_value K α x)) K.points)

  abbrev pub pattern_at : Contents X → X → ℕ
  pattern_at K x = pattern_to (values_at K x) K.s

  unfoldable pub patterns_in : Contents X → List ℕ
  patterns_in K = map (pattern_at K) K.points
