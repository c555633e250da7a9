-- The values of a card's polynomials.
--
--   coefficient_below c at m i == coefficient i of the polynomial whose body begins at byte `at`, and 0 from i = m on
--   coefficients c at         == the coefficients of the polynomial whose body begins at byte `at`, from the constant up, and 0 above its
--                                degree: seven in all
--   value c at x              == the value at x of the polynomial whose body begins at byte `at`: the sum of its d + 1 coefficients times
--                                x^i
--   value_of c j k             == the value of polynomial j, from 0, of the card at its point k
use Rattle.std.specs.Prelude.{cond, List, [], ◌∷◌, ℕ, ◌+◌, ltb, ℤ, pos, ◌*ℤ◌}
use Rattle.integers.specs.Sums.{sum_to}
use Rattle.integers.specs.Powers.{power}
use Rattle.layout.specs.Format.{offset, degree, coefficient, point_of}

abbrev pub coefficient_below : List ℕ → ℕ → ℕ → ℕ → ℤ
coefficient_below c at m i = cond (ltb i m) (coefficient c at i) (pos 0)

unfoldable pub coefficients : List ℕ → ℕ → List ℤ
coefficients c at =
    let a = coefficient_below c at (degree c at + 1) in
    a 0 ∷ a 1 ∷ a 2 ∷ a 3 ∷ a 4 ∷ a 5 ∷ a 6 ∷ []

unfoldable pub value : List ℕ → ℕ → ℤ → ℤ
value c at x = sum_to (λ i. coefficient c at i *ℤ power x i) (degree c at + 1)

abbrev pub value_of : List ℕ → ℕ → ℕ → ℤ
value_of c j k = value c (offset c j) (point_of c k)
