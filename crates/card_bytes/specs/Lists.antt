-- The degrees, coefficients and points that stand on a card, as lists; and the contents that such lists give.
--
--   degrees_of c         == the degrees of the polynomials of the card c, P1 first
--   coefficients_of c    == the coefficients of all its polynomials, P1 first, constant first
--   points_of c          == its points
--   part ds cs j        == the coefficients of polynomial j, from 0, of polynomials of the degrees ds whose coefficients are cs
--   contents_by ds cs ps == the contents: as many polynomials as degrees, each with its part of the coefficients, and the points
--   Same K L            == the contents K and L are the same: as many polynomials, with equal values everywhere, and the same points
use Rattle.std.specs.Prelude.{◌≡◌, ℕ, zero, suc, ◌+◌, ◌<◌, ℤ, length, take, drop}
use mathlib.Core.List.{List, [], ◌∷◌, map, flat_map}
use Rattle.signs.specs.Lists.{up_to}
use Rattle.polynomials.specs.Values.{evaluate}
use Rattle.contents.specs.Contents.{Contents}
use Rattle.layout.specs.Format.{polynomials, offset, degree, coefficient}
use Rattle.layout.specs.Contents.{line_contents}

unfoldable pub degrees_of : List ℕ → List ℕ
degrees_of c = map (λ j. degree c (offset c j)) (up_to (polynomials c))

unfoldable pub coefficients_of : List ℕ → List ℤ
coefficients_of c = flat_map (λ j. map (coefficient c (offset c j)) (up_to (degree c (offset c j) + 1))) (up_to (polynomials c))

abbrev pub points_of : List ℕ → List ℤ
points_of c = (line_contents c).points

unfoldable pub part : List ℕ → List ℤ → ℕ → List ℤ
part [] cs j = []
part (d ∷ ds) cs zero = take (d + 1) cs
part (d ∷ ds) cs (suc j) = part ds (drop (d + 1) cs) j

abbrev pub contents_by : List ℕ → List ℤ → List ℤ → Contents ℤ
contents_by ds cs ps = record { s = length ds; value = λ j x. evaluate (part ds cs j) x; points = ps }

pub record Same (K L : Contents ℤ) : Type 0 where
  pub polynomials : K.s ≡ L.s
  pub values : (j : ℕ) → j < K.s → (x : ℤ) → K.value j x ≡ L.value j x
  pub points : K.points ≡ L.points
