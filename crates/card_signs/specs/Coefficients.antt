-- The coefficients of a polynomial on the line, taken off the card once for all its points.
--
--   line_coefficients c j == those of polynomial j of the card c, from the constant up, seven in all; 0 throughout where the card's points
--                           are in the plane, whose polynomials have terms
use Rattle.std.specs.Prelude.{cond, List, ℕ, ℤ, pos, replicate}
use Rattle.layout.specs.Format.{offset}
use Rattle.layout.specs.Values.{coefficients}
use Rattle.plane.specs.Format.{is_plane}

unfoldable pub line_coefficients : List ℕ → ℕ → List ℤ
line_coefficients c j = cond (is_plane c) (replicate 7 (pos 0)) (coefficients c (offset c j))
