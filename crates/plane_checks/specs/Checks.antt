-- Which number refuses a polynomial in X and Y, or points of the plane, on a card (document 02, wish 6).
--
--   unordered c at i         == of the polynomial whose body begins at byte `at`, term i does not rise above the one before it, by the
--                               power of X, then of Y
--   wrong_term c at i         == the powers of term i are together above 6, it does not rise, or its coefficient is 0
--   plane_refusal c at        == the number that refuses the card within that polynomial, or 0
--   below p q                == the point p is below the point q, by X, then by Y
--   plane_falling c at k      == point k, of the points that begin at byte `at`, is below the one before it, by X, then by Y
--   wrong_plane_point c at k   == point k has X or Y outside −100 to 100, or falls
--   plane_points_refusal c at  == the number that refuses the card within the points, which begin at byte `at`, or 0
use Rattle.std.specs.Prelude.{Bool, false, not, ◌||◌, ◌&&◌, List, ℕ, zero, suc, ◌+◌, ◌*◌, ltb, leb, eqb, nat_abs, length}
use Rattle.std.specs.Int.Signed.{lt_z}
use Rattle.refusals.specs.Numbers.{wrong_length, wrong_coefficient, wrong_point, wrong_terms, ◌when◌, ◌▸◌}
use Rattle.refusals.specs.Limits.{most_degree, most_terms, most_coefficient, most_point}
use Rattle.integers.specs.Search.{any_below, outside}
use Rattle.layout.specs.Format.{point_count}
use Rattle.plane.specs.Format.{Point, term_count, plane_size, x_power, y_power, term_coefficient, plane_point}

-- ---- one polynomial
abbrev pub unordered : List ℕ → ℕ → ℕ → Bool
unordered c at zero = false
unordered c at (suc i) =
    ltb (x_power c at (suc i)) (x_power c at i)
    || (eqb (x_power c at (suc i)) (x_power c at i) && leb (y_power c at (suc i)) (y_power c at i))

abbrev pub wrong_term : List ℕ → ℕ → ℕ → Bool
wrong_term c at i =
    ltb most_degree (x_power c at i + y_power c at i) || (unordered c at i || eqb (nat_abs (term_coefficient c at i)) 0)

unfoldable pub plane_refusal : List ℕ → ℕ → ℕ
plane_refusal c at =
    wrong_length when leb (length c) at
    ▸ wrong_terms when ltb most_terms (term_count c at)
    ▸ wrong_length when ltb (length c) (at + plane_size c at)
    ▸ wrong_terms when any_below (wrong_term c at) (term_count c at)
    ▸ wrong_coefficient when any_below (λ i. outside most_coefficient (term_coefficient c at i)) (term_count c at)

-- ---- the points
abbrev pub below : Point → Point → Bool
below p q = lt_z p.0 q.0 || (not (lt_z q.0 p.0) && lt_z p.1 q.1)

abbrev pub plane_falling : List ℕ → ℕ → ℕ → Bool
plane_falling c at zero = false
plane_falling c at (suc k) = below (plane_point c at (suc k)) (plane_point c at k)

abbrev pub wrong_plane_point : List ℕ → ℕ → ℕ → Bool
wrong_plane_point c at k =
    outside most_point (plane_point c at k).0 || (outside most_point (plane_point c at k).1 || plane_falling c at k)

unfoldable pub plane_points_refusal : List ℕ → ℕ → ℕ
plane_points_refusal c at =
    wrong_length when not (eqb (length c) (at + 2 * point_count c))
    ▸ wrong_point when any_below (wrong_plane_point c at) (point_count c)
