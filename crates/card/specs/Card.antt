-- Which cards are refused, and by which number (document 01, "Card order", with 5 split as document 02, wish 1, has it, and with the cards
-- of points in the plane of wish 6, for which `plane_checks` has one polynomial and the points).
--
--   refusal c                == the number that refuses the card c, or 0 where it is sound
--   header_refusal c          == the number that refuses it within the header and the contents, or 0
--   contents_refusal c        == the number that refuses it within the contents, up to the first offset, or 0
--   bodies_refusal c k j at   == the number that refuses it from polynomial j on, whose body begins at byte `at`, or 0; there are k
--                               polynomials left
--   body_refusal c at         == the number that refuses it within the polynomial whose body begins at byte `at`, or 0, by its kind
--   end_refusal c at          == the number that refuses it within what is left, the points, which begin at byte `at`, or 0, by its kind
-- polynomial_refusal c at   == on a card of points on the line, the number that refuses it within the polynomial whose body begins at byte
--                               `at`, or 0
--   coefficients_refusal c at == the number that refuses it for the coefficients of that polynomial, or 0
--   points_refusal c at       == on such a card, the number that refuses it within the points, which begin at byte `at`, or 0
--   falling c at k           == point k is below the one before it
-- position_refusal c j      == the number that refuses position j of a polynomial on the card c, or 0: a card is checked before a position
--   kind_refusal c            == the number that refuses the card c, or 0, where one of points on the line is wanted, up to byte 0: under 4
--                               bytes, 1; byte 0 not 1, 2
--   place_refusal c j p       == the number that refuses position j of a polynomial on the card c or the point p, or 0: X and Y are to be
--                               from −100 to 100
use Rattle.std.specs.Prelude.{Bool, false, cond, not, ◌||◌, ◌&&◌, List, ℕ, zero, suc, ◌+◌, ltb, leb, eqb, nat_abs, length}
use Rattle.std.specs.Int.Signed.{lt_z}
use Rattle.refusals.specs.Numbers.{wrong_length, wrong_byte, wrong_count, wrong_offset, wrong_coefficient, wrong_point, wrong_degree}
use Rattle.refusals.specs.Numbers.{zero_top}
use Rattle.refusals.specs.Numbers.{past_last, ◌when◌, ◌▸◌}
use Rattle.refusals.specs.Limits.{most_polynomials, most_points, most_degree, most_coefficient, most_point}
use Rattle.integers.specs.Search.{any_below, outside}
use Rattle.layout.specs.Format.{byte, polynomials, point_count, offset, bodies_at, degree, size, coefficient, point}
use Rattle.plane.specs.Format.{is_plane, Point}
use Rattle.plane_checks.specs.Checks.{plane_refusal, plane_points_refusal}
use Rattle.card.specs.Kinds.{body_size}

-- ---- on the line: last, the points
abbrev pub falling : List ℕ → ℕ → ℕ → Bool
falling c at zero = false
falling c at (suc k) = lt_z (point c at (suc k)) (point c at k)

unfoldable pub points_refusal : List ℕ → ℕ → ℕ
points_refusal c at =
    wrong_length when not (eqb (length c) (at + point_count c))
    ▸ wrong_point when any_below (λ k. outside most_point (point c at k) || falling c at k) (point_count c)

-- ---- on the line: each polynomial
unfoldable pub coefficients_refusal : List ℕ → ℕ → ℕ
coefficients_refusal c at =
    wrong_coefficient when any_below (λ i. outside most_coefficient (coefficient c at i)) (degree c at + 1)
    ▸ zero_top when (ltb 0 (degree c at) && eqb (nat_abs (coefficient c at (degree c at))) 0)

unfoldable pub polynomial_refusal : List ℕ → ℕ → ℕ
polynomial_refusal c at =
    wrong_length when leb (length c) at
    ▸ wrong_degree when ltb most_degree (degree c at)
    ▸ wrong_length when ltb (length c) (at + size c at)
    ▸ coefficients_refusal c at

-- ---- of either kind
abbrev pub end_refusal : List ℕ → ℕ → ℕ
end_refusal c at = cond (is_plane c) (plane_points_refusal c at) (points_refusal c at)

abbrev pub body_refusal : List ℕ → ℕ → ℕ
body_refusal c at = cond (is_plane c) (plane_refusal c at) (polynomial_refusal c at)

unfoldable pub bodies_refusal : List ℕ → ℕ → ℕ → ℕ → ℕ
bodies_refusal c zero j at = end_refusal c at
bodies_refusal c (suc k) j at =
    body_refusal c at
    ▸ wrong_offset when not (eqb (offset c (suc j)) (at + body_size c at))
    ▸ bodies_refusal c k (suc j) (at + body_size c at)

-- ---- the contents and the header
unfoldable pub contents_refusal : List ℕ → ℕ
contents_refusal c =
    wrong_length when ltb (length c) (bodies_at c)
    ▸ wrong_offset when not (eqb (offset c 0) (bodies_at c))

unfoldable pub header_refusal : List ℕ → ℕ
header_refusal c =
    wrong_length when ltb (length c) 4
    ▸ wrong_byte when (not (eqb (byte c 0) 1 || is_plane c) || not (eqb (byte c 3) 0))
    ▸ wrong_count when (ltb (polynomials c) 1 || ltb most_polynomials (polynomials c))
    ▸ wrong_count when ltb most_points (point_count c)
    ▸ contents_refusal c

unfoldable pub refusal : List ℕ → ℕ
refusal c = header_refusal c ▸ bodies_refusal c (polynomials c) 0 (bodies_at c)

unfoldable pub position_refusal : List ℕ → ℕ → ℕ
position_refusal c j = refusal c ▸ past_last when leb (polynomials c) j

-- ---- what a call has of its own
unfoldable pub kind_refusal : List ℕ → ℕ
kind_refusal c = wrong_length when ltb (length c) 4 ▸ wrong_byte when not (eqb (byte c 0) 1)

unfoldable pub place_refusal : List ℕ → ℕ → Point → ℕ
place_refusal c j p = position_refusal c j ▸ wrong_point when (outside most_point p.0 || outside most_point p.1)
