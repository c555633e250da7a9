-- The contents that the bytes of a card give, of either kind (document 02, wish 6). The line is the X axis of the plane: a point x of the
-- line is the point (x, 0), and a polynomial in X has at (x, y) its value at x. Each distinct point counts once (wish 7: "the points are a
-- finite set").
--
--   value_at c at p == the value at the point p of the polynomial of the card c whose body begins at byte `at`
--   card_point c k  == point k, from 0, of the card c
--   standing_of c   == the polynomials of the card c, and its points in the card's order, as often as they stand on it
--   same_point p q  == the points p and q are one: equal in X and in Y
--   contents_of c   == the contents of the card c: its polynomials, and its points, each once, however often it stands on the card
use Rattle.std.specs.Prelude.{Bool, cond, ◌&&◌, List, map, ℕ, ℤ, pos}
use Rattle.integers.specs.Same.{same}
use Rattle.signs.specs.Lists.{up_to}
use Rattle.contents.specs.Contents.{Contents}
use Rattle.contents.specs.Distinct.{distinct, on_points}
use Rattle.layout.specs.Format.{polynomials, point_count, offset, points_at, point_of}
use Rattle.layout.specs.Values.{value}
use Rattle.plane.specs.Format.{is_plane, Point, plane_point}
use Rattle.plane.specs.Values.{plane_value}

unfoldable pub value_at : List ℕ → ℕ → Point → ℤ
value_at c at p = cond (is_plane c) (plane_value c at p) (value c at p.0)

unfoldable pub card_point : List ℕ → ℕ → Point
card_point c k = cond (is_plane c) (plane_point c (points_at c) k) (point_of c k, pos 0)

abbrev pub standing_of : List ℕ → Contents Point
standing_of c = record { s = polynomials c; value = λ j p. value_at c (offset c j) p; points = map (card_point c) (up_to (point_count c)) }

unfoldable pub same_point : Point → Point → Bool
same_point p q = same p.0 q.0 && same p.1 q.1

abbrev pub contents_of : List ℕ → Contents Point
contents_of c = on_points (standing_of c) (distinct same_point (standing_of c).points)
