-- The numbers that stand on a card of points in the plane (document 02, wish 6). Its header and its contents are those of every card
-- (`layout`); polynomials and points differ.
--
--   is_plane c              == byte 0 of the card c is 2: its points are in the plane. A card of points on the line has 1 there
--   Point                  == a point of the plane, X then Y
--   term_count c at         == t, how many terms the polynomial whose body begins at byte `at` has
--   plane_size c at         == how many bytes that body has: one, and six for each term
--   x_power c at i          == the power of X in term i, from 0, of that polynomial: the first byte of the term
--   y_power c at i          == the power of Y in it: the second byte
--   term_coefficient c at i == its coefficient: four bytes, two's complement, high byte first
--   plane_point c at k      == point k, from 0, of the points that begin at byte `at`: two signed bytes, X then Y
use Rattle.std.specs.Prelude.{Bool, List, ℕ, ◌+◌, ◌*◌, ◌^◌, eqb, ℤ}
use Rattle.layout.specs.Format.{byte, two's, word, point}

abbrev pub is_plane : List ℕ → Bool
is_plane c = eqb (byte c 0) 2

abbrev pub Point : Type 0
Point = ℤ × ℤ

abbrev pub term_count : List ℕ → ℕ → ℕ
term_count c at = byte c at

abbrev pub plane_size : List ℕ → ℕ → ℕ
plane_size c at = 1 + 6 * term_count c at

abbrev pub x_power : List ℕ → ℕ → ℕ → ℕ
x_power c at i = byte c (at + 1 + 6 * i)

abbrev pub y_power : List ℕ → ℕ → ℕ → ℕ
y_power c at i = byte c (at + 2 + 6 * i)

abbrev pub term_coefficient : List ℕ → ℕ → ℕ → ℤ
term_coefficient c at i = two's (2 ^ 31) (word c (at + 3 + 6 * i))

abbrev pub plane_point : List ℕ → ℕ → ℕ → Point
plane_point c at k = (point c at (2 * k), point c at (2 * k + 1))
