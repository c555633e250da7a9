-- The numbers that stand on a card (document 01, "The card"). A card is the list of its bytes.
--
--   byte c i           == byte i, from 0 (0 past the end)
--   two's h b          == what b stands for in two's complement: itself below h, and b − 2h from h on
--   polynomials c      == s, how many polynomials the card says it has
--   point_count c       == n, how many points the card says it has
--   offset c j         == offset j, from 0, of the contents: two bytes, high byte first
--   bodies_at c         == where the first body begins: after 4 bytes and s + 1 offsets
--   degree c at        == the degree of the polynomial whose body begins at byte `at`
--   word c i           == the four bytes from byte i on, high byte first
--   size c at          == how many bytes the body that begins at byte `at` has: one, and four for each of its d + 1 coefficients
--   coefficient c at i == the coefficient of X^i in the body that begins at byte `at`: four bytes, two's complement, high byte first
--   point c at k       == point k, from 0, of the points that begin at byte `at`: a signed byte
--   points_at c         == the byte where the points begin, by the contents
--   point_of c k        == point k of the card
use Rattle.std.specs.Prelude.{cond, List, ℕ, ◌+◌, ◌*◌, ◌^◌, ltb, ℤ, pos, ◌-ℤ◌, get_or}

abbrev pub byte : List ℕ → ℕ → ℕ
byte c i = get_or c i 0

unfoldable pub two's : ℕ → ℕ → ℤ
two's h b = cond (ltb b h) (pos b) (pos b -ℤ pos (2 * h))

abbrev pub polynomials : List ℕ → ℕ
polynomials c = byte c 1

abbrev pub point_count : List ℕ → ℕ
point_count c = byte c 2

unfoldable pub offset : List ℕ → ℕ → ℕ
offset c j = byte c (4 + 2 * j) * 256 + byte c (5 + 2 * j)

abbrev pub bodies_at : List ℕ → ℕ
bodies_at c = 4 + 2 * (polynomials c + 1)

abbrev pub degree : List ℕ → ℕ → ℕ
degree c at = byte c at

abbrev pub size : List ℕ → ℕ → ℕ
size c at = 1 + 4 * (degree c at + 1)

unfoldable pub word : List ℕ → ℕ → ℕ
word c i = ((byte c i * 256 + byte c (i + 1)) * 256 + byte c (i + 2)) * 256 + byte c (i + 3)

abbrev pub coefficient : List ℕ → ℕ → ℕ → ℤ
coefficient c at i = two's (2 ^ 31) (word c (at + 1 + 4 * i))

abbrev pub point : List ℕ → ℕ → ℕ → ℤ
point c at k = two's 128 (byte c (at + k))

abbrev pub points_at : List ℕ → ℕ
points_at c = offset c (polynomials c)

abbrev pub point_of : List ℕ → ℕ → ℤ
point_of c k = point c (points_at c) k
