-- Numbers in decimal, off their text in ASCII.
--
--   largest         == 2^32 − 1
--   is_digit b       == the byte b is a digit
--   numeral_from n l == the number whose digits are those of n and then the bytes l; none where a byte is no digit or the number is too
--                      large
--   numeral_of l     == the number that the text l is; the empty one is none
use Rattle.std.specs.Prelude.{Bool, cond, ◌&&◌, List, [], ◌∷◌, ℕ, ◌+◌, ◌*◌, ◌-◌, leb, Option, Some, None}

abbrev pub largest : ℕ
largest = 4294967295

abbrev pub is_digit : ℕ → Bool
is_digit b = leb 48 b && leb b 57

unfoldable pub numeral_from : ℕ → List ℕ → Option ℕ
numeral_from n [] = Some n
numeral_from n (b ∷ l) = cond (is_digit b && leb (n * 10 + (b - 48)) largest) (numeral_from (n * 10 + (b - 48)) l) None

unfoldable pub numeral_of : List ℕ → Option ℕ
numeral_of [] = None
numeral_of (b ∷ l) = numeral_from 0 (b ∷ l)
