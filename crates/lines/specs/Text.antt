-- The text of numbers and of the lines of a printout, as lists of bytes in ASCII (document 01, "One card through").
--
--   decimal_to f n == the digits of n to the base 10, the last one right, f being at least as many as there are
--   decimal n     == the digits of n to the base 10: 0 is `0`, and no other number begins with `0`
--   signed z      == an integer: `-` before a negative one
--   question_line product answer, row_line pattern count, end_line questions, refusal_line number
--                 == "Q product answer; S pattern count; E questions", and "`R` and its number", each with a newline at its end
--   text_of l      == the text that a line of the code holds: its front bytes
--   longest_line   == 29, the most bytes of a line
--   line_room      == 80, the bytes that a line of the code has room for
use Rattle.std.specs.Prelude.{cond, List, [], ◌∷◌, ◌++◌, ℕ, zero, suc, ◌+◌, ◌/◌, ◌%◌, ltb, ℤ, pos, negsuc, take}
use Rattle.lines.specs.declared.Line.{Line}

-- ---- bytes

abbrev pub newline : ℕ
newline = 10

abbrev pub space : ℕ
space = 32

abbrev pub minus : ℕ
minus = 45

abbrev pub digit : ℕ → ℕ
digit d = 48 + d

abbrev pub letter_e : ℕ
letter_e = 69

abbrev pub letter_q : ℕ
letter_q = 81

abbrev pub letter_r : ℕ
letter_r = 82

abbrev pub letter_s : ℕ
letter_s = 83

-- ---- numbers

unfoldable pub decimal_to : ℕ → ℕ → List ℕ
decimal_to zero n = []
decimal_to (suc f) n = cond (ltb n 10) (digit n ∷ []) (decimal_to f (n / 10) ++ (digit (n % 10) ∷ []))

unfoldable pub decimal : ℕ → List ℕ
decimal n = decimal_to (suc n) n

unfoldable pub signed : ℤ → List ℕ
signed (pos n) = decimal n
signed (negsuc n) = minus ∷ decimal (suc n)

-- ---- lines

unfoldable pub question_line : ℕ → ℤ → List ℕ
question_line product answer = (letter_q ∷ space ∷ decimal product) ++ ((space ∷ signed answer) ++ (newline ∷ []))

unfoldable pub row_line : ℕ → ℕ → List ℕ
row_line pattern count = (letter_s ∷ space ∷ decimal pattern) ++ ((space ∷ decimal count) ++ (newline ∷ []))

unfoldable pub end_line : ℕ → List ℕ
end_line questions = (letter_e ∷ space ∷ decimal questions) ++ (newline ∷ [])

unfoldable pub refusal_line : ℕ → List ℕ
refusal_line number = (letter_r ∷ space ∷ decimal number) ++ (newline ∷ [])

abbrev pub longest_line : ℕ
longest_line = 29

abbrev pub line_room : ℕ
line_room = 80

abbrev pub text_of : Line → List ℕ
text_of l = take l.length l.bytes
