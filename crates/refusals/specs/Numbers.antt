-- The numbers that refuse (document 01, "Cause, and what the caller gets"; from 16 on, document 02), and causes in order.
--
--   wrong_length      == 1, the card is shorter or longer than it says, or a list of coefficients is not as long as the degrees say
--   wrong_byte        == 2, byte 0 or byte 3 is wrong
--   wrong_count       == 3, s or n is outside its limits
--   wrong_offset      == 4, an offset is other than the place its body begins
--   wrong_coefficient == 5, a coefficient is outside its limits
--   wrong_point       == 6, a point is outside its limits or falling
--   late             == 7, an answer after done or closed; rows wanted before done or after closed
--   bad_first         == 8, the first answer is below 0 or above 64
--   bad_later         == 9, a later answer is outside −n .. n
--   no_counts         == 10, a round's answers fit no counts
--   wrong_list        == 11, the solver's list is not rising, too long or has a pattern above 3^s − 1, or there are not as many numbers
--   no_solution       == 12, the solver's numbers have no solution
--   wrong_product     == 13, the product number is above 3^s − 1
--   past_last         == 14, the position is past the last polynomial or row
--   too_short         == 15, an output slice is too short
--   wrong_degree      == 16, a degree is above 6
--   zero_top          == 17, the top coefficient is 0 though the degree is not
--   wrong_terms       == 18, of a polynomial in the plane: over 9 terms, powers above 6 together, terms that do not rise, or a coefficient
--                       of 0
--   card_numbers      == the numbers that refuse a card
--   closing_numbers   == the numbers that close a run
--   is_among m l      == the test that the number m stands in the list l
--   Among l m        == the number m stands in the list l
--   m when t         == the cause t: the number m where t holds, and 0, no refusal, where it does not
--   a ▸ b            == first a, then b: a, unless it is 0; then b
--   unless m f a     == a where the number m is 0, and f m where it refuses
use Rattle.std.specs.Prelude.{◌≡◌, Bool, true, false, ◌||◌, List, [], ◌∷◌, ℕ, zero, suc, eqb}

abbrev pub wrong_length : ℕ
wrong_length = 1

abbrev pub wrong_byte : ℕ
wrong_byte = 2

abbrev pub wrong_count : ℕ
wrong_count = 3

abbrev pub wrong_offset : ℕ
wrong_offset = 4

abbrev pub wrong_coefficient : ℕ
wrong_coefficient = 5

abbrev pub wrong_point : ℕ
wrong_point = 6

abbrev pub late : ℕ
late = 7

abbrev pub bad_first : ℕ
bad_first = 8

abbrev pub bad_later : ℕ
bad_later = 9

abbrev pub no_counts : ℕ
no_counts = 10

abbrev pub wrong_list : ℕ
wrong_list = 11

abbrev pub no_solution : ℕ
no_solution = 12

abbrev pub wrong_product : ℕ
wrong_product = 13

abbrev pub past_last : ℕ
past_last = 14

abbrev pub too_short : ℕ
too_short = 15

abbrev pub wrong_degree : ℕ
wrong_degree = 16

abbrev pub zero_top : ℕ
zero_top = 17

abbrev pub wrong_terms : ℕ
wrong_terms = 18

-- ---- which numbers they are

unfoldable pub card_numbers : List ℕ
card_numbers =
    wrong_length ∷ wrong_byte ∷ wrong_count ∷ wrong_offset ∷ wrong_coefficient ∷ wrong_point ∷ wrong_degree ∷ zero_top ∷ wrong_terms ∷ []

unfoldable pub closing_numbers : List ℕ
closing_numbers = bad_first ∷ bad_later ∷ no_counts ∷ []

unfoldable pub is_among : ℕ → List ℕ → Bool
is_among m [] = false
is_among m (k ∷ l) = eqb m k || is_among m l

pub record Among (l : List ℕ) (m : ℕ) : Type 0 where
  pub stands : is_among m l ≡ true

-- ---- causes in order

infix 3 ◌when◌
abbrev pub ◌when◌ : ℕ → Bool → ℕ
m when true = m
m when false = 0

infixr 2 ◌▸◌
abbrev pub ◌▸◌ : ℕ → ℕ → ℕ
zero ▸ b = b
suc a ▸ b = suc a

abbrev pub unless : {A : Type 0} → ℕ → (ℕ → A) → A → A
unless zero refused a = a
unless (suc m) refused a = refused (suc m)
