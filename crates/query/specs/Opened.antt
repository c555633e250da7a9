-- An opened card, and the query by its words. That the answer of an opened card is `query_answer` of the card is a law, and so is that the
-- operations on words give the sum.
--
--   bit_at w k        == bit k of the word w
--   word_of l         == the word whose bit k is element k of l, for a list of bits
--   point_bits K d j  == of each point of the contents K: 1 where the sign digit of polynomial j there is d, else 0
--   sign_word K d j   == the points where the sign digit of polynomial j is d, one bit each
--   word_in K d s j   == the word of signs d of polynomial j where j is below s, and 0 from s on
--   words_in K d      == the words of the sign digit d for all polynomials, eight in all
--   opened_sound K    == the contents K opened: s, n and the words of the signs, + and −
--   opened_refused m  == a card refused by the number m: no polynomials and no points
--   opened c         == the card c opened
--   digit_by u v      == the sign digit where the bit of `positive` is u and that of `negative` is v: 2 where v is set, else u
--   column_to o s k   == the pattern number of point k: of the first s polynomials, the sign digit that bit k of their words says
--   sign_on o α k     == the sign of the product α at point k of the opened card o, by its column
--   counts_on o α     == at how many points of o that sign is +, at how many − and at how many 0
--   summed o α       == the sum of the signs over the points of o
--   unlimited o      == s is outside 1 .. 8, or n is above 64
--   own_number m      == by what an opened card with the number m is refused: by m, but by 3 where m is neither 0 nor a card's
--   own_refusal o     == the number that refuses the opened card o whatever the product is, or 0: its own, then 3 where s or n is outside
--                       its limits
--   refused_by o α    == the number that refuses the opened card o or the product α, or 0: its own, then 3 where s or n is outside its
--                       limits, then 13 for the product. No card opens to a number of none or outside the limits: an opened card may hold
--                       anything
--   opened_answer o α == what the opened card o answers to the product α: the number that refuses, else the three counts
use Rattle.std.specs.Prelude.{Bool, cond, ◌||◌, List, [], ◌∷◌, map, ℕ, zero, suc, ◌+◌, ◌*◌, ◌/◌, ◌%◌, ◌^◌, eqb, ltb, leb, ℤ, length, get_or}
use Rattle.std.specs.Prelude.{Result, Ok}
use Rattle.std.specs.Prelude.{replicate}
use Rattle.refusals.specs.Numbers.{wrong_count, wrong_product, card_numbers, is_among, ◌when◌, ◌▸◌, unless}
use Rattle.refusals.specs.Refusals.{refusing}
use Rattle.refusals.specs.declared.Refusal.{Refusal}
use Rattle.refusals.specs.Limits.{most_polynomials, most_points}
use Rattle.integers.specs.Sums.{sum_to}
use Rattle.signs.specs.Lists.{up_to}
use Rattle.signs.specs.Signs.{sign, sign_digit}
use Rattle.signs.specs.Bits.{bit_of}
use Rattle.sign_counts.specs.Counts.{sign_counts}
use Rattle.sign_counts.specs.declared.SignCounts.{SignCounts}
use Rattle.contents.specs.Contents.{Contents}
use Rattle.plane.specs.Contents.{contents_of}
use Rattle.card.specs.Card.{refusal}
use Rattle.query.specs.declared.Opened as opened-card

-- ---- words

unfoldable pub bit_at : ℕ → ℕ → ℕ
bit_at w k = w / 2 ^ k % 2

unfoldable pub word_of : List ℕ → ℕ
word_of [] = 0
word_of (b ∷ l) = 2 * word_of l + b

-- ---- contents opened, and a card

module _ {X : Type 0} where
  abbrev pub point_bits : Contents X → ℕ → ℕ → List ℕ
  point_bits K d j = map (λ x. bit_of (sign_digit (K.value j x)) d) K.points

  abbrev pub sign_word : Contents X → ℕ → ℕ → ℕ
  sign_word K d j = word_of (point_bits K d j)

  unfoldable pub word_in : Contents X → ℕ → ℕ → ℕ → ℕ
  word_in K d s j = cond (ltb j s) (sign_word K d j) 0

  unfoldable pub words_in : Contents X → ℕ → List ℕ
  words_in K d = map (word_in K d K.s) (up_to most_polynomials)

  abbrev pub opened_sound : Contents X → opened-card.Opened
  opened_sound K = record { refusal = 0; s = K.s; n = length K.points; positive = words_in K 1; negative = words_in K 2 }

abbrev pub opened_refused : ℕ → opened-card.Opened
opened_refused m = record { refusal = m; s = 0; n = 0; positive = replicate most_polynomials 0; negative = replicate most_polynomials 0 }

unfoldable pub opened : List ℕ → opened-card.Opened
opened c = unless (refusal c) opened_refused (opened_sound (contents_of c))

-- ---- what it answers

abbrev pub digit_by : ℕ → ℕ → ℕ
digit_by u v = cond (eqb v 1) 2 u

unfoldable pub column_to : opened-card.Opened → ℕ → ℕ → ℕ
column_to o zero k = 0
column_to o (suc s) k = column_to o s k + digit_by (bit_at (get_or o.positive s 0) k) (bit_at (get_or o.negative s 0) k) * 3 ^ s

abbrev pub sign_on : opened-card.Opened → ℕ → ℕ → ℤ
sign_on o α k = sign o.s α (column_to o o.s k)

unfoldable pub counts_on : opened-card.Opened → ℕ → SignCounts
counts_on o α = sign_counts (map (sign_on o α) (up_to o.n))

unfoldable pub summed : opened-card.Opened → ℕ → ℤ
summed o α = sum_to (sign_on o α) o.n

abbrev pub unlimited : opened-card.Opened → Bool
unlimited o = ltb o.s 1 || (ltb most_polynomials o.s || ltb most_points o.n)

abbrev pub own_number : ℕ → ℕ
own_number m = unless m (λ k. cond (is_among k card_numbers) k wrong_count) 0

unfoldable pub own_refusal : opened-card.Opened → ℕ
own_refusal o = own_number o.refusal ▸ wrong_count when unlimited o

unfoldable pub refused_by : opened-card.Opened → ℕ → ℕ
refused_by o α =
    own_number o.refusal
    ▸ wrong_count when unlimited o
    ▸ wrong_product when leb (3 ^ o.s) α

unfoldable pub opened_answer : opened-card.Opened → ℕ → Result SignCounts Refusal
opened_answer o α = unless (refused_by o α) refusing (Ok (counts_on o α))
