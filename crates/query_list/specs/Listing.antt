-- What a call on a list of products answers and leaves in the slice lent to it (document 02, wish 5: "The card is checked first, then the
-- slice length by 15, then the products").
--
--   Listed                      == what a call answers: that the numbers are written, or why none is
--   written, refused e, refused_at e p == that they are; refused by e, with no position; refused by e, with the position p
--   first_bad b l               == the position, from 0, of the first number of l that is b or above; the length of l where there is none
--   numbers_put number l out    == the slice out with number a, for each product a of l in order, at its front
--   listing m s number l out   == the answer of a call on the list l of products of s polynomials and the slice out, and what the slice
--                                 holds then, where m is the number that refuses the card, or 0, and number a the panel number of a
--   card_listing c l out        == the same on the card c
--   opened_listing o l out      == the same on the opened card o
use Rattle.std.specs.Prelude.{cond, List, [], ◌∷◌, ◌++◌, map, ℕ, suc, ◌^◌, leb, ltb, ℤ, None, Some, Result, Ok, Err, length, drop}
use Rattle.refusals.specs.Numbers.{wrong_product, too_short, ◌when◌, ◌▸◌, unless}
use Rattle.refusals.specs.Refusals.{by_number}
use Rattle.refusals.specs.declared.Refusal.{Refusal}
use Rattle.layout.specs.Format.{polynomials}
use Rattle.card.specs.Card.{refusal}
use Rattle.query.specs.Query.{query_of}
use Rattle.query.specs.Opened.{summed, own_refusal}
use Rattle.query.specs.declared.Opened.{Opened}
use Rattle.query_list.specs.declared.ListRefusal.{ListRefusal}

-- the answers
abbrev pub Listed : Type 0
Listed = Result (Unit {0}) ListRefusal

abbrev pub written : Listed
written = Ok tt

abbrev pub refused : Refusal → Listed
refused e = Err (record { refusal = e; position = None })

abbrev pub refused_at : Refusal → ℕ → Listed
refused_at e p = Err (record { refusal = e; position = Some p })

unfoldable pub first_bad : ℕ → List ℕ → ℕ
first_bad b [] = 0
first_bad b (a ∷ l) = cond (leb b a) 0 (suc (first_bad b l))

abbrev pub numbers_put : (ℕ → ℤ) → List ℕ → List ℤ → List ℤ
numbers_put number l out = map number l ++ drop (length l) out

unfoldable pub listing : ℕ → ℕ → (ℕ → ℤ) → List ℕ → List ℤ → Listed × List ℤ
listing m s number l out =
    unless (m ▸ too_short when ltb (length out) (length l)) (λ k. (refused (by_number k), out))
    (cond (ltb (first_bad (3 ^ s) l) (length l)) (refused_at (by_number wrong_product) (first_bad (3 ^ s) l), out)
    (written, numbers_put number l out))

abbrev pub card_listing : List ℕ → List ℕ → List ℤ → Listed × List ℤ
card_listing c l out = listing (refusal c) (polynomials c) (query_of c) l out

abbrev pub opened_listing : Opened → List ℕ → List ℤ → Listed × List ℤ
opened_listing o l out = listing (own_refusal o) o.s (summed o) l out
