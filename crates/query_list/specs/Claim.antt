-- What a call on a list of products gives, in the words of document 02, wish 5, and apart from the definition that its contract cites. That
-- the calls keep it, known by their contracts alone, is proofs/Calls.antt.
--
--   AllBelow b l                    == each number of l is below b
--   FirstPast b l p                 == at the position p, from 0, stands the first number of l that is b or above
--   ListGives s number l out o out' == a call on the list l of products of s polynomials and the slice out, on a card that is not refused,
--                                      answers o and leaves out': 15 for a short slice, then 13 with the position of the first bad
--                                      product, each exactly for its cause, leave the slice as it was; else number k of the slice is that
--                                      of product k, and what lies past the numbers is as it was
--   Kept m out o out'               == the number m refuses, with no position, and the slice is as it was
--   QueryAllGives c l out o out'    == a call on the card c: by its number where it is refused
--   AskAllGives k l out o out'      == a call on the opened card k, whatever it holds: a card's number is given as it stands, any other is
--                                      3, and so are s and n outside their limits
use Rattle.std.specs.Prelude.{◌≡◌, ◌≢◌, ◌↔◌, List, ℕ, ◌^◌, ◌<◌, ◌≤◌, ℤ, pos, length, get_or, drop}
use Rattle.refusals.specs.Numbers.{card_numbers, Among}
use Rattle.refusals.specs.Refusals.{by_number}
use Rattle.refusals.specs.declared.Refusal.{Refusal}
use Rattle.signs.specs.Signs.{query}
use Rattle.layout.specs.Format.{polynomials}
use Rattle.card.specs.Card.{refusal}
use Rattle.card.specs.Sound.{Sound}
use Rattle.query.specs.Query.{query_of, patterns_of}
use Rattle.query.specs.Opened.{summed}
use Rattle.query.specs.Claim.{InLimits}
use Rattle.query.specs.declared.Opened.{Opened}
use Rattle.query_list.specs.Listing.{Listed, written, refused, refused_at}

abbrev pub AllBelow : ℕ → List ℕ → Type 0
AllBelow b l = (k : ℕ) → k < length l → get_or l k 0 < b

pub record FirstPast (b : ℕ) (l : List ℕ) (p : ℕ) : Type 0 where
  pub stands : p < length l
  pub past : b ≤ get_or l p 0
  pub first : (k : ℕ) → k < p → get_or l k 0 < b

pub record ListGives (s : ℕ) (number : ℕ → ℤ) (l : List ℕ) (out : List ℤ) (o : Listed) (out' : List ℤ) : Type 0 where
  pub is_15 : (e : Refusal) → (o ≡ refused e) ↔ ((e ≡ by_number 15) × (length out < length l))
  pub is_13 : (e : Refusal) (p : ℕ) → (o ≡ refused_at e p) ↔ ((e ≡ by_number 13) × (length l ≤ length out) × FirstPast (3 ^ s) l p)
  pub is_written : (o ≡ written) ↔ ((length l ≤ length out) × AllBelow (3 ^ s) l)
  pub kept : o ≢ written → out' ≡ out
  pub shown : o ≡ written → (k : ℕ) → k < length l → get_or out' k (pos 0) ≡ number (get_or l k 0)
  pub rest : o ≡ written → drop (length l) out' ≡ drop (length l) out
  pub as_long : length out' ≡ length out

abbrev pub Kept : ℕ → List ℤ → Listed → List ℤ → Type 0
Kept m out o out' = (o ≡ refused (by_number m)) × (out' ≡ out)

pub record QueryAllGives (c l : List ℕ) (out : List ℤ) (o : Listed) (out' : List ℤ) : Type 0 where
  pub refused : (Sound c → ⊥) → Among card_numbers (refusal c) × Kept (refusal c) out o out'
  -- the sum over the points of the sign of the product's value
  pub by_values : Sound c → ListGives (polynomials c) (query_of c) l out o out'
  -- and of the product of the signs, from the points' patterns
  pub by_signs : Sound c → ListGives (polynomials c) (query (polynomials c) (patterns_of c)) l out o out'

pub record AskAllGives (k : Opened) (l : List ℕ) (out : List ℤ) (o : Listed) (out' : List ℤ) : Type 0 where
  pub own : Among card_numbers k.refusal → Kept k.refusal out o out'
  pub no_card's : k.refusal ≢ 0 → (Among card_numbers k.refusal → ⊥) → Kept 3 out o out'
  pub limits : k.refusal ≡ 0 → (InLimits k → ⊥) → Kept 3 out o out'
  pub by_bits : k.refusal ≡ 0 → InLimits k → ListGives k.s (summed k) l out o out'
