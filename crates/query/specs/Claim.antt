-- DEMAND 2, its first sentence: what a query of a product on a card shows, as document 000 has it (section 3.2); and document 02's wish 4,
-- what it tells. Causes and their order are said anew; the query itself is said twice, by `query_of`, which the contracts' definitions cite
-- too, and by the signs of the points' patterns, and so are the counts. That the calls keep it, known by their contracts alone, is
-- proofs/Calls.antt.
--
--   Shown, shown_of o               == what the panel shows of the answer o: the first count less the second, or the number that refuses
--   QueryGives c α o               == of the answer o to a query of the product α on the card c the panel shows: on a sound card the sum
--                                     over the points of the product's sign, or 13 where there is no such product; on any other card the
--                                     number that refuses it
--   QueryTells c α o               == and o tells at how many of the points the product is positive, negative and 0
--   InLimits o                     == s and n of the opened card o are those of some card
--   OpenedGives o α refused what r == what the opened card o answers, r, whatever its fields hold: a card's number is given as it stands,
--                                     any other is 3, and so are s and n outside their limits; then 13; else `what`
--   OpenedTells o α r              == the opened card o answers r: at how many of its points the sign of the product, on the pattern that
--                                     the bits say, is +, − and 0; the panel shows the sum of these signs; and the three add up to the
--                                     points
use Rattle.std.specs.Prelude.{◌≡◌, ◌≢◌, List, ℕ, ◌^◌, ◌<◌, ◌≤◌, ℤ, length, Result, Ok, Err}
use Rattle.refusals.specs.Numbers.{card_numbers, Among}
use Rattle.refusals.specs.Refusals.{number_of, refusing}
use Rattle.refusals.specs.declared.Refusal.{Refusal}
use Rattle.signs.specs.Signs.{query}
use Rattle.sign_counts.specs.Counts.{panel_number, in_all}
use Rattle.sign_counts.specs.declared.SignCounts.{SignCounts}
use Rattle.contents.specs.Counts.{pattern_counts}
use Rattle.layout.specs.Format.{polynomials}
use Rattle.plane.specs.Contents.{contents_of}
use Rattle.card.specs.Claim.{CardGives}
use Rattle.query.specs.Query.{query_of, counts_of, patterns_of}
use Rattle.query.specs.Opened.{counts_on, summed}
use Rattle.query.specs.declared.Opened.{Opened}

-- what the panel shows
pub data Shown : Type 0 where
  number : ℤ → Shown
  refused : ℕ → Shown

abbrev pub shown_of : Result SignCounts Refusal → Shown
shown_of (Ok t) = number (panel_number t)
shown_of (Err e) = refused (number_of e)

abbrev Shows : List ℕ → ℕ → Result SignCounts Refusal → ℤ → Type 0
Shows c α o z = CardGives c (α < 3 ^ polynomials c) 13 refused (number z) (shown_of o)

pub record QueryGives (c : List ℕ) (α : ℕ) (o : Result SignCounts Refusal) : Type 0 where
  -- the sign of the value of the product, "power 0 of sign 0 being 1"
  pub by_values : Shows c α o (query_of c α)
  -- and the product of the signs, from the points' patterns
  pub by_signs : Shows c α o (query (polynomials c) (patterns_of c) α)

-- ---- all three counts (document 02, wish 4)

abbrev Tells : List ℕ → ℕ → Result SignCounts Refusal → SignCounts → Type 0
Tells c α o t = CardGives c (α < 3 ^ polynomials c) 13 refusing (Ok t) o

pub record QueryTells (c : List ℕ) (α : ℕ) (o : Result SignCounts Refusal) : Type 0 where
  -- the value of the product positive, negative and 0
  pub by_values : Tells c α o (counts_of c α)
  -- its sign on the points' patterns +, − and 0
  pub by_signs : Tells c α o (pattern_counts (polynomials c) (patterns_of c) α)
  -- "The three add up to the points counted."
  pub add_up : (t : SignCounts) → o ≡ Ok t → in_all t ≡ length (contents_of c).points

-- ---- any opened card, also one that no card opens to (demand 1)

abbrev pub InLimits : Opened → Type 0
InLimits o = (1 ≤ o.s) × (o.s ≤ 8) × (o.n ≤ 64)

pub record OpenedGives {A : Type 0} (o : Opened) (α : ℕ) (refused : ℕ → A) (what r : A) : Type 0 where
  pub own : Among card_numbers o.refusal → r ≡ refused o.refusal
  pub no_card's : o.refusal ≢ 0 → (Among card_numbers o.refusal → ⊥) → r ≡ refused 3
  pub limits : o.refusal ≡ 0 → (InLimits o → ⊥) → r ≡ refused 3
  pub past : o.refusal ≡ 0 → InLimits o → 3 ^ o.s ≤ α → r ≡ refused 13
  pub shown : o.refusal ≡ 0 → InLimits o → α < 3 ^ o.s → r ≡ what

pub record OpenedTells (o : Opened) (α : ℕ) (r : Result SignCounts Refusal) : Type 0 where
  pub counts : OpenedGives o α refusing (Ok (counts_on o α)) r
  -- the first less the second is the sum of the signs
  pub panel : OpenedGives o α refused (number (summed o α)) (shown_of r)
  pub add_up : (t : SignCounts) → r ≡ Ok t → in_all t ≡ o.n
