-- The Tarski query of a product on a card (document 000, section 3.2; document 01, "Patterns and products"): that of the card's contents,
-- which have each point once (document 02, wish 7).
--
--   query_of c α     == the query of the product α on the card c: the sum over its distinct points of the sign of the product's value
--   counts_of c α    == at how many of its distinct points that value is positive, at how many negative and at how many 0
--   patterns_of c    == the patterns of the card's distinct points, in the card's order
--   query_answer c α == what is shown: the number that refuses the card, then that of the product, else the three counts
use Rattle.std.specs.Prelude.{List, ℕ, ◌^◌, leb, ℤ, Result, Ok}
use Rattle.refusals.specs.Numbers.{wrong_product, ◌when◌, ◌▸◌, unless}
use Rattle.refusals.specs.Refusals.{refusing}
use Rattle.refusals.specs.declared.Refusal.{Refusal}
use Rattle.sign_counts.specs.declared.SignCounts.{SignCounts}
use Rattle.contents.specs.Contents.{query_in, patterns_in}
use Rattle.contents.specs.Counts.{counts_in}
use Rattle.layout.specs.Format.{polynomials}
use Rattle.plane.specs.Contents.{contents_of}
use Rattle.card.specs.Card.{refusal}

abbrev pub query_of : List ℕ → ℕ → ℤ
query_of c α = query_in (contents_of c) α

abbrev pub counts_of : List ℕ → ℕ → SignCounts
counts_of c α = counts_in (contents_of c) α

abbrev pub patterns_of : List ℕ → List ℕ
patterns_of c = patterns_in (contents_of c)

unfoldable pub query_answer : List ℕ → ℕ → Result SignCounts Refusal
query_answer c α = unless (refusal c ▸ wrong_product when leb (3 ^ polynomials c) α) refusing (Ok (counts_of c α))
