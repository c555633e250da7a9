-- Lists of products on document 01's card, and the edges of document 02's wish 5, computed from the definitions.
--
--   slice == a slice of five numbers
use mathlib.Core.Path.{◌≡◌, refl}
use mathlib.Core.List.{List, [], ◌∷◌}
use lib.IntN.{ℤ, pos, negsuc}
use lib.ListN.{take}
use Rattle.integers.specs.Sums.{sum_ℤ, sum_to}
use Rattle.integers.specs.Powers.{power}
use Rattle.signs.specs.Lists.{up_to}
use Rattle.contents.specs.Contents.{query_in, product_to}
use Rattle.contents.specs.Distinct.{without, distinct}
use Rattle.layout.specs.Format.{two's, offset, word}
use Rattle.layout.specs.Values.{value}
use Rattle.plane.specs.Contents.{value_at, card_point, same_point}
use Rattle.integers.specs.Search.{any_below}
use Rattle.card.specs.Card.{contents_refusal, header_refusal, polynomial_refusal, coefficients_refusal, bodies_refusal, points_refusal}
use Rattle.card.specs.Card.{refusal}
use Rattle.query.proofs.Edges.{example}
use Rattle.refusals.specs.declared.Refusal.TheVariants.{WrongLength, WrongProduct, TooShort}
use Rattle.query_list.specs.Listing.{written, refused, refused_at, first_bad, listing, card_listing}

abbrev slice : List ℤ
slice = pos 7 ∷ pos 8 ∷ pos 9 ∷ pos 10 ∷ pos 11 ∷ []

pub record ListEdges : Type 0 where
  -- "in the list's order": the lines Q 9 −1, Q 0 3 and Q 1 1; what lies past them is kept
  pub in_order : card_listing example (9 ∷ 0 ∷ 1 ∷ []) slice ≡ (written, negsuc 0 ∷ pos 3 ∷ pos 1 ∷ pos 10 ∷ pos 11 ∷ [])
  -- "The list may be empty and may repeat a product."
  pub none : card_listing example [] slice ≡ (written, slice)
  pub none_to_none : card_listing example [] [] ≡ (written, [])
  pub repeated : card_listing example (9 ∷ 9 ∷ []) (take 2 slice) ≡ (written, negsuc 0 ∷ negsuc 0 ∷ [])
  -- a bad product first, in the middle and last; two bad ones
  pub first_bad_lem : card_listing example (27 ∷ 0 ∷ 1 ∷ []) slice ≡ (refused_at WrongProduct 0, slice)
  pub middle_bad : card_listing example (0 ∷ 27 ∷ 1 ∷ []) slice ≡ (refused_at WrongProduct 1, slice)
  pub last_bad : card_listing example (0 ∷ 26 ∷ 65535 ∷ []) slice ≡ (refused_at WrongProduct 2, slice)
  pub two_bad : card_listing example (0 ∷ 28 ∷ 27 ∷ []) slice ≡ (refused_at WrongProduct 1, slice)
  -- a short slice hides a bad product, and a refused card both
  pub short : card_listing example (27 ∷ 0 ∷ 1 ∷ []) (take 2 slice) ≡ (refused TooShort, take 2 slice)
  pub card-first : card_listing (take 41 example) (27 ∷ 0 ∷ 1 ∷ []) (take 2 slice) ≡ (refused WrongLength, take 2 slice)

pub list_edges : ListEdges
unfolding listing first_bad query_in sum_ℤ sum_to up_to product_to power value value_at card_point offset two's word
    distinct without same_point
    refusal header_refusal contents_refusal bodies_refusal polynomial_refusal coefficients_refusal points_refusal any_below
list_edges = record {
  in_order = refl;
  none = refl;
  none_to_none = refl;
  repeated = refl;
  first_bad_lem = refl;
  middle_bad = refl;
  last_bad = refl;
  two_bad = refl;
  short = refl;
  card-first = refl;
}
