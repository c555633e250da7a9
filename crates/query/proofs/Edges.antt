-- Document 01's card, product by product, and the edges about queries, computed from the definitions.
--
--   example     == the card of document 01, "One card through": P1 = X, P2 = X + 1, P3 = X − 2 at −3, 1, 3
--   eight       == eight polynomials, each the constant 1, at the point 5
--   root        == X at the point 0
--   around      == X at −1, 0 and 1
--   circle      == in the plane, X² + Y² − 25 and X − Y at (−3, 4), (0, 0), (3, 4), (4, 3) and (6, 1)
--   tells p n z == the answer with these three counts
use mathlib.Core.Path.{◌≡◌, refl}
use mathlib.Core.List.{List, [], ◌∷◌, map}
use Prim.Native.Nat.{ℕ}
use lib.IntN.{pos, negsuc}
use lib.ListN.{take}
use Rattle.std.specs.Prelude.{Result, Ok}
use Rattle.refusals.specs.Refusals.{refusing}
use Rattle.refusals.specs.declared.Refusal.{Refusal}
use Rattle.sign_counts.specs.declared.SignCounts.{SignCounts}
use Rattle.integers.specs.Sums.{sum_to}
use Rattle.signs.specs.Lists.{times, up_to}
use Rattle.integers.specs.Powers.{power}
use Rattle.signs.specs.Signs.{sign_digit}
use Rattle.sign_counts.specs.Counts.{sign_counts}
use Rattle.contents.specs.Contents.{product_to, pattern_to, patterns_in}
use Rattle.contents.specs.Counts.{counts_in}
use Rattle.contents.specs.Distinct.{without, distinct}
use Rattle.layout.specs.Format.{two's, offset, word}
use Rattle.layout.specs.Values.{value}
use Rattle.plane.specs.Values.{plane_value}
use Rattle.plane.specs.Contents.{value_at, card_point, same_point}
use Rattle.plane.proofs.Examples.{again, twice}
use Rattle.plane_checks.specs.Checks.{plane_refusal, plane_points_refusal}
use Rattle.integers.specs.Search.{any_below}
use Rattle.card.specs.Card.{contents_refusal, header_refusal, polynomial_refusal, coefficients_refusal, bodies_refusal, points_refusal}
use Rattle.card.specs.Card.{refusal}
use Rattle.query.specs.Query.{patterns_of, query_answer}
use Rattle.query.specs.Claim.{number, shown_of}

abbrev pub example : List ℕ
example =
    1 ∷ 3 ∷ 3 ∷ 0 ∷ 0 ∷ 12 ∷ 0 ∷ 21 ∷ 0 ∷ 30 ∷ 0 ∷ 39 ∷ 1 ∷ 0
    ∷ 0 ∷ 0 ∷ 0 ∷ 0 ∷ 0 ∷ 0 ∷ 1 ∷ 1 ∷ 0 ∷ 0 ∷ 0 ∷ 1 ∷ 0 ∷ 0
    ∷ 0 ∷ 1 ∷ 1 ∷ 255 ∷ 255 ∷ 255 ∷ 254 ∷ 0 ∷ 0 ∷ 0 ∷ 1 ∷ 253 ∷ 1 ∷ 3 ∷ []

abbrev eight : List ℕ
eight =
    1 ∷ 8 ∷ 1 ∷ 0 ∷ 0 ∷ 22 ∷ 0 ∷ 27 ∷ 0 ∷ 32 ∷ 0 ∷ 37 ∷ 0 ∷ 42 ∷ 0 ∷ 47 ∷ 0 ∷ 52 ∷ 0 ∷ 57 ∷ 0 ∷ 62
    ∷ 0 ∷ 0 ∷ 0 ∷ 0 ∷ 1 ∷ 0 ∷ 0 ∷ 0 ∷ 0 ∷ 1 ∷ 0 ∷ 0 ∷ 0 ∷ 0 ∷ 1 ∷ 0 ∷ 0 ∷ 0 ∷ 0 ∷ 1
    ∷ 0 ∷ 0 ∷ 0 ∷ 0 ∷ 1 ∷ 0 ∷ 0 ∷ 0 ∷ 0 ∷ 1 ∷ 0 ∷ 0 ∷ 0 ∷ 0 ∷ 1 ∷ 0 ∷ 0 ∷ 0 ∷ 0 ∷ 1 ∷ 5 ∷ []

abbrev around : List ℕ
around = 1 ∷ 1 ∷ 3 ∷ 0 ∷ 0 ∷ 8 ∷ 0 ∷ 17 ∷ 1 ∷ 0 ∷ 0 ∷ 0 ∷ 0 ∷ 0 ∷ 0 ∷ 0 ∷ 1 ∷ 255 ∷ 0 ∷ 1 ∷ []

abbrev pub circle : List ℕ
circle =
    2 ∷ 2 ∷ 5 ∷ 0 ∷ 0 ∷ 10 ∷ 0 ∷ 29 ∷ 0 ∷ 42
    ∷ 3 ∷ 0 ∷ 0 ∷ 255 ∷ 255 ∷ 255 ∷ 231 ∷ 0 ∷ 2 ∷ 0 ∷ 0 ∷ 0 ∷ 1 ∷ 2 ∷ 0 ∷ 0 ∷ 0 ∷ 0 ∷ 1
    ∷ 2 ∷ 0 ∷ 1 ∷ 255 ∷ 255 ∷ 255 ∷ 255 ∷ 1 ∷ 0 ∷ 0 ∷ 0 ∷ 0 ∷ 1
    ∷ 253 ∷ 4 ∷ 0 ∷ 0 ∷ 3 ∷ 4 ∷ 4 ∷ 3 ∷ 6 ∷ 1 ∷ []

abbrev tells : ℕ → ℕ → ℕ → Result SignCounts Refusal
tells p n z = Ok (record { positive = p; negative = n; zero = z })

abbrev root : List ℕ
root = 1 ∷ 1 ∷ 1 ∷ 0 ∷ 0 ∷ 8 ∷ 0 ∷ 17 ∷ 1 ∷ 0 ∷ 0 ∷ 0 ∷ 0 ∷ 0 ∷ 0 ∷ 0 ∷ 1 ∷ 0 ∷ []

pub record QueryEdges : Type 0 where
  -- the Q lines: "Q 0 3, Q 1 1, Q 2 3, Q 3 1, Q 4 3, Q 6 3, Q 7 1, Q 9 −1, Q 10 1, Q 18 3, Q 19 1"
  pub printed : map (λ α. shown_of (query_answer example α)) (0 ∷ 1 ∷ 2 ∷ 3 ∷ 4 ∷ 6 ∷ 7 ∷ 9 ∷ 10 ∷ 18 ∷ 19 ∷ [])
      ≡ map number (pos 3 ∷ pos 1 ∷ pos 3 ∷ pos 1 ∷ pos 3 ∷ pos 3 ∷ pos 1 ∷ negsuc 0 ∷ pos 1 ∷ pos 3 ∷ pos 1 ∷ [])
  -- X − 2 is − at −3 and 1, + at 3; the product X (X − 2) is − at 1 alone
  pub counted : map (query_answer example) (0 ∷ 9 ∷ 10 ∷ []) ≡ tells 3 0 0 ∷ tells 1 2 0 ∷ tells 2 1 0 ∷ []
  -- the patterns of its points: − − − at −3, + + − at 1, + + + at 3
  pub patterns : patterns_of example ≡ 26 ∷ 22 ∷ 13 ∷ []
  -- "Product 6,560 is allowed with s = 8; 6,561: 13."
  pub last_product : query_answer eight 6560 ≡ tells 1 0 0
  pub past_last : query_answer eight 6561 ≡ refusing 13
  -- a zero to the powers 0, 1, 2: a panel that shows 0 because the product is 0
  pub at_root : map (query_answer root) (0 ∷ 1 ∷ 2 ∷ []) ≡ tells 1 0 0 ∷ tells 0 0 1 ∷ tells 0 0 1 ∷ []
  -- and one that shows 0 because + and − are as many
  pub both_signs : query_answer around 1 ≡ tells 1 1 1
  -- in the plane: 0 and −, − and 0, 0 and −, 0 and +, + and +; the circle alone, the line alone, and both with a square
  pub plane-patterns : patterns_of circle ≡ 6 ∷ 2 ∷ 6 ∷ 3 ∷ 4 ∷ []
  pub in_plane : map (query_answer circle) (0 ∷ 1 ∷ 3 ∷ 7 ∷ 9 ∷ [])
      ≡ tells 5 0 0 ∷ tells 1 1 3 ∷ tells 2 2 1 ∷ tells 1 0 4 ∷ refusing 13 ∷ []
  -- X at −1, 0, 0, 0, 1 and 1, and X and Y at (2, 1), (2, 1), (2, 3) and (4, 3): a point that stands two or three times counts once
  -- (document 02, wish 7), and others with its X, or with its pattern, for themselves
  pub once : map (query_answer again) (0 ∷ 1 ∷ 2 ∷ []) ≡ tells 3 0 0 ∷ tells 1 1 1 ∷ tells 2 0 1 ∷ []
  pub plane-once : map (query_answer twice) (0 ∷ 1 ∷ 3 ∷ []) ≡ tells 3 0 0 ∷ tells 3 0 0 ∷ tells 3 0 0 ∷ []
  pub one_pattern : patterns_of twice ≡ 4 ∷ 4 ∷ 4 ∷ []
  -- a card cut short is refused before the product
  pub card-first : query_answer (take 41 example) 27 ≡ refusing 1

pub query_edges : QueryEdges
unfolding query_answer counts_in sign_counts times product_to patterns_in pattern_to up_to sum_to power value plane_value value_at
    card_point sign_digit
    offset two's word plane_refusal plane_points_refusal refusal header_refusal contents_refusal bodies_refusal polynomial_refusal
    coefficients_refusal points_refusal any_below distinct without same_point
query_edges =
    record {
      printed = refl;
      counted = refl;
      patterns = refl;
      last_product = refl;
      past_last = refl;
      at_root = refl;
      both_signs = refl;
      plane-patterns = refl;
      in_plane = refl;
      once = refl;
      plane-once = refl;
      one_pattern = refl;
      card-first = refl;
    }
