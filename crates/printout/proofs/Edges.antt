-- Document 01's printed card, a card of points in the plane, one that names points twice, a card without points and a refused card, by
-- computing the definitions.
--
--   example == the card of document 01, "One card through": P1 = X, P2 = X + 1, P3 = X − 2 at −3, 1, 3
--   empty   == one polynomial, X, and no points
--   circle  == in the plane, X² + Y² − 25 and X − Y at (−3, 4), (0, 0), (3, 4), (4, 3) and (6, 1)
use mathlib.Core.Path.{◌≡◌, refl}
use mathlib.Core.List.{List, [], ◌∷◌}
use Prim.Native.Nat.{ℕ}
use lib.IntN.{pos, negsuc}
use lib.ListN.{set}
use Rattle.integers.specs.Sums.{sum_ℤ, sum_to}
use Rattle.signs.specs.Lists.{times, up_to, keep, shift}
use Rattle.signs.specs.Adapted.{adapted, restrictions, signs_of}
use Rattle.integers.specs.Powers.{power}
use Rattle.signs.specs.Signs.{sign_digit}
use Rattle.contents.specs.Contents.{product_to, query_in, pattern_to, patterns_in}
use Rattle.contents.specs.Distinct.{without, distinct}
use Rattle.layout.specs.Format.{two's, offset, word}
use Rattle.layout.specs.Values.{value}
use Rattle.plane.specs.Values.{plane_value}
use Rattle.plane.specs.Contents.{value_at, card_point, same_point}
use Rattle.plane.proofs.Examples.{twice}
use Rattle.plane_checks.specs.Checks.{plane_refusal, plane_points_refusal}
use Rattle.integers.specs.Search.{any_below}
use Rattle.card.specs.Card.{contents_refusal, header_refusal, polynomial_refusal, coefficients_refusal, bodies_refusal, points_refusal}
use Rattle.card.specs.Card.{refusal}
use Rattle.rounds.specs.Rows.{restrict, patterns, row_if, rows_of, realized}
use Rattle.rounds.specs.Rounds.{round_of}
use Rattle.lines.specs.Text.{decimal_to, decimal, signed, question_line, row_line, end_line, refusal_line}
use Rattle.printout.specs.Printout.{rounds_to, questions, question_lines, row_lines, sound_lines, lines_of, together, printout_of}

abbrev example : List ℕ
example =
    1 ∷ 3 ∷ 3 ∷ 0 ∷ 0 ∷ 12 ∷ 0 ∷ 21 ∷ 0 ∷ 30 ∷ 0 ∷ 39 ∷ 1 ∷ 0
    ∷ 0 ∷ 0 ∷ 0 ∷ 0 ∷ 0 ∷ 0 ∷ 1 ∷ 1 ∷ 0 ∷ 0 ∷ 0 ∷ 1 ∷ 0 ∷ 0
    ∷ 0 ∷ 1 ∷ 1 ∷ 255 ∷ 255 ∷ 255 ∷ 254 ∷ 0 ∷ 0 ∷ 0 ∷ 1 ∷ 253 ∷ 1 ∷ 3 ∷ []

abbrev circle : List ℕ
circle =
    2 ∷ 2 ∷ 5 ∷ 0 ∷ 0 ∷ 10 ∷ 0 ∷ 29 ∷ 0 ∷ 42
    ∷ 3 ∷ 0 ∷ 0 ∷ 255 ∷ 255 ∷ 255 ∷ 231 ∷ 0 ∷ 2 ∷ 0 ∷ 0 ∷ 0 ∷ 1 ∷ 2 ∷ 0 ∷ 0 ∷ 0 ∷ 0 ∷ 1
    ∷ 2 ∷ 0 ∷ 1 ∷ 255 ∷ 255 ∷ 255 ∷ 255 ∷ 1 ∷ 0 ∷ 0 ∷ 0 ∷ 0 ∷ 1
    ∷ 253 ∷ 4 ∷ 0 ∷ 0 ∷ 3 ∷ 4 ∷ 4 ∷ 3 ∷ 6 ∷ 1 ∷ []

abbrev empty : List ℕ
empty = 1 ∷ 1 ∷ 0 ∷ 0 ∷ 0 ∷ 8 ∷ 0 ∷ 17 ∷ 1 ∷ 0 ∷ 0 ∷ 0 ∷ 0 ∷ 0 ∷ 0 ∷ 0 ∷ 1 ∷ []

-- a card refused by 16: `R 16`
refused-text : printout_of (set example 12 7) ≡ (82 ∷ 32 ∷ 49 ∷ 54 ∷ 10 ∷ [])
unfolding printout_of together lines_of refusal header_refusal contents_refusal bodies_refusal polynomial_refusal coefficients_refusal
    points_refusal any_below offset two's word refusal_line decimal decimal_to
refused-text = refl

-- `Q 0 0` and `E 1`
empty_text : printout_of empty ≡ (81 ∷ 32 ∷ 48 ∷ 32 ∷ 48 ∷ 10 ∷ 69 ∷ 32 ∷ 49 ∷ 10 ∷ [])
unfolding printout_of together lines_of sound_lines question_lines row_lines questions refusal header_refusal contents_refusal
    bodies_refusal
    polynomial_refusal coefficients_refusal points_refusal any_below offset two's word
    question_line end_line decimal decimal_to signed query_in patterns_in up_to sum_ℤ realized rows_of row_if times distinct
empty_text = refl

-- the 15 lines
example_lines : lines_of example ≡
    (question_line 0 (pos 3) ∷ question_line 1 (pos 1) ∷ question_line 2 (pos 3) ∷ question_line 3 (pos 1) ∷ question_line 4 (pos 3)
    ∷ question_line 6 (pos 3) ∷ question_line 7 (pos 1) ∷ question_line 9 (negsuc 0) ∷ question_line 10 (pos 1) ∷ question_line 18 (pos 3)
    ∷ question_line 19 (pos 1) ∷ row_line 13 1 ∷ row_line 22 1 ∷ row_line 26 1 ∷ end_line 11 ∷ [])
unfolding lines_of sound_lines question_lines row_lines questions rounds_to restrict refusal header_refusal contents_refusal bodies_refusal
    polynomial_refusal coefficients_refusal points_refusal any_below offset two's word
    query_in product_to patterns_in pattern_to value value_at card_point sign_digit power up_to sum_ℤ sum_to distinct without same_point
    realized rows_of row_if times patterns round_of adapted restrictions signs_of keep shift
example_lines = refl

-- and those of a card of points in the plane
circle_lines : lines_of circle ≡
    (question_line 0 (pos 5) ∷ question_line 1 (pos 0) ∷ question_line 2 (pos 2) ∷ question_line 3 (pos 0) ∷ question_line 4 (pos 1)
    ∷ question_line 5 (pos 1) ∷ question_line 6 (pos 4) ∷ question_line 7 (pos 1) ∷ question_line 8 (pos 1)
    ∷ row_line 2 1 ∷ row_line 3 1 ∷ row_line 4 1 ∷ row_line 6 2 ∷ end_line 9 ∷ [])
unfolding lines_of sound_lines question_lines row_lines questions rounds_to restrict refusal header_refusal contents_refusal bodies_refusal
    plane_refusal plane_points_refusal any_below offset two's word
    query_in product_to patterns_in pattern_to plane_value value_at card_point sign_digit power up_to sum_ℤ sum_to distinct without
    same_point
    realized rows_of row_if times patterns round_of adapted restrictions signs_of keep shift
circle_lines = refl

-- those of X and Y at (2, 1), (2, 1), (2, 3) and (4, 3): (2, 1) counts once, and the three points have one pattern and count three times
twice_lines : lines_of twice ≡
    (question_line 0 (pos 3) ∷ question_line 1 (pos 3) ∷ question_line 2 (pos 3) ∷ question_line 3 (pos 3) ∷ question_line 6 (pos 3)
    ∷ row_line 4 3 ∷ end_line 5 ∷ [])
unfolding lines_of sound_lines question_lines row_lines questions rounds_to restrict refusal header_refusal contents_refusal bodies_refusal
    plane_refusal plane_points_refusal any_below offset two's word
    query_in product_to patterns_in pattern_to plane_value value_at card_point sign_digit power up_to sum_ℤ sum_to distinct without
    same_point
    realized rows_of row_if times patterns round_of adapted restrictions signs_of keep shift
twice_lines = refl

-- `Q 9 -1`
minus-line : question_line 9 (negsuc 0) ≡ (81 ∷ 32 ∷ 57 ∷ 32 ∷ 45 ∷ 49 ∷ 10 ∷ [])
unfolding question_line decimal decimal_to signed
minus-line = refl
