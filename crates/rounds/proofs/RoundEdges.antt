-- Ends of rounds from document 01's edges and traps, computed from the definitions.
use mathlib.Core.Path.{◌≡◌, refl}
use mathlib.Core.Option.{some, none}
use mathlib.Core.List.{List, [], ◌∷◌}
use Prim.Native.Nat.{ℕ}
use lib.IntN.{ℤ, pos, negsuc}
use Rattle.integers.specs.Sums.{sum_abs}
use Rattle.signs.specs.Lists.{times, up_to, keep, shift, is_below, is_rising}
use Rattle.signs.specs.Adapted.{signs_of, restrictions, adapted}
use Rattle.signs.specs.Tally.{fold, tally}
use Rattle.solutions.specs.Solver.{◌⊕◌, ◌⊖◌, half, all_even, queries, block, known1, known2, known_difference, known_sum, glue, by_sign}
use Rattle.solutions.specs.Solver.{combine, solve, lookup, weight_of, values, within_limit, solver_of}
use Rattle.rounds.specs.Rows.{Row, patterns, counts, row_if}
use Rattle.rounds.specs.Moments.{splits, all_split, extended_by, extended_rows, judged, by_moments}
use Rattle.rounds.specs.RoundEnd.{all_positive, sum, proper_rows, round_rows}

abbrev at : ℕ → ℕ → Row
at q k = record { pattern = q; count = k }

pub record RoundEdges : Type 0 where
  -- a sign with count 0 gives no row
  pub two_rows : round_rows 0 (at 0 2 ∷ []) (pos 0 ∷ pos 2 ∷ []) ≡ some (at 1 1 ∷ at 2 1 ∷ [])
  pub one-row : round_rows 0 (at 0 3 ∷ []) (pos 0 ∷ pos 0 ∷ []) ≡ some (at 0 3 ∷ [])
  -- half a point; a count of −1 with each sign
  pub half-point : round_rows 0 (at 0 1 ∷ []) (pos 0 ∷ pos 1 ∷ []) ≡ none
  pub negative_minus : round_rows 0 (at 0 2 ∷ []) (pos 2 ∷ pos 0 ∷ []) ≡ none
  pub negative_plus : round_rows 0 (at 0 2 ∷ []) (negsuc 1 ∷ pos 0 ∷ []) ≡ none
  pub negative_zero : round_rows 0 (at 0 1 ∷ []) (pos 0 ∷ pos 2 ∷ []) ≡ none
  -- 64 points are taken, 65 are not rows of a run
  pub points-64 : round_rows 0 (at 0 64 ∷ []) (pos 64 ∷ pos 64 ∷ []) ≡ some (at 1 64 ∷ [])
  pub points_65 : round_rows 0 (at 0 65 ∷ []) (pos 64 ∷ pos 64 ∷ []) ≡ none
  -- round 3 of 000's example 3.2.13
  pub example : round_rows 2 (at 4 2 ∷ at 8 1 ∷ []) (negsuc 0 ∷ pos 1 ∷ pos 3 ∷ pos 1 ∷ []) ≡ some (at 13 1 ∷ at 22 1 ∷ at 26 1 ∷ [])

pub round_edges : RoundEdges
unfolding round_rows proper_rows is_rising is_below all_positive sum patterns counts by_moments judged all_split splits extended_rows
    extended_by
    row_if solver_of within_limit sum_abs values solve combine by_sign glue known_sum known_difference known1 known2 block queries all_even
    half ◌⊕◌
    ◌⊖◌ lookup weight_of fold tally adapted times shift restrictions keep up_to signs_of
round_edges =
    record {
      two_rows = refl;
      one-row = refl;
      half-point = refl;
      negative_minus = refl;
      negative_plus = refl;
      negative_zero = refl;
      points-64 = refl;
      points_65 = refl;
      example = refl;
    }
