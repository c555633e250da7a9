-- The run's lines of document 01's list of edges, computed from the definitions.
use mathlib.Core.Path.{◌≡◌, refl}
use mathlib.Core.List.{List, [], ◌∷◌, ◌++◌}
use Prim.Native.Nat.{ℕ}
use lib.IntN.{ℤ, pos, negsuc}
use Rattle.integers.specs.Sums.{sum_abs}
use Rattle.signs.specs.Lists.{times, up_to, keep, shift, is_below, is_rising}
use Rattle.signs.specs.Adapted.{signs_of, restrictions, adapted}
use Rattle.signs.specs.Tally.{fold, tally}
use Rattle.solutions.specs.Solver.{◌⊕◌, ◌⊖◌, half, all_even, queries, block, known1, known2, known_difference, known_sum, glue, by_sign}
use Rattle.solutions.specs.Solver.{combine, solve, lookup, weight_of, values, within_limit, solver_of}
use Rattle.rounds.specs.Rows.{Row, patterns, counts, row_if}
use Rattle.rounds.specs.Moments.{splits, all_split, extended_by, extended_rows, judged, by_moments}
use Rattle.rounds.specs.RoundEnd.{all_positive, sum, proper_rows, round_rows}
use Rattle.runs.specs.Run.{Step, ask, done, refused, row, no_row, copied, kept, State, start_of, round_product, answer_of, fetch_rule}
use Rattle.runs.specs.Run.{fetch_of, copy_rule, copy_of}
use Rattle.runs.specs.Demand.{Call, answer, fetch, copy, Event, answered, fetched, copied_to, events}

abbrev at : ℕ → ℕ → Row
at q k = record { pattern = q; count = k }

-- the record after the answers zs, and the steps they got after xs
abbrev run : State → List Step → List ℤ → List Step × List Row × ℕ
run r xs [] = (xs, r.rows, r.total)
run r xs (z ∷ zs) = run (answer_of round_rows r z).0 (xs ++ ((answer_of round_rows r z).1 ∷ [])) zs

-- with s polynomials the answers zs get the steps xs; the record then has the rows R and the question total k
abbrev pub Runs : ℕ → List ℤ → List Step → List Row → ℕ → Type 0
Runs s zs xs R k = run (start_of s) [] zs ≡ (xs, R, k)

-- with s polynomials the calls cs give the events t
abbrev pub Gives : ℕ → List Call → List Event → Type 0
Gives s cs t = events round_rows (start_of s) cs ≡ t

pub record RunEdges : Type 0 where
  -- "Answer 0 first: done, no rows, 1 question. First 64 goes on; 65 or −1: 8."
  pub no_points : (s : ℕ) → Runs s (pos 0 ∷ []) (done ∷ []) [] 1
  pub first-64 : (s : ℕ) → Runs s (pos 64 ∷ []) (ask 1 ∷ []) (at 0 64 ∷ []) 1
  pub first_65 : (s : ℕ) → Runs s (pos 65 ∷ []) (refused 8 ∷ []) [] 1
  pub first_negative : (s : ℕ) → Runs s (negsuc 0 ∷ []) (refused 8 ∷ []) [] 1
  -- "s = 1, answers 2, 0, 2: rows 1 and 2, count 1 each."
  pub two_rows : Runs 1 (pos 2 ∷ pos 0 ∷ pos 2 ∷ []) (ask 1 ∷ ask 2 ∷ done ∷ []) (at 1 1 ∷ at 2 1 ∷ []) 3
  -- "s = 1, answers 3, 0, 0: row 0, count 3."
  pub one-row : Runs 1 (pos 3 ∷ pos 0 ∷ pos 0 ∷ []) (ask 1 ∷ ask 2 ∷ done ∷ []) (at 0 3 ∷ []) 3
  -- "s = 1, answers 1, 0, 1: 10, half a point."
  pub half-point : Runs 1 (pos 1 ∷ pos 0 ∷ pos 1 ∷ []) (ask 1 ∷ ask 2 ∷ refused 10 ∷ []) [] 3
  -- "s = 1, answers 2, 2, 0: 10, a count of −1."
  pub negative_count : Runs 1 (pos 2 ∷ pos 2 ∷ pos 0 ∷ []) (ask 1 ∷ ask 2 ∷ refused 10 ∷ []) [] 3
  -- "s = 1, answers 2, −3: 9; so is −2^63 second."
  pub outside : Runs 1 (pos 2 ∷ negsuc 2 ∷ []) (ask 1 ∷ refused 9 ∷ []) [] 2
  pub outside_lowest : Runs 1 (pos 2 ∷ negsuc 9223372036854775807 ∷ []) (ask 1 ∷ refused 9 ∷ []) [] 2
  -- "The run printed above": 000's example 3.2.13
  pub printed : Runs 3 (pos 3 ∷ pos 1 ∷ pos 3 ∷ pos 1 ∷ pos 3 ∷ pos 3 ∷ pos 1 ∷ negsuc 0 ∷ pos 1 ∷ pos 3 ∷ pos 1 ∷ [])
      (ask 1 ∷ ask 2 ∷ ask 3 ∷ ask 4 ∷ ask 6 ∷ ask 7 ∷ ask 9 ∷ ask 10 ∷ ask 18 ∷ ask 19 ∷ done ∷ []) (at 13 1 ∷ at 22 1 ∷ at 26 1 ∷ []) 11
  -- rows before done; the second row and a third; copies into slices of 1 and of 3; an answer after done
  pub served : Gives 1
      (fetch 0 ∷ copy (9 ∷ []) (9 ∷ []) ∷ answer (pos 2) ∷ answer (pos 0) ∷ answer (pos 2) ∷ fetch 1 ∷ fetch 2 ∷ copy (9 ∷ [])
      (8 ∷ 8 ∷ 8 ∷ [])
      ∷ copy (9 ∷ 9 ∷ 9 ∷ []) (8 ∷ []) ∷ copy (9 ∷ []) (8 ∷ []) ∷ copy (9 ∷ 9 ∷ 9 ∷ []) (8 ∷ 8 ∷ 8 ∷ []) ∷ answer (pos 5) ∷ [])
      (fetched 0 (no_row 7) ∷ copied_to (9 ∷ []) (9 ∷ []) (kept 7 (9 ∷ []) (9 ∷ [])) ∷ answered (pos 2) (ask 1) ∷ answered (pos 0) (ask 2)
      ∷ answered (pos 2) done ∷ fetched 1 (row (at 2 1)) ∷ fetched 2 (no_row 14)
      ∷ copied_to (9 ∷ []) (8 ∷ 8 ∷ 8 ∷ []) (kept 15 (9 ∷ []) (8 ∷ 8 ∷ 8 ∷ []))
      ∷ copied_to (9 ∷ 9 ∷ 9 ∷ []) (8 ∷ []) (kept 15 (9 ∷ 9 ∷ 9 ∷ []) (8 ∷ [])) ∷ copied_to (9 ∷ []) (8 ∷ []) (kept 15 (9 ∷ []) (8 ∷ []))
      ∷ copied_to (9 ∷ 9 ∷ 9 ∷ []) (8 ∷ 8 ∷ 8 ∷ [])
      (record { result = copied 2; patterns_left = 1 ∷ 2 ∷ 9 ∷ []; counts_left = 1 ∷ 1 ∷ 8 ∷ [] })
      ∷ answered (pos 5) (refused 7) ∷ [])
  -- rows and an answer after closed
  pub after-closed : Gives 1 (answer (pos 65) ∷ answer (pos 2) ∷ fetch 0 ∷ copy (9 ∷ []) (8 ∷ []) ∷ [])
      (answered (pos 65) (refused 8) ∷ answered (pos 2) (refused 7) ∷ fetched 0 (no_row 7) ∷ copied_to (9 ∷ []) (8 ∷ [])
      (kept 7 (9 ∷ []) (8 ∷ [])) ∷ [])

pub run_edges : RunEdges
unfolding answer_of round_product round_rows proper_rows is_rising is_below all_positive sum patterns counts by_moments judged all_split
    splits
    extended_rows extended_by row_if solver_of within_limit sum_abs values solve combine by_sign glue known_sum known_difference known1
    known2 block
    queries all_even half ◌⊕◌ ◌⊖◌ lookup weight_of fold tally adapted times shift restrictions keep up_to signs_of fetch_of copy_of
    fetch_rule
    copy_rule events
run_edges =
    record {
      no_points = λ s. refl;
      first-64 = λ s. refl;
      first_65 = λ s. refl;
      first_negative = λ s. refl;
      two_rows = refl;
      one-row = refl;
      half-point = refl;
      negative_count = refl;
      outside = refl;
      outside_lowest = refl;
      printed = refl;
      served = refl;
      after-closed = refl;
    }
