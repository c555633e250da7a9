-- The solver's lines of document 01's list of edges, computed from the definitions.
use mathlib.Core.Path.{◌≡◌, refl}
use mathlib.Core.Option.{some, none}
use mathlib.Core.List.{[], ◌∷◌}
use lib.IntN.{pos, negsuc}
use Rattle.integers.specs.Sums.{sum_abs}
use Rattle.signs.specs.Lists.{times, up_to, keep, shift}
use Rattle.signs.specs.Adapted.{signs_of, restrictions, adapted}
use Rattle.signs.proofs.Tallies.{fold, tally}
use Rattle.solutions.specs.Solver.{◌⊕◌, ◌⊖◌, half, all_even, queries, block, known1, known2, known_difference, known_sum, glue, by_sign}
use Rattle.solutions.specs.Solver.{combine, solve, lookup, weight_of, values, within_limit, solver_of}

-- s = 3, patterns 13, 22, 26: numbers 3, 1, −1 solve to 1, 1, 1; s = 1, patterns 1, 2: (1, 3) gives 2, −1; (1, 0) is refused;
-- (0, 64) gives 32, −32; (0, 66) is refused
pub solver_edges :
    (solver_of 3 (13 ∷ 22 ∷ 26 ∷ []) (pos 3 ∷ pos 1 ∷ negsuc 0 ∷ []) ≡ some (pos 1 ∷ pos 1 ∷ pos 1 ∷ []))
    × (solver_of 1 (1 ∷ 2 ∷ []) (pos 1 ∷ pos 3 ∷ []) ≡ some (pos 2 ∷ negsuc 0 ∷ []))
    × (solver_of 1 (1 ∷ 2 ∷ []) (pos 1 ∷ pos 0 ∷ []) ≡ none)
    × (solver_of 1 (1 ∷ 2 ∷ []) (pos 0 ∷ pos 64 ∷ []) ≡ some (pos 32 ∷ negsuc 31 ∷ []))
    × (solver_of 1 (1 ∷ 2 ∷ []) (pos 0 ∷ pos 66 ∷ []) ≡ none)
unfolding solver_of within_limit sum_abs weight_of values solve combine by_sign glue known_sum known_difference known1 known2 block queries
    all_even
    half ◌⊕◌ ◌⊖◌ lookup fold tally adapted times shift restrictions keep up_to signs_of
solver_edges = (refl, refl, refl, refl, refl)
