-- The end of a round by two questions to the solver on the rows before it. That it is right is `round_rows_right` of proofs/.
--
-- A row of count d, extended by the three signs of the next polynomial, has counts with sign 0, + and −. Let e be + less −, and g + and −.
--
--   with_zero, with_plus, with_minus == the three counts d − g, (g + e) / 2 and (g − e) / 2, from d, e and g
--   splits d e g                  == the test that the three counts from d, e and g are whole numbers, 0 or more
--   all_split R es gs              == the test that each row of R splits, with e and g in es and gs
--   extended_by c f R es gs        == the rows of R with c added to the pattern and the count f of d, e and g, those with a count above 0
--   extended_rows i R es gs        == the rows of R extended by each of the three signs
--   judged i R es gs              == the rows of round i + 1 from es and gs; none where a count is no whole number, 0 or more
--   by_moments i R₀ ws             == the rows of round i + 1: es solve for the first half of its answers, gs for the second
use Rattle.std.specs.Prelude.{Bool, true, false, cond, ◌&&◌, List, [], ◌∷◌, ◌++◌, ℕ, ◌+◌, ◌*◌, ◌^◌, ◌/◌, ◌%◌, eqb, ℤ, pos, nat_abs, ◌+ℤ◌}
use Rattle.std.specs.Prelude.{◌-ℤ◌, length, take, drop}
use Rattle.std.proofs.Math.Option.{Option, some, none}
use Rattle.std.specs.Int.Signed.{le_z}
use Rattle.solutions.specs.Solver.{and_then, solver_of}
use Rattle.rounds.specs.Rows.{Row, patterns, row_if}

abbrev pub with_zero : ℕ → ℤ → ℤ → ℕ
with_zero d e g = nat_abs (pos d -ℤ g)

abbrev pub with_plus : ℕ → ℤ → ℤ → ℕ
with_plus d e g = nat_abs (g +ℤ e) / 2

abbrev pub with_minus : ℕ → ℤ → ℤ → ℕ
with_minus d e g = nat_abs (g -ℤ e) / 2

unfoldable pub splits : ℕ → ℤ → ℤ → Bool
splits d e g = le_z g (pos d) && le_z (pos 0) (g +ℤ e) && le_z (pos 0) (g -ℤ e) && eqb (nat_abs (g +ℤ e) % 2) 0

unfoldable pub all_split : List Row → List ℤ → List ℤ → Bool
all_split [] es gs = true
all_split (r ∷ R) [] gs = false
all_split (r ∷ R) (e ∷ es) [] = false
all_split (r ∷ R) (e ∷ es) (g ∷ gs) = splits r.count e g && all_split R es gs

unfoldable pub extended_by : ℕ → (ℕ → ℤ → ℤ → ℕ) → List Row → List ℤ → List ℤ → List Row
extended_by c f [] es gs = []
extended_by c f (r ∷ R) [] gs = []
extended_by c f (r ∷ R) (e ∷ es) [] = []
extended_by c f (r ∷ R) (e ∷ es) (g ∷ gs) = row_if (r.pattern + c) (f r.count e g) ++ extended_by c f R es gs

unfoldable pub extended_rows : ℕ → List Row → List ℤ → List ℤ → List Row
extended_rows i R es gs = extended_by 0 with_zero R es gs ++
    (extended_by (3 ^ i) with_plus R es gs ++ extended_by (2 * 3 ^ i) with_minus R es gs)

unfoldable pub judged : ℕ → List Row → List ℤ → List ℤ → Option (List Row)
judged i R es gs = cond (all_split R es gs) (some (extended_rows i R es gs)) none

unfoldable pub by_moments : ℕ → List Row → List ℤ → Option (List Row)
by_moments i R₀ ws =
    and_then (solver_of i (patterns R₀) (take (length R₀) ws)) λ es.
    and_then (solver_of i (patterns R₀) (drop (length R₀) ws)) λ gs.
    judged i R₀ es gs
