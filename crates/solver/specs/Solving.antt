-- What a call of the solver answers and leaves in the slice lent to it (document 01, "Cause, and what the caller gets": 3, 11, 15, 12, in
-- the order of its last paragraph).
--
--   cause_of s L xs out == the number of the first cause that refuses a call on s, L, xs and the slice out, 12 aside; 0 where none does
--   answered out r     == the answer and the slice where the solver's result is r: 12 and the slice as it was, or the numbers at its front
--   solve_of s L xs out == the answer of a call on s, L, xs and the slice out, and what the slice holds then
use Rattle.std.specs.Prelude.{not, ◌&&◌, List, ◌++◌, ℕ, leb, ltb, ℤ, length, drop, Result, Ok}
use Rattle.std.proofs.Math.Option.{Option, some, none}
use Rattle.refusals.specs.Limits.{most_polynomials}
use Rattle.refusals.specs.Numbers.{wrong_count, wrong_list, too_short, no_solution, ◌when◌, ◌▸◌, unless}
use Rattle.solutions.specs.Solver.{solver_of}
use Rattle.solutions.specs.Posing.{is_list}
use Rattle.refusals.specs.Refusals.{refusing}
use Rattle.refusals.specs.declared.Refusal.{Refusal}

abbrev pub cause_of : ℕ → List ℕ → List ℤ → List ℤ → ℕ
cause_of s L xs out =
    wrong_count when not (ltb 0 s && leb s most_polynomials)
    ▸ wrong_list when not (is_list s L xs)
    ▸ too_short when not (leb (length L) (length out))

abbrev pub answered : List ℤ → Option (List ℤ) → Result (Unit {0}) Refusal × List ℤ
answered out none = (refusing no_solution, out)
answered out (some ws) = (Ok tt, ws ++ drop (length ws) out)

unfoldable pub solve_of : ℕ → List ℕ → List ℤ → List ℤ → Result (Unit {0}) Refusal × List ℤ
solve_of s L xs out = unless (cause_of s L xs out) (λ m. (refusing m, out)) (answered out (solver_of s L xs))
