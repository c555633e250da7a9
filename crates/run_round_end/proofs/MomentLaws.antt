-- Laws for the call of the solver: what a round leaves where both halves of its answers have a solution, and where not both have one.
use mathlib.Core.Path.{◌≡◌, refl, ◌∙◌}
use mathlib.Core.Bool.{Bool, true, false, cond, ◌&&◌}
use mathlib.Core.Option.{Option, some, none}
use mathlib.Core.List.{List, ◌++◌}
use Prim.Native.Nat.{ℕ, ◌*◌}
use lib.Dec.{eqb}
use lib.IntN.{ℤ}
use lib.ListN.{length}
use lib.Seq.{take_at, drop_at}
use Rattle.signs.proofs.Orders.{below_from, rising_from}
use Rattle.solutions.specs.Solution.{Posed, Solution}
use Rattle.solutions.specs.Solver.{and_then, solver_of}
use Rattle.solutions.proofs.SolverRight.{solver_found}
use Rattle.rounds.specs.Rows.{rows_with}
use Rattle.rounds.specs.Moments.{judged, by_moments}
use Rattle.rounds.specs.RoundEnd.{proper_rows, round_rows}
use Rattle.run_round_end.proofs.StepLaws.{Proper, proper_from, patterns-rows_with, length-rows_with}

-- not both have a solution
abbrev pub NotBoth : ℕ → List ℕ → List ℤ → List ℤ → Type 0
NotBoth i P x y = (us vs : List ℤ) → Solution i P x us → Solution i P y vs → ⊥

module _ (i : ℕ) (P C : List ℕ) (x y : List ℤ) (hC : length C ≡ length P) (hx : length x ≡ length P) (hy : length y ≡ length P) where
  moments_are : by_moments i (rows_with P C) (x ++ y)
      ≡ and_then (solver_of i P x) (λ es. and_then (solver_of i P y) (λ gs. judged i (rows_with P C) es gs))
  unfolding by_moments
  moments_are =
      rw (patterns-rows_with P C hC, length-rows_with P C hC, take_at x y (length P) hx, drop_at x y (length P) hx) refl

  module _ (p : Proper i P C) where
    posed : (z : List ℤ) → length z ≡ length P → Posed i P z
    posed z h = record { rising = rising_from P p.rising; below = below_from _ P p.below; full = h }

    pub moments_both : (es gs : List ℤ) → Solution i P x es → Solution i P y gs
        → by_moments i (rows_with P C) (x ++ y) ≡ judged i (rows_with P C) es gs
    moments_both es gs S T =
        moments_are ∙ rw ((solver_found i P x (posed x hx) es).1 S, (solver_found i P y (posed y hy) gs).1 T) refl

    pub moments_none : NotBoth i P x y → by_moments i (rows_with P C) (x ++ y) ≡ none
    moments_none n = moments_are ∙ go (solver_of i P x) (solver_of i P y) refl refl
      where
        go : (o q : Option (List ℤ)) → solver_of i P x ≡ o → solver_of i P y ≡ q
            → and_then o (λ es. and_then q (λ gs. judged i (rows_with P C) es gs)) ≡ none
        go none q e f = refl
        go (some es) none e f = refl
        go (some es) (some gs) e f =
            absurd (n es gs ((solver_found i P x (posed x hx) es).0 e) ((solver_found i P y (posed y hy) gs).0 f))

  pub rounds_none : NotBoth i P x y → round_rows i (rows_with P C) (x ++ y) ≡ none
  unfolding round_rows
  rounds_none n = go (proper_rows i (rows_with P C)) refl
    where
      tests : (a b : Bool) → (a ≡ true → by_moments i (rows_with P C) (x ++ y) ≡ none)
          → cond (a && b) (by_moments i (rows_with P C) (x ++ y)) none ≡ none
      tests true true f = f refl
      tests true false f = refl
      tests false b f = refl

      go : (a : Bool) → proper_rows i (rows_with P C) ≡ a
          → cond (a && eqb (length (x ++ y)) (2 * length (rows_with P C))) (by_moments i (rows_with P C) (x ++ y)) none ≡ none
      go a e = tests a (eqb (length (x ++ y)) (2 * length (rows_with P C))) (λ t. moments_none (proper_from i P C hC (e ∙ t)) n)
