-- The solver's starred lines of document 01's edges, at the level of the call: what it answers and leaves in any slice that has room.
use mathlib.Core.Path.{◌≡◌, refl, ◌∙◌, ap}
use mathlib.Core.Bool.{true}
use mathlib.Core.Option.{Option, some, none}
use mathlib.Core.List.{List, [], ◌∷◌}
use Prim.Native.Nat.{ℕ, ◌≤◌}
use native.Mathlib.Omega.{arith}
use lib.IntN.{ℤ, pos, negsuc}
use lib.ListN.{length}
use Rattle.refusals.specs.Limits.{most_polynomials}
use Rattle.signs.specs.Lists.{is_below, is_rising}
use Rattle.solutions.specs.Solver.{solver_of}
use Rattle.solutions.specs.Posing.{is_list}
use Rattle.solutions.proofs.Edges.{solver_edges}
use Rattle.solver.specs.Solving.{answered, solve_of}
use Rattle.std.specs.Prelude.{Ok, Err}
use Rattle.refusals.specs.declared.Refusal.TheVariants.{NoSolution}
use Rattle.solver.proofs.Answers.{well_posed}

pub record SolverEdges : Type 0 where
  -- "s = 3, patterns 13, 22, 26: .. numbers 3, 1, −1 solve to 1, 1, 1"
  pub three : (x y z : ℤ) (rest : List ℤ) → solve_of 3 (13 ∷ 22 ∷ 26 ∷ []) (pos 3 ∷ pos 1 ∷ negsuc 0 ∷ []) (x ∷ y ∷ z ∷ rest)
      ≡ (Ok tt, pos 1 ∷ pos 1 ∷ pos 1 ∷ rest)
  -- "s = 1, patterns 1, 2: (1, 3) gives 2, −1; (1, 0): 12; (0, 64) gives 32, −32; (0, 66): 12"
  pub negative : (x y : ℤ) (rest : List ℤ) → solve_of 1 (1 ∷ 2 ∷ []) (pos 1 ∷ pos 3 ∷ []) (x ∷ y ∷ rest) ≡ (Ok tt, pos 2 ∷ negsuc 0 ∷ rest)
  pub odd : (x y : ℤ) (rest : List ℤ) → solve_of 1 (1 ∷ 2 ∷ []) (pos 1 ∷ pos 0 ∷ []) (x ∷ y ∷ rest) ≡ (Err NoSolution, x ∷ y ∷ rest)
  pub at-limit : (x y : ℤ) (rest : List ℤ) → solve_of 1 (1 ∷ 2 ∷ []) (pos 0 ∷ pos 64 ∷ []) (x ∷ y ∷ rest)
      ≡ (Ok tt, pos 32 ∷ negsuc 31 ∷ rest)
  pub past-limit : (x y : ℤ) (rest : List ℤ) → solve_of 1 (1 ∷ 2 ∷ []) (pos 0 ∷ pos 66 ∷ []) (x ∷ y ∷ rest) ≡ (Err NoSolution, x ∷ y ∷ rest)

-- a call that no cause refuses but, perhaps, 12
call : (s : ℕ) (L : List ℕ) (xs out : List ℤ) (o : Option (List ℤ)) → 1 ≤ s → s ≤ most_polynomials → is_list s L xs ≡ true
    → length L ≤ length out → solver_of s L xs ≡ o → solve_of s L xs out ≡ answered out o
call s L xs out o h k e q w = well_posed s L xs out (λ z. omega arith) k e q ∙ ap (answered out) w

list_three : is_list 3 (13 ∷ 22 ∷ 26 ∷ []) (pos 3 ∷ pos 1 ∷ negsuc 0 ∷ []) ≡ true
unfolding is_list is_rising is_below
list_three = refl

list_two : (x y : ℤ) → is_list 1 (1 ∷ 2 ∷ []) (x ∷ y ∷ []) ≡ true
unfolding is_list is_rising is_below
list_two x y = refl

pub solver_call_edges : SolverEdges
solver_call_edges =
    record {
      three = λ x y z rest. call 3 _ _ (x ∷ y ∷ z ∷ rest) _ (omega arith) (omega arith) list_three (omega arith) solver_edges.0;
      negative = λ x y rest. call 1 _ _ (x ∷ y ∷ rest) _ (omega arith) (omega arith) (list_two _ _) (omega arith) solver_edges.1;
      odd = λ x y rest. call 1 _ _ (x ∷ y ∷ rest) _ (omega arith) (omega arith) (list_two _ _) (omega arith) solver_edges.2;
      at-limit = λ x y rest. call 1 _ _ (x ∷ y ∷ rest) _ (omega arith) (omega arith) (list_two _ _) (omega arith) solver_edges.3;
      past-limit = λ x y rest. call 1 _ _ (x ∷ y ∷ rest) _ (omega arith) (omega arith) (list_two _ _) (omega arith) solver_edges.4;
    }
