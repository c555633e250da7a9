-- Each refusal of a call leaves the slice as it was (document 01, "Cause, and what the caller gets", and demand 1).
use mathlib.Core.Path.{◌≡◌, refl, ap}
use mathlib.Core.Option.{Option, some, none}
use mathlib.Core.List.{List}
use Prim.Native.Nat.{ℕ, zero, suc}
use native.Mathlib.Omega.{arith}
use lib.IntN.{ℤ}
use Rattle.refusals.specs.Numbers.{unless}
use Rattle.solutions.specs.Solver.{solver_of}
use Rattle.solver.specs.Solving.{cause_of, answered, solve_of}
use Rattle.std.specs.Prelude.{Result, Ok, Err}
use Rattle.refusals.specs.Refusals.{refusing}
use Rattle.refusals.specs.declared.Refusal.{Refusal}

-- 0 of an answer that numbers are found, 1 of a refusal
abbrev kind : Result (Unit {0}) Refusal → ℕ
kind (Ok _) = 0
kind (Err e) = 1

found-refused : (e : Refusal) → ◌≡◌ {A = Result (Unit {0}) Refusal} (Ok tt) (Err e) → ⊥
found-refused e h = let x : ◌≡◌ {A = ℕ} 0 1 = ap kind h in omega arith

pub refused-kept : (s : ℕ) (L : List ℕ) (xs out : List ℤ) (e : Refusal) → (solve_of s L xs out).0 ≡ Err e → (solve_of s L xs out).1 ≡ out
unfolding solve_of
refused-kept s L xs out e = go (cause_of s L xs out) (solver_of s L xs)
  where
    go : (m : ℕ) (r : Option (List ℤ)) → (unless m (λ k. (refusing k, out)) (answered out r)).0 ≡ Err e
        → (unless m (λ k. (refusing k, out)) (answered out r)).1 ≡ out
    go zero none h = refl
    go zero (some ws) h = absurd (found-refused e h)
    go (suc m) r h = refl
