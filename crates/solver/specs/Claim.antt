-- What a call of the solver must answer and leave, in document 01's words ("Adapted lists", "Cause, and what the caller gets"; the order of
-- its last paragraph: s (3), 11, 15, 12). That `solve` keeps it, known by its contract alone, is `solver_claim` of proofs/.
--
--   CountFits s                     == s is from 1 to 8
--   ListFits s L xs                 == L is rising, at most 64 long, of patterns up to 3^s − 1, and there are as many numbers xs
--   RoomFits L out                  == the slice out has a place for each pattern of L
--   Solvable s L xs                 == there are whole numbers as document 01 asks (`Solution`)
--   SolverClaim s L xs out r left   == a call on s, the list L, the numbers xs and a slice that held out may answer r and leave left there
use Rattle.std.specs.Prelude.{◌≡◌, ◌↔◌, List, [], ◌∷◌, ◌++◌, ℕ, ◌^◌, ◌≤◌, ℤ, length, drop, Result, Ok, Err}
use Rattle.refusals.specs.Numbers.{Among}
use Rattle.refusals.specs.Refusals.{number_of, refusing}
use Rattle.refusals.specs.declared.Refusal.{Refusal}
use Rattle.signs.specs.Lists.{Below, Rising}
use Rattle.solutions.specs.Solution.{Solution}

pub record CountFits (s : ℕ) : Type 0 where
  pub at_least : 1 ≤ s
  pub at_most : s ≤ 8

pub record ListFits (s : ℕ) (L : List ℕ) (xs : List ℤ) : Type 0 where
  pub rising : Rising L
  pub short : length L ≤ 64
  pub below : Below (3 ^ s) L
  pub full : length xs ≡ length L

abbrev pub RoomFits : List ℕ → List ℤ → Type 0
RoomFits L out = length L ≤ length out

abbrev pub Solvable : ℕ → List ℕ → List ℤ → Type 0
Solvable s L xs = (ws : List ℤ) × Solution s L xs ws

pub record SolverClaim (s : ℕ) (L : List ℕ) (xs out : List ℤ) (r : Result (Unit {0}) Refusal) (left : List ℤ) : Type 0 where
  -- "s or n outside its limits, also s .. in the solver"
  pub three : (r ≡ refusing 3) ↔ (CountFits s → ⊥)
  -- "list not rising, over 64 long, a pattern above 3^s − 1, or not as many numbers as patterns"
  pub eleven : (r ≡ refusing 11) ↔ (CountFits s × (ListFits s L xs → ⊥))
  -- "an output slice too short"
  pub fifteen : (r ≡ refusing 15) ↔ (CountFits s × ListFits s L xs × (RoomFits L out → ⊥))
  -- "no solution as above"
  pub twelve : (r ≡ refusing 12) ↔ (CountFits s × ListFits s L xs × RoomFits L out × (Solvable s L xs → ⊥))
  pub found : (r ≡ Ok tt) ↔ (CountFits s × ListFits s L xs × RoomFits L out × Solvable s L xs)
  -- the numbers at the front, and "longer output slices keep what lies past the result"
  pub written : (ws : List ℤ) → r ≡ Ok tt → Solution s L xs ws → left ≡ ws ++ drop (length L) out
  -- a refusal leaves the slice as it was, and no other number refuses
  pub kept : (e : Refusal) → r ≡ Err e → left ≡ out
  pub numbers : (e : Refusal) → r ≡ Err e → Among (3 ∷ 11 ∷ 15 ∷ 12 ∷ []) (number_of e)
