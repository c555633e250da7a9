-- THE SOLVER'S CALL: whatever a call of `solve` promises, known by its contract alone (`Learnt`: what a call promises of its arguments, its
-- result and what it leaves in lent memory), keeps document 01's words. A weaker promise breaks the theorem, and so does a definition that
-- gives another number or tests in another order.
use mathlib.Core.Path.{◌≡◌, refl, sym, ap, ◌∙◌}
use mathlib.Core.Logic.{◌↔◌}
use mathlib.Core.Bool.{Bool, true, false}
use mathlib.Core.Option.{Option, some, none}
use mathlib.Core.List.{List, [], ◌∷◌, ◌++◌}
use Prim.Native.Nat.{ℕ, ◌^◌, ◌≤◌, ◌<◌}
use native.Mathlib.Omega.{arith}
use native.Mathlib.Decide.{ℕ_discrete}
use borrow.Author.Tests.{leb-true, leb-false, le-leb, eq-eqb}
use lib.Dec.{eqb, leb}
use lib.IntN.{ℤ}
use lib.ListN.{length, drop}
use contract.Lifetimes.{Lfts}
use denote.Ref.{Bor, MutBor}
use Rattle.refusals.specs.Limits.{most_polynomials, most_points}
use Rattle.refusals.specs.Numbers.{Among, is_among}
use Rattle.signs.specs.Lists.{is_below, is_rising}
use Rattle.signs.proofs.Orders.{both, below_test, rising_test}
use Rattle.solutions.specs.Solution.{Posed, Solution}
use Rattle.solutions.specs.Solver.{solver_of}
use Rattle.solutions.specs.Posing.{is_list}
use Rattle.solutions.proofs.Posing.{list_true}
use Rattle.solutions.proofs.SolverRight.{solver_right}
use Rattle.solver.specs.Solving.{answered, solve_of}
use Rattle.solver.specs.Claim.{CountFits, ListFits, RoomFits, Solvable, SolverClaim}
use Rattle.std.specs.Prelude.{Result, Ok, Err}
use Rattle.refusals.specs.Refusals.{number_of}
use Rattle.refusals.specs.declared.Refusal.{Refusal}
use Rattle.refusals.specs.declared.Refusal.TheVariants.{WrongCount, WrongList, NoSolution, TooShort}
use Rattle.solver.proofs.Answers.{refused_none, refused-many, refused_list, refused-short, well_posed}
use Rattle.solver.proofs.solve.Reads as solve

list_fits : (s : ℕ) (L : List ℕ) (xs : List ℤ) → is_list s L xs ≡ true → ListFits s L xs
list_fits s L xs e =
    let (n, P) = list_true s L xs e in
    record { rising = P.rising; short = n; below = P.below; full = P.full }

fits_list : (s : ℕ) (L : List ℕ) (xs : List ℤ) → ListFits s L xs → is_list s L xs ≡ true
unfolding is_list
fits_list s L xs f =
    both (leb (length L) most_points) _ (le-leb (length L) most_points f.short) (both (eqb (length xs) (length L)) _
    (eq-eqb (length xs) (length L) f.full)
    (both (is_rising L) (is_below (3 ^ s) L) (rising_test L f.rising) (below_test (3 ^ s) L f.below)))

-- the five cases of a call
data Case (s : ℕ) (L : List ℕ) (xs out : List ℤ) (r : Result (Unit {0}) Refusal) (left : List ℤ) : Type 0 where
  count : (CountFits s → ⊥) → r ≡ Err WrongCount → left ≡ out → Case s L xs out r left
  list : CountFits s → (ListFits s L xs → ⊥) → r ≡ Err WrongList → left ≡ out → Case s L xs out r left
  room : CountFits s → ListFits s L xs → (RoomFits L out → ⊥) → r ≡ Err TooShort → left ≡ out → Case s L xs out r left
  unsolved : CountFits s → ListFits s L xs → RoomFits L out → (Solvable s L xs → ⊥) → r ≡ Err NoSolution → left ≡ out
      → Case s L xs out r left
  solved : CountFits s → ListFits s L xs → RoomFits L out → (ws : List ℤ) → Solution s L xs ws → r ≡ Ok tt
      → left ≡ ws ++ drop (length L) out → Case s L xs out r left

module _ (s : ℕ) (L : List ℕ) (xs out : List ℤ) where
  abbrev Here : Type 0
  Here = Case s L xs out (solve_of s L xs out).0 (solve_of s L xs out).1

  posed : ListFits s L xs → Posed s L xs
  posed f = record { rising = f.rising; below = f.below; full = f.full }

  by_solution : CountFits s → ListFits s L xs → RoomFits L out → (o : Option (List ℤ)) → solver_of s L xs ≡ o
      → solve_of s L xs out ≡ answered out o → Here
  by_solution c f h none e w =
      unsolved c f h (λ p. (solver_right.refused s L xs (posed f)).0 e p.0 p.1) (ap (λ p. p.0) w) (ap (λ p. p.1) w)
  by_solution c f h (some ws) e w =
      let S = (solver_right.found s L xs ws (posed f)).0 e in
      solved c f h ws S (ap (λ p. p.0) w) (ap (λ p. p.1) w ∙ ap (λ (n : ℕ). ws ++ drop n out) S.one_each)

  by_room : CountFits s → ListFits s L xs → (b : Bool) → leb (length L) (length out) ≡ b → Here
  by_room c f true e =
      let h = leb-true (length L) (length out) e in
      by_solution c f h (solver_of s L xs) refl (well_posed s L xs out (λ z. omega (arith, c.at_least)) c.at_most (fits_list s L xs f) h)
  by_room c f false e =
      let h = leb-false (length L) (length out) e in
      let w = refused-short s L xs out (λ z. omega (arith, c.at_least)) c.at_most (fits_list s L xs f) h in
      room c f (λ k. omega arith) (ap (λ p. p.0) w) (ap (λ p. p.1) w)

  by_list : CountFits s → (b : Bool) → is_list s L xs ≡ b → Here
  by_list c true e = by_room c (list_fits s L xs e) (leb (length L) (length out)) refl
  by_list c false e =
      let w = refused_list s L xs out (λ z. omega (arith, c.at_least)) c.at_most e in
      list c (λ f. let x : true ≡ false = sym (fits_list s L xs f) ∙ e in let y : ◌≡◌ {A = ℕ} 0 1 = cc in omega arith) (ap (λ p. p.0) w)
      (ap (λ p. p.1) w)

  by_count : Dec (s ≡ 0) → (b : Bool) → leb s most_polynomials ≡ b → Here
  by_count (yes z) b e =
      let w = refused_none s L xs out z in
      count (λ c. omega (arith, c.at_least)) (ap (λ p. p.0) w) (ap (λ p. p.1) w)
  by_count (no z) true e = by_list (record { at_least = omega arith; at_most = leb-true s most_polynomials e }) (is_list s L xs) refl
  by_count (no z) false e =
      let h = leb-false s most_polynomials e in
      let w = refused-many s L xs out h in
      count (λ c. omega (arith, c.at_most)) (ap (λ p. p.0) w) (ap (λ p. p.1) w)

  case_of : Here
  case_of = by_count (ℕ_discrete s 0) (leb s most_polynomials) refl

-- ---- the cases exclude one another

abbrev number : Result (Unit {0}) Refusal → ℕ
number (Ok _) = 0
number (Err e) = number_of e

abbrev is_found : Result (Unit {0}) Refusal → ℕ
is_found (Ok _) = 1
is_found (Err e) = 0

found_not : {r : Result (Unit {0}) Refusal} (m : Refusal) → r ≡ Err m → r ≡ Ok tt → ⊥
found_not m e h = let x : ◌≡◌ {A = ℕ} 0 1 = sym (ap is_found e) ∙ ap is_found h in omega arith

among : (m : Refusal) → is_among (number_of m) (3 ∷ 11 ∷ 15 ∷ 12 ∷ []) ≡ true → {r : Result (Unit {0}) Refusal} (k : Refusal) → r ≡ Err m
    → r ≡ Err k → Among (3 ∷ 11 ∷ 15 ∷ 12 ∷ []) (number_of k)
among m a k e h = record { stands = rw (sym (ap number h) ∙ ap number e) a }

module _ (s : ℕ) (L : List ℕ) (xs out : List ℤ) (r : Result (Unit {0}) Refusal) (left : List ℤ) where
  other : (m k : Refusal) → r ≡ Err m → r ≡ Err k → number_of m ≡ number_of k
  other m k e h = sym (ap number e) ∙ ap number h

  to_three : Case s L xs out r left → r ≡ Err WrongCount → CountFits s → ⊥
  to_three (count n e k) h = n
  to_three (list c n e k) h = absurd (omega (arith, other WrongList WrongCount e h))
  to_three (room c f n e k) h = absurd (omega (arith, other TooShort WrongCount e h))
  to_three (unsolved c f q n e k) h = absurd (omega (arith, other NoSolution WrongCount e h))
  to_three (solved c f q ws S e k) h = absurd (found_not WrongCount h e)

  from_three : Case s L xs out r left → (CountFits s → ⊥) → r ≡ Err WrongCount
  from_three (count n e k) h = e
  from_three (list c n e k) h = absurd (h c)
  from_three (room c f n e k) h = absurd (h c)
  from_three (unsolved c f q n e k) h = absurd (h c)
  from_three (solved c f q ws S e k) h = absurd (h c)

  to_eleven : Case s L xs out r left → r ≡ Err WrongList → CountFits s × (ListFits s L xs → ⊥)
  to_eleven (count n e k) h = absurd (omega (arith, other WrongCount WrongList e h))
  to_eleven (list c n e k) h = (c, n)
  to_eleven (room c f n e k) h = absurd (omega (arith, other TooShort WrongList e h))
  to_eleven (unsolved c f q n e k) h = absurd (omega (arith, other NoSolution WrongList e h))
  to_eleven (solved c f q ws S e k) h = absurd (found_not WrongList h e)

  from_eleven : Case s L xs out r left → CountFits s → (ListFits s L xs → ⊥) → r ≡ Err WrongList
  from_eleven (count n e k) c' h = absurd (n c')
  from_eleven (list c n e k) c' h = e
  from_eleven (room c f n e k) c' h = absurd (h f)
  from_eleven (unsolved c f q n e k) c' h = absurd (h f)
  from_eleven (solved c f q ws S e k) c' h = absurd (h f)

  to_fifteen : Case s L xs out r left → r ≡ Err TooShort → CountFits s × ListFits s L xs × (RoomFits L out → ⊥)
  to_fifteen (count n e k) h = absurd (omega (arith, other WrongCount TooShort e h))
  to_fifteen (list c n e k) h = absurd (omega (arith, other WrongList TooShort e h))
  to_fifteen (room c f n e k) h = (c, f, n)
  to_fifteen (unsolved c f q n e k) h = absurd (omega (arith, other NoSolution TooShort e h))
  to_fifteen (solved c f q ws S e k) h = absurd (found_not TooShort h e)

  from_fifteen : Case s L xs out r left → CountFits s → ListFits s L xs → (RoomFits L out → ⊥) → r ≡ Err TooShort
  from_fifteen (count n e k) c' f' h = absurd (n c')
  from_fifteen (list c n e k) c' f' h = absurd (n f')
  from_fifteen (room c f n e k) c' f' h = e
  from_fifteen (unsolved c f q n e k) c' f' h = absurd (h q)
  from_fifteen (solved c f q ws S e k) c' f' h = absurd (h q)

  to_twelve : Case s L xs out r left → r ≡ Err NoSolution → CountFits s × ListFits s L xs × RoomFits L out × (Solvable s L xs → ⊥)
  to_twelve (count n e k) h = absurd (omega (arith, other WrongCount NoSolution e h))
  to_twelve (list c n e k) h = absurd (omega (arith, other WrongList NoSolution e h))
  to_twelve (room c f n e k) h = absurd (omega (arith, other TooShort NoSolution e h))
  to_twelve (unsolved c f q n e k) h = (c, f, q, n)
  to_twelve (solved c f q ws S e k) h = absurd (found_not NoSolution h e)

  from_twelve : Case s L xs out r left → CountFits s → ListFits s L xs → RoomFits L out → (Solvable s L xs → ⊥) → r ≡ Err NoSolution
  from_twelve (count n e k) c' f' q' h = absurd (n c')
  from_twelve (list c n e k) c' f' q' h = absurd (n f')
  from_twelve (room c f n e k) c' f' q' h = absurd (n q')
  from_twelve (unsolved c f q n e k) c' f' q' h = e
  from_twelve (solved c f q ws S e k) c' f' q' h = absurd (h (ws, S))

  to_found : Case s L xs out r left → r ≡ Ok tt → CountFits s × ListFits s L xs × RoomFits L out × Solvable s L xs
  to_found (count n e k) h = absurd (found_not WrongCount e h)
  to_found (list c n e k) h = absurd (found_not WrongList e h)
  to_found (room c f n e k) h = absurd (found_not TooShort e h)
  to_found (unsolved c f q n e k) h = absurd (found_not NoSolution e h)
  to_found (solved c f q ws S e k) h = (c, f, q, (ws, S))

  from_found : Case s L xs out r left → CountFits s → ListFits s L xs → RoomFits L out → Solvable s L xs → r ≡ Ok tt
  from_found (count n e k) c' f' q' h = absurd (n c')
  from_found (list c n e k) c' f' q' h = absurd (n f')
  from_found (room c f n e k) c' f' q' h = absurd (n q')
  from_found (unsolved c f q n e k) c' f' q' h = absurd (n h)
  from_found (solved c f q ws S e k) c' f' q' h = e

  -- the numbers found are those of any solution: there is only one
  to_written : Case s L xs out r left → (ws : List ℤ) → r ≡ Ok tt → Solution s L xs ws → left ≡ ws ++ drop (length L) out
  to_written (count n e k) ws h S = absurd (found_not WrongCount e h)
  to_written (list c n e k) ws h S = absurd (found_not WrongList e h)
  to_written (room c f n e k) ws h S = absurd (found_not TooShort e h)
  to_written (unsolved c f q n e k) ws h S = absurd (found_not NoSolution e h)
  to_written (solved c f q vs S' e k) ws h S =
      k ∙ ap (λ (us : List ℤ). us ++ drop (length L) out) (solver_right.only s L xs vs ws (posed s L xs out f) S' S)

  to_kept : Case s L xs out r left → (m : Refusal) → r ≡ Err m → left ≡ out
  to_kept (count n e k) m h = k
  to_kept (list c n e k) m h = k
  to_kept (room c f n e k) m h = k
  to_kept (unsolved c f q n e k) m h = k
  to_kept (solved c f q ws S e k) m h = absurd (found_not m h e)

  to_numbers : Case s L xs out r left → (m : Refusal) → r ≡ Err m → Among (3 ∷ 11 ∷ 15 ∷ 12 ∷ []) (number_of m)
  unfolding is_among
  to_numbers (count n e k) m h = among WrongCount refl m e h
  to_numbers (list c n e k) m h = among WrongList refl m e h
  to_numbers (room c f n e k) m h = among TooShort refl m e h
  to_numbers (unsolved c f q n e k) m h = among NoSolution refl m e h
  to_numbers (solved c f q ws S e k) m h = absurd (found_not m h e)

  claim_of : Case s L xs out r left → SolverClaim s L xs out r left
  claim_of w =
      record {
        three = (to_three w, from_three w);
        eleven = (to_eleven w, λ p. from_eleven w p.0 p.1);
        fifteen = (to_fifteen w, λ p. from_fifteen w p.0 p.1 p.2);
        twelve = (to_twelve w, λ p. from_twelve w p.0 p.1 p.2 p.3);
        found = (to_found w, λ p. from_found w p.0 p.1 p.2 p.3);
        written = to_written w;
        kept = to_kept w;
        numbers = to_numbers w;
      }

-- the definition
pub solve_claims : (s : ℕ) (L : List ℕ) (xs out : List ℤ) → SolverClaim s L xs out (solve_of s L xs out).0 (solve_of s L xs out).1
solve_claims s L xs out = claim_of s L xs out (solve_of s L xs out).0 (solve_of s L xs out).1 (case_of s L xs out)

-- every call of `solve`, on any arguments
pub solver_claim : (κs : Lfts 3) (s : ℕ) (patterns : Bor (List ℕ)) (numbers : Bor (List ℤ)) (out out' : MutBor (List ℤ))
    (r : Result (Unit {0}) Refusal)
    → solve.Learnt κs (s, (patterns, (numbers, (out, tt)))) r (s, (patterns, (numbers, (out', tt))))
    → SolverClaim s patterns.now numbers.now out.now r out'.now
solver_claim κs s patterns numbers out out' r k = rw (k.0, k.1) (solve_claims s patterns.now numbers.now out.now)
