-- The rules of an answer, by the tests that the code makes.
use mathlib.Core.Path.{◌≡◌, refl, sym, ap, ◌∙◌, subst}
use mathlib.Core.Bool.{Bool, true, false, cond}
use mathlib.Core.Option.{Option, some, none}
use mathlib.Core.List.{List, [], ◌∷◌, ◌++◌}
use Prim.Native.Nat.{ℕ, zero, suc, ◌*◌, ◌-◌, ◌≤◌, ◌<◌}
use native.Mathlib.Omega.{arith}
use borrow.Author.Tests.{lt-ltb, le-ltb, le-leb, lt-leb}
use lib.Dec.{eqb, leb, ltb}
use lib.IntN.{ℤ, pos, negsuc, nat_abs}
use lib.Signed.{◌≤ℤ◌, ◌<ℤ◌}
use lib.ListN.{length}
use Rattle.refusals.specs.Numbers.{late, bad_first, bad_later, no_counts}
use Rattle.integers.proofs.Parts.{int}
use Rattle.rounds.specs.Rows.{Row, row_if}
use Rattle.runs.specs.Run.{State, Phase, running, finished, closed, Step, refused, close, ended, end_round, round_step, first_answer}
use Rattle.runs.specs.Run.{limit_of, later_answer, in_round, in_phase, answer_of}

module _ (N : ℕ → List Row → List ℤ → Option (List Row)) (r : State) where
  pub first_below : (z : ℤ) → z <ℤ pos 0 → first_answer N r z ≡ close N r bad_first
  first_below (pos n) h = absurd (omega (int, h))
  first_below (negsuc n) h = refl

  pub first_above : (z : ℤ) → pos 0 ≤ℤ z → 64 < nat_abs z → first_answer N r z ≡ close N r bad_first
  first_above (pos n) g h = rw (lt-leb n 64 h) refl
  first_above (negsuc n) g h = absurd (omega (int, g))

  pub first_some : (z : ℤ) → pos 0 ≤ℤ z → nat_abs z ≤ 64 → first_answer N r z ≡ ended N r 0 (nat_abs z) (row_if 0 (nat_abs z))
      (eqb (nat_abs z) 0)
  first_some (pos n) g h = rw (le-leb n 64 h) refl
  first_some (negsuc n) g h = absurd (omega (int, g))

  pub later_out : (i : ℕ) (z : ℤ) → limit_of r < nat_abs z → later_answer N r i z ≡ close N r bad_later
  later_out i z h = rw (lt-leb (nat_abs z) (limit_of r) h) refl

  pub later_on : (i : ℕ) (z : ℤ) → nat_abs z ≤ limit_of r → length (r.answers ++ (z ∷ [])) < 2 * length r.products
      → later_answer N r i z ≡ round_step N r i (r.answers ++ (z ∷ [])) true
  later_on i z h k = rw (le-leb (nat_abs z) (limit_of r) h, lt-ltb (length (r.answers ++ (z ∷ []))) (2 * length r.products) k) refl

  pub later_end : (i : ℕ) (z : ℤ) → nat_abs z ≤ limit_of r → 2 * length r.products ≤ length (r.answers ++ (z ∷ []))
      → later_answer N r i z ≡ round_step N r i (r.answers ++ (z ∷ [])) false
  later_end i z h k = rw (le-leb (nat_abs z) (limit_of r) h, le-ltb (length (r.answers ++ (z ∷ []))) (2 * length r.products) k) refl

  -- round i's answer, i at least 1
  at_round : (i : ℕ) (z : ℤ) → 0 < i → in_round N r i z ≡ later_answer N r (i - 1) z
  at_round zero z h = absurd (omega arith)
  at_round (suc i) z h = let e : i ≡ suc i - 1 = omega arith in ap (λ (j : ℕ). later_answer N r j z) e

  pub answer-first : (z : ℤ) → r.phase ≡ running → r.round ≡ 0 → answer_of N r z ≡ first_answer N r z
  unfolding answer_of
  answer-first z f e = ap (λ (p : Phase). in_phase N r p z) f ∙ ap (λ (i : ℕ). in_round N r i z) e

  pub answer_later : (z : ℤ) → r.phase ≡ running → 0 < r.round → answer_of N r z ≡ later_answer N r (r.round - 1) z
  unfolding answer_of
  answer_later z f h = ap (λ (p : Phase). in_phase N r p z) f ∙ at_round r.round z h

  pub answer-closed : (z : ℤ) → r.phase ≡ closed → answer_of N r z ≡ (r, refused late)
  unfolding answer_of
  answer-closed z f = ap (λ (p : Phase). in_phase N r p z) f

  pub answer-finished : (z : ℤ) → r.phase ≡ finished → answer_of N r z ≡ (r, refused late)
  unfolding answer_of
  answer-finished z f = ap (λ (p : Phase). in_phase N r p z) f

  -- ---- a run that goes on never refuses with 7

  abbrev NotLate : State × Step → Type 0
  NotLate o = o.1 ≡ refused late → ⊥

  not_late-close : (k : ℕ) → (k ≡ late → ⊥) → NotLate (close N r k)
  not_late-close k h e = h (cc)

  not_late-ended : (i n : ℕ) (R : List Row) (b : Bool) → NotLate (ended N r i n R b)
  not_late-ended i n R true e = let x : ◌≡◌ {A = ℕ} 0 1 = cc in omega arith
  not_late-ended i n R false e = let x : ◌≡◌ {A = ℕ} 0 1 = cc in omega arith

  not_late-first : (z : ℤ) → NotLate (first_answer N r z)
  not_late-first (pos n) = go (leb n 64)
    where
      go : (b : Bool) → NotLate (cond b (ended N r 0 n (row_if 0 n) (eqb n 0)) (close N r bad_first))
      go true = not_late-ended 0 n (row_if 0 n) (eqb n 0)
      go false = not_late-close bad_first (λ e. omega arith)
  not_late-first (negsuc n) = not_late-close bad_first (λ e. omega arith)

  not_late_end : (i : ℕ) (o : Option (List Row)) → NotLate (end_round N r i o)
  not_late_end i none = not_late-close no_counts (λ e. omega arith)
  not_late_end i (some R) = not_late-ended (suc i) r.n R (eqb (suc i) r.polynomials)

  not_late-on : (i : ℕ) (ws : List ℤ) (b : Bool) → NotLate (round_step N r i ws b)
  not_late-on i ws true e = let x : ◌≡◌ {A = ℕ} 0 1 = cc in omega arith
  not_late-on i ws false e = not_late_end i (N i r.rows ws) e

  not_late_later : (i : ℕ) (z : ℤ) → NotLate (later_answer N r i z)
  not_late_later i z = go (leb (nat_abs z) (limit_of r))
    where
      go : (b : Bool) → NotLate
          (cond b (round_step N r i (r.answers ++ (z ∷ [])) (ltb (length (r.answers ++ (z ∷ []))) (2 * length r.products)))
          (close N r bad_later))
      go true = not_late-on i (r.answers ++ (z ∷ [])) (ltb (length (r.answers ++ (z ∷ []))) (2 * length r.products))
      go false = not_late-close bad_later (λ e. omega arith)

  not_late_in : (i : ℕ) (z : ℤ) → NotLate (in_round N r i z)
  not_late_in zero z = not_late-first z
  not_late_in (suc i) z = not_late_later i z

  pub not_late : (z : ℤ) → r.phase ≡ running → (answer_of N r z).1 ≡ refused late → ⊥
  unfolding answer_of
  not_late z f = subst (λ (p : Phase). NotLate (in_phase N r p z)) (sym f) (not_late_in r.round z)
