-- What follows from the promises of a start and of an answer, of a record and a step that keep them: the rules of `Run`, and the claims of
-- demand 1. The calls are in `determination`.
--
--   ByRules c z c' x             == the record c' after an answer z to c, and the step x, are those of the rules
--   by_rules, start_by_rules     == what an answer promises says so; and the same of a start
--   answer_claim, start_claim    == demand 1 of an answer and of a start, from what they promise
--   fetch_claim, copy_claim      == demand 1 of what the rules serve
--   by_rules_prop, claim_prop    == any two proofs are equal: a promise of lent memory is known only so far (it holds, by some proof)
use mathlib.Core.Path.{◌≡◌, refl, sym, ap, ◌∙◌}
use mathlib.Core.Logic.{◌≢◌, ◌⊎◌, inl, inr}
use mathlib.Core.HLevel.{×_prop, Σ_set, Π_prop, →_prop}
use mathlib.Core.Bool.{true, Bool-set}
use mathlib.Core.List.{List, [], ◌∷◌, is_set}
use Prim.Native.Nat.{ℕ, ◌≤◌}
use native.Mathlib.Nat.{ℕ_set}
use native.Mathlib.Decide.{ℕ_discrete, dec_le}
use native.Mathlib.Omega.{arith}
use borrow.Author.Tests.{le-leb, lt-leb}
use ghost.Sets.{retract_set}
use lib.IntN.{ℤ, ℤ_set}
use Rattle.refusals.specs.Numbers.{Among, is_among, closing_numbers}
use Rattle.refusals.specs.Limits.{most_polynomials}
use Rattle.rounds.specs.RoundEnd.{round_rows}
use Rattle.runs.specs.Run.{State, Step, ask, refused, closed, new_in, start_of, answer_of, fetch_of, copy_of}
use Rattle.runs.proofs.Phases.{closed_not_finished}
use Rattle.runs.proofs.Refusals.{refusals}
use Rattle.runs.proofs.Closing.{closing_numbers_lem}
use Rattle.runs.proofs.Sets.{step_set, state-set}
use Rattle.run_record.specs.declared.Run.{Run}
use Rattle.run_record.specs.Record.{state_of, started_of, IsClosed, AnswerGives, StartGives}
use Rattle.run_record.specs.DemandOne.{StartClaim, AnswerClaim, FetchClaim, CopyClaim}
use Rattle.run_record.proofs.Records.{closed-phase}

-- ---- the rules

-- the record after an answer and the step, by the rules
abbrev pub ByRules : Run → ℤ → Run → Step → Type 0
ByRules c z c' x = (state_of c' ≡ (answer_of round_rows (state_of c) z).0) × (x ≡ (answer_of round_rows (state_of c) z).1)

pub by_rules : (c : Run) (z : ℤ) (c' : Run) (x : Step) → AnswerGives c z c' x → ByRules c z c' x
by_rules c z c' x g = (ap (λ (p : State × Step). p.0) g.by_rules, ap (λ (p : State × Step). p.1) g.by_rules)

pub by_rules_prop : (c : Run) (z : ℤ) (c' : Run) (x : Step) → IsProp (ByRules c z c' x)
by_rules_prop c z c' x = ×_prop (state-set _ _) (step_set _ _)

pub start_by_rules : (s : ℕ) (c : Run) (x : Step) → StartGives s c x → 1 ≤ s → s ≤ most_polynomials → (state_of c ≡ start_of s)
    × (x ≡ ask 0)
unfolding started_of
start_by_rules s c x g h m =
    let e : ◌≡◌ {A = State × Step} (state_of c, x)
    (start_of s, ask 0) = (rw (le-leb 1 s h, le-leb s most_polynomials m) at g.by_rules) in
    (ap (λ (p : State × Step). p.0) e, ap (λ (p : State × Step). p.1) e)

-- ---- the claims of demand 1

module _ (c : Run) (z : ℤ) (c' : Run) (x : Step) (g : AnswerGives c z c' x) where
  -- the number that refuses is 7, or one that closes
  which : (k : ℕ) → x ≡ refused k → (k ≡ 7) ⊎ ((k ≡ 8) ⊎ ((k ≡ 9) ⊎ (k ≡ 10)))
  which k e = go (ℕ_discrete k 7)
    where
      go : Dec (k ≡ 7) → (k ≡ 7) ⊎ ((k ≡ 8) ⊎ ((k ≡ 9) ⊎ (k ≡ 10)))
      go (yes h) = inl h
      go (no h) = inr ((refusals round_rows).closes (state_of c) z k (sym (ap (λ (o : State × Step). o.1) g.by_rules) ∙ e) h).0

  pub answer_claim : AnswerClaim c c' x
  unfolding is_among
  answer_claim = record {
    numbers = λ k e. listed k (which k e);
    kept = g.as_it_was;
    closes = λ k e h. g.closes k e (closing k h (which k e));
  }
    where
      listed : (k : ℕ) → (k ≡ 7) ⊎ ((k ≡ 8) ⊎ ((k ≡ 9) ⊎ (k ≡ 10))) → Among (7 ∷ 8 ∷ 9 ∷ 10 ∷ []) k
      listed k (inl h) = record { stands = rw h refl }
      listed k (inr (inl h)) = record { stands = rw h refl }
      listed k (inr (inr (inl h))) = record { stands = rw h refl }
      listed k (inr (inr (inr h))) = record { stands = rw h refl }

      closing : (k : ℕ) → k ≢ 7 → (k ≡ 7) ⊎ ((k ≡ 8) ⊎ ((k ≡ 9) ⊎ (k ≡ 10))) → is_among k closing_numbers ≡ true
      closing k n (inl h) = absurd (n h)
      closing k n (inr h) = (closing_numbers_lem k).1 h

-- a closed record stands for a run that is closed
closed-state : (c : Run) → IsClosed c → (state_of c).phase ≡ closed
closed-state c h = ap (λ (r : State). r.phase) (closed-phase c h.phase)

pub fetch_claim : (c : Run) (p : ℕ) → FetchClaim c (fetch_of (state_of c) p)
unfolding is_among
fetch_claim c p = record {
  numbers = λ k e. listed k ((refusals round_rows).fetch_other (state_of c) p k e);
  no_row_yet = λ h. ((refusals round_rows).fetch_7 (state_of c) p).1 (λ e. closed_not_finished (sym (closed-state c h) ∙ e));
}
  where
    listed : (k : ℕ) → (k ≡ 7) ⊎ (k ≡ 14) → Among (7 ∷ 14 ∷ []) k
    listed k (inl h) = record { stands = rw h refl }
    listed k (inr h) = record { stands = rw h refl }

pub copy_claim : (c : Run) (a b : List ℕ) → CopyClaim c a b (copy_of (state_of c) a b)
unfolding is_among
copy_claim c a b = record {
  numbers = λ k e. listed k ((refusals round_rows).copy_other (state_of c) a b k e);
  kept = (refusals round_rows).slices_kept (state_of c) a b;
  no_rows = λ h. ((refusals round_rows).copy_7 (state_of c) a b).1 (λ e. closed_not_finished (sym (closed-state c h) ∙ e));
}
  where
    listed : (k : ℕ) → (k ≡ 7) ⊎ (k ≡ 15) → Among (7 ∷ 15 ∷ []) k
    listed k (inl h) = record { stands = rw h refl }
    listed k (inr h) = record { stands = rw h refl }

pub start_claim : (s : ℕ) (c : Run) (x : Step) → StartGives s c x → StartClaim s c x
unfolding started_of state_of
start_claim s c x g = record { begins = begins; refuses = refuses }
  where
    begins : 1 ≤ s → s ≤ 8 → x ≡ ask 0
    begins h m = ap (λ (o : State × Step). o.1) (rw (le-leb 1 s h, le-leb s most_polynomials m) at g.by_rules)

    refusal : ((1 ≤ s) × (s ≤ 8) → ⊥) → ◌≡◌ {A = State × Step} (state_of c, x) (new_in closed s, refused 3)
    refusal h = go (dec_le 1 s) (dec_le s 8)
      where
        go : Dec (1 ≤ s) → Dec (s ≤ 8) → ◌≡◌ {A = State × Step} (state_of c, x) (new_in closed s, refused 3)
        go (yes a) (yes b) = absurd (h (a, b))
        go (yes a) (no b) = rw (le-leb 1 s a, lt-leb s most_polynomials (omega arith)) at g.by_rules
        go (no a) b = rw (lt-leb 1 s (omega arith)) at g.by_rules

    refuses : ((1 ≤ s) × (s ≤ 8) → ⊥) → (x ≡ refused 3) × IsClosed c × (c.asked ≡ 0)
    refuses h =
        let e = refusal h in
        let n : x ≡ refused 3 = ap (λ (o : State × Step). o.1) e in
        (n, g.closes 3 n, ap (λ (o : State × Step). o.0.total) e)

-- ---- any two proofs of the claim are equal

pub run-set : IsSet Run
run-set =
    retract_set {B = ℕ × (ℕ × (ℕ × (ℕ × (ℕ × (ℕ × (List ℕ × (List ℕ × (List ℕ × (ℕ × List ℤ)))))))))}
    (λ r. (
      r.polynomials,
      (
        r.asked,
        (
          r.phase,
          (
            r.round,
            (
              r.n,
              (
                r.rows,
                (
                  r.patterns,
                  (
                    r.counts,
                    (
                      r.products,
                      (
                        r.answered,
                        r.answers,
                      ),
                    ),
                  ),
                ),
              ),
            ),
          ),
        ),
      ),
    ))
    (λ t. record {
      polynomials = t.0;
      asked = t.1.0;
      phase = t.1.1.0;
      round = t.1.1.1.0;
      n = t.1.1.1.1.0;
      rows = t.1.1.1.1.1.0;
      patterns = t.1.1.1.1.1.1.0;
      counts = t.1.1.1.1.1.1.1.0;
      products = t.1.1.1.1.1.1.1.1.0;
      answered = t.1.1.1.1.1.1.1.1.1.0;
      answers = t.1.1.1.1.1.1.1.1.1.1;
    })
    (λ r. refl)
    (Σ_set ℕ_set (λ _. Σ_set ℕ_set (λ _. Σ_set ℕ_set (λ _. Σ_set ℕ_set (λ _. Σ_set ℕ_set (λ _. Σ_set ℕ_set (λ _. Σ_set list
    (λ _. Σ_set list (λ _. Σ_set list (λ _. Σ_set ℕ_set (λ _. is_set ℤ_set)))))))))))
  where
    list : IsSet (List ℕ)
    list = is_set ℕ_set

among_prop : (l : List ℕ) (k : ℕ) → IsProp (Among l k)
among_prop l k u v = λ i. record { stands = Bool-set _ _ u.stands v.stands i }

closed_prop : (c : Run) → IsProp (IsClosed c)
closed_prop c u v = λ i. record {
  phase = ℕ_set _ _ u.phase v.phase i;
  no_rows = ℕ_set _ _ u.no_rows v.no_rows i;
  no_answers = ℕ_set _ _ u.no_answers v.no_answers i;
}

pub claim_prop : (c c' : Run) (x : Step) → IsProp (AnswerClaim c c' x)
claim_prop c c' x u v = λ i. record {
  numbers = Π_prop (λ k. →_prop (among_prop _ k)) u.numbers v.numbers i;
  kept = →_prop (run-set c' c) u.kept v.kept i;
  closes = Π_prop (λ k. →_prop (→_prop (closed_prop c'))) u.closes v.closes i;
}
