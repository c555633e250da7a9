-- Theorem: each refusal number of a run is given for its cause and no other, for every record.
use mathlib.Core.Path.{◌≡◌, refl, sym, ap, ◌∙◌, subst}
use mathlib.Core.Logic.{◌≢◌, ◌⊎◌, inl, inr, ◌↔◌}
use mathlib.Core.Bool.{Bool, true, false, cond}
use mathlib.Core.Option.{Option, some, none}
use mathlib.Core.List.{List, [], ◌∷◌, ◌++◌, map}
use Prim.Native.Nat.{ℕ, zero, suc, ◌+◌, ◌*◌, ◌<◌, ◌≤◌}
use native.Mathlib.Omega.{arith}
use borrow.Author.Tests.{ltb-false, leb-true, leb-false, le-ltb, le-leb, lt-leb}
use lib.Dec.{eqb, leb, ltb}
use lib.IntN.{ℤ, pos, negsuc, nat_abs}
use lib.ListN.{length, get_or, drop, length-append}
use Rattle.refusals.specs.Limits.{most_points}
use Rattle.rounds.specs.Rows.{Row, row_if}
use Rattle.runs.specs.Run.{Step, ask, done, refused, Fetch, row, no_row, Copied, copied, not_copied, Copy, kept, Phase, running}
use Rattle.runs.specs.Run.{finished, closed, State, close, ended, end_round, round_step, first_answer, later_answer, in_round, in_phase}
use Rattle.runs.specs.Run.{limit_of, answer_of, fetch_rule, fetch_of, copy_rule, copy_of}
use Rattle.runs.specs.Refusals.{OutOfFirst, Shut, Refusals}
use Rattle.runs.proofs.Phases.{running_not_finished, closed_not_finished, finished_not_running, closed_not_running}

same_number : (j k : ℕ) → refused j ≡ refused k → k ≡ j
same_number j k e = let x : j ≡ k = cc in sym x

-- ---- an answer

module _ (N : ℕ → List Row → List ℤ → Option (List Row)) where
  -- why an answer z to the record r is refused with k, leaving r'
  data Why (r : State) (z : ℤ) (k : ℕ) (r' : State) : Type 0 where
    why_7 : k ≡ 7 → r.phase ≢ running → Why r z k r'
    why_8 : k ≡ 8 → r.phase ≡ running → r.round ≡ 0 → OutOfFirst z → Shut r r' → Why r z k r'
    why_9 : k ≡ 9 → r.phase ≡ running → 0 < r.round → limit_of r < nat_abs z → Shut r r' → Why r z k r'
    why_10 : k ≡ 10 → r.phase ≡ running → (i : ℕ) → r.round ≡ suc i → nat_abs z ≤ limit_of r
        → 2 * length r.products ≤ suc (length r.answers)
        → N i r.rows (r.answers ++ (z ∷ [])) ≡ none → Shut r r' → Why r z k r'

  ended_goes : (r : State) (i n : ℕ) (R : List Row) (b : Bool) (k : ℕ) → (ended N r i n R b).1 ≢ refused k
  ended_goes r i n R true k e = let x : ◌≡◌ {A = ℕ} 0 1 = cc in omega arith
  ended_goes r i n R false k e = let x : ◌≡◌ {A = ℕ} 0 1 = cc in omega arith

  first_why : (r : State) (z : ℤ) (k : ℕ) → r.phase ≡ running → r.round ≡ 0 → (first_answer N r z).1 ≡ refused k
      → Why r z k (first_answer N r z).0
  first_why r (negsuc n) k p q e =
      why_8 (same_number 8 k e) p q (λ m h c. let x : ◌≡◌ {A = ℕ} 0 1 = cc in omega arith) (refl, refl, refl)
  first_why r (pos n) k p q e = go (leb n most_points) refl e
    where
      go : (b : Bool) → leb n most_points ≡ b → (cond b (ended N r 0 n (row_if 0 n) (eqb n 0)) (close N r 8)).1 ≡ refused k
          → Why r (pos n) k (cond b (ended N r 0 n (row_if 0 n) (eqb n 0)) (close N r 8)).0
      go true t e = absurd (ended_goes r 0 n (row_if 0 n) (eqb n 0) k e)
      go false t e =
          why_8 (same_number 8 k e) p q (λ m h c. let x : n ≡ m = cc in omega (arith, leb-false n most_points t)) (refl, refl, refl)

  later_why : (r : State) (z : ℤ) (k i : ℕ) → r.phase ≡ running → r.round ≡ suc i → (later_answer N r i z).1 ≡ refused k
      → Why r z k (later_answer N r i z).0
  later_why r z k i p q e = go (leb (nat_abs z) (limit_of r)) refl (ltb (length ws) (2 * length r.products)) refl e
    where
      ws : List ℤ
      ws = r.answers ++ (z ∷ [])

      end : nat_abs z ≤ limit_of r → 2 * length r.products ≤ length ws → (o : Option (List Row)) → N i r.rows ws ≡ o
          → (end_round N r i o).1 ≡ refused k → Why r z k (end_round N r i o).0
      end h l none m e =
          why_10 (same_number 10 k e) p i q h (omega (arith, l, length-append r.answers (z ∷ []))) m (refl, refl, refl)
      end h l (some R) m e = absurd (ended_goes r (suc i) r.n R (eqb (suc i) r.polynomials) k e)

      go : (b : Bool) → leb (nat_abs z) (limit_of r) ≡ b → (c : Bool) → ltb (length ws) (2 * length r.products) ≡ c
          → (cond b (round_step N r i ws c) (close N r 9)).1 ≡ refused k → Why r z k (cond b (round_step N r i ws c) (close N r 9)).0
      go true t true u e = let x : ◌≡◌ {A = ℕ} 0 1 = cc in absurd (omega arith)
      go true t false u e =
          end (leb-true (nat_abs z) (limit_of r) t) (omega (arith, ltb-false (length ws) (2 * length r.products) u)) (N i r.rows ws)
          refl e
      go false t c u e =
          why_9 (same_number 9 k e) p (omega (arith, q)) (leb-false (nat_abs z) (limit_of r) t) (refl, refl, refl)

  why : (r : State) (z : ℤ) (k : ℕ) → (answer_of N r z).1 ≡ refused k → Why r z k (answer_of N r z).0
  unfolding answer_of
  why r z k e = by_phase r.phase refl e
    where
      by_round : (m : ℕ) → r.round ≡ m → r.phase ≡ running → (in_round N r m z).1 ≡ refused k → Why r z k (in_round N r m z).0
      by_round zero q p e = first_why r z k p q e
      by_round (suc i) q p e = later_why r z k i p q e

      by_phase : (f : Phase) → r.phase ≡ f → (in_phase N r f z).1 ≡ refused k → Why r z k (in_phase N r f z).0
      by_phase running p e = by_round r.round refl p e
      by_phase finished p e = why_7 (same_number 7 k e) (λ q. finished_not_running (sym p ∙ q))
      by_phase closed p e = why_7 (same_number 7 k e) (λ q. closed_not_running (sym p ∙ q))

  -- ---- and where there is a cause, the number is given

  late-answer : (r : State) (z : ℤ) → r.phase ≢ running → answer_of N r z ≡ (r, refused 7)
  unfolding answer_of
  late-answer r z h = go r.phase h
    where
      go : (f : Phase) → f ≢ running → in_phase N r f z ≡ (r, refused 7)
      go running h = absurd (h refl)
      go finished h = refl
      go closed h = refl

  at_round : (r : State) (z : ℤ) (m : ℕ) → r.phase ≡ running → r.round ≡ m → answer_of N r z ≡ in_round N r m z
  unfolding answer_of
  at_round r z m p q = ap (λ (f : Phase). in_phase N r f z) p ∙ ap (λ (k : ℕ). in_round N r k z) q

  first-8 : (r : State) (z : ℤ) → OutOfFirst z → (first_answer N r z).1 ≡ refused 8
  first-8 r (negsuc n) h = refl
  first-8 r (pos n) h = go (leb n most_points) refl
    where
      go : (b : Bool) → leb n most_points ≡ b → (cond b (ended N r 0 n (row_if 0 n) (eqb n 0)) (close N r 8)).1 ≡ refused 8
      go true t = absurd (h n (leb-true n most_points t) refl)
      go false t = refl

  answer_9_back : (r : State) (z : ℤ) (m : ℕ) → r.phase ≡ running → r.round ≡ m → 0 < m → limit_of r < nat_abs z
      → (answer_of N r z).1 ≡ refused 9
  answer_9_back r z zero p q h l = absurd (omega arith)
  answer_9_back r z (suc i) p q h l =
      ap (λ (o : State × Step). o.1) (at_round r z (suc i) p q) ∙ (rw (lt-leb (nat_abs z) (limit_of r) l) refl)

  answer_10_back : (r : State) (z : ℤ) (i : ℕ) → r.phase ≡ running → r.round ≡ suc i → nat_abs z ≤ limit_of r
      → 2 * length r.products ≤ suc (length r.answers) → N i r.rows (r.answers ++ (z ∷ [])) ≡ none → (answer_of N r z).1
      ≡ refused 10
  answer_10_back r z i p q h l e =
      ap (λ (o : State × Step). o.1) (at_round r z (suc i) p q)
      ∙ (rw (
        le-leb (nat_abs z) (limit_of r) h,
        le-ltb (length (r.answers ++ (z ∷ []))) (2 * length r.products) (omega (arith, l, length-append r.answers (z ∷ []))),
        e,
      )
      refl)

-- ---- rows

fetch_rule_7 : (f : Phase) (R : List Row) (p : ℕ) → (fetch_rule f R p ≡ no_row 7) ↔ (f ≢ finished)
unfolding fetch_rule
fetch_rule_7 running R p = (λ e. running_not_finished, λ h. refl)
fetch_rule_7 finished R p = (λ e. absurd (go (ltb p (length R)) e), λ h. absurd (h refl))
  where
    go : (b : Bool) → cond b (row (get_or R p (record { pattern = 0; count = 0 }))) (no_row 14) ≢ no_row 7
    go true e = let x : ◌≡◌ {A = ℕ} 0 1 = cc in omega arith
    go false e = let x : ◌≡◌ {A = ℕ} 14 7 = cc in omega arith
fetch_rule_7 closed R p = (λ e. closed_not_finished, λ h. refl)

fetch_rule_14 : (f : Phase) (R : List Row) (p : ℕ) → (fetch_rule f R p ≡ no_row 14) ↔ ((f ≡ finished) × (length R ≤ p))
unfolding fetch_rule
fetch_rule_14 running R p = (λ e. let x : ◌≡◌ {A = ℕ} 7 14 = cc in absurd (omega arith), λ h. absurd (running_not_finished h.0))
fetch_rule_14 finished R p = (λ e. (refl, go (ltb p (length R)) refl e), λ h. rw (le-ltb p (length R) h.1) refl)
  where
    go : (b : Bool) → ltb p (length R) ≡ b → cond b (row (get_or R p (record { pattern = 0; count = 0 }))) (no_row 14) ≡ no_row 14
        → length R ≤ p
    go true t e = let x : ◌≡◌ {A = ℕ} 0 1 = cc in absurd (omega arith)
    go false t e = omega (arith, ltb-false p (length R) t)
fetch_rule_14 closed R p = (λ e. let x : ◌≡◌ {A = ℕ} 7 14 = cc in absurd (omega arith), λ h. absurd (closed_not_finished h.0))

fetch_rule_other : (f : Phase) (R : List Row) (p k : ℕ) → fetch_rule f R p ≡ no_row k → (k ≡ 7) ⊎ (k ≡ 14)
unfolding fetch_rule
fetch_rule_other running R p k e = let x : ◌≡◌ {A = ℕ} 7 k = cc in inl (sym x)
fetch_rule_other finished R p k e = go (ltb p (length R)) e
  where
    go : (b : Bool) → cond b (row (get_or R p (record { pattern = 0; count = 0 }))) (no_row 14) ≡ no_row k → (k ≡ 7) ⊎ (k ≡ 14)
    go true e = let x : ◌≡◌ {A = ℕ} 0 1 = cc in absurd (omega arith)
    go false e = let x : ◌≡◌ {A = ℕ} 14 k = cc in inr (sym x)
fetch_rule_other closed R p k e = let x : ◌≡◌ {A = ℕ} 7 k = cc in inl (sym x)

-- what a copy of a done run gives, by the two tests of its slices
abbrev outcome : List Row → List ℕ → List ℕ → Bool → Bool → Copy
outcome R a b x y =
    cond x
    (cond y
    (record {
      result = copied (length R);
      patterns_left = map (λ r. r.pattern) R ++ drop (length R) a;
      counts_left = map (λ r. r.count) R ++ drop (length R) b;
    })
    (kept 15 a b))
    (kept 15 a b)

copy_rule_7 : (f : Phase) (R : List Row) (a b : List ℕ) → ((copy_rule f R a b).result ≡ not_copied 7) ↔ (f ≢ finished)
unfolding copy_rule
copy_rule_7 running R a b = (λ e. running_not_finished, λ h. refl)
copy_rule_7 finished R a b = (λ e. absurd (go (leb (length R) (length a)) (leb (length R) (length b)) e), λ h. absurd (h refl))
  where
    go : (x y : Bool) → (outcome R a b x y).result ≢ not_copied 7
    go true true e = let x : ◌≡◌ {A = ℕ} 0 1 = cc in omega arith
    go true false e = let x : ◌≡◌ {A = ℕ} 15 7 = cc in omega arith
    go false y e = let x : ◌≡◌ {A = ℕ} 15 7 = cc in omega arith
copy_rule_7 closed R a b = (λ e. closed_not_finished, λ h. refl)

copy_rule_15 : (f : Phase) (R : List Row) (a b : List ℕ)
    → ((copy_rule f R a b).result ≡ not_copied 15) ↔ ((f ≡ finished) × ((length a < length R) ⊎ (length b < length R)))
unfolding copy_rule
copy_rule_15 running R a b = (λ e. let x : ◌≡◌ {A = ℕ} 7 15 = cc in absurd (omega arith), λ h. absurd (running_not_finished h.0))
copy_rule_15 finished R a b = (λ e. (refl, go (leb (length R) (length a)) refl (leb (length R) (length b)) refl e), λ h. back h.1)
  where
    go : (x : Bool) → leb (length R) (length a) ≡ x → (y : Bool) → leb (length R) (length b) ≡ y → (outcome R a b x y).result
        ≡ not_copied 15
        → (length a < length R) ⊎ (length b < length R)
    go true t true u e = let x : ◌≡◌ {A = ℕ} 0 1 = cc in absurd (omega arith)
    go true t false u e = inr (leb-false (length R) (length b) u)
    go false t y u e = inl (leb-false (length R) (length a) t)

    either : (x : Bool) → (outcome R a b x false).result ≡ not_copied 15
    either true = refl
    either false = refl

    back : (length a < length R) ⊎ (length b < length R)
        → (outcome R a b (leb (length R) (length a)) (leb (length R) (length b))).result ≡ not_copied 15
    back (inl h) = rw (lt-leb (length R) (length a) h) refl
    back (inr h) = rw (lt-leb (length R) (length b) h) (either (leb (length R) (length a)))
copy_rule_15 closed R a b = (λ e. let x : ◌≡◌ {A = ℕ} 7 15 = cc in absurd (omega arith), λ h. absurd (closed_not_finished h.0))

copy_rule_other : (f : Phase) (R : List Row) (a b : List ℕ) (k : ℕ) → (copy_rule f R a b).result ≡ not_copied k → (k ≡ 7) ⊎ (k ≡ 15)
unfolding copy_rule
copy_rule_other running R a b k e = let x : ◌≡◌ {A = ℕ} 7 k = cc in inl (sym x)
copy_rule_other finished R a b k e = go (leb (length R) (length a)) (leb (length R) (length b)) e
  where
    go : (x y : Bool) → (outcome R a b x y).result ≡ not_copied k → (k ≡ 7) ⊎ (k ≡ 15)
    go true true e = let x : ◌≡◌ {A = ℕ} 0 1 = cc in absurd (omega arith)
    go true false e = let x : ◌≡◌ {A = ℕ} 15 k = cc in inr (sym x)
    go false y e = let x : ◌≡◌ {A = ℕ} 15 k = cc in inr (sym x)
copy_rule_other closed R a b k e = let x : ◌≡◌ {A = ℕ} 7 k = cc in inl (sym x)

copy_rule_kept : (f : Phase) (R : List Row) (a b : List ℕ) (k : ℕ) → (copy_rule f R a b).result ≡ not_copied k
    → ((copy_rule f R a b).patterns_left ≡ a) × ((copy_rule f R a b).counts_left ≡ b)
unfolding copy_rule
copy_rule_kept running R a b k e = (refl, refl)
copy_rule_kept finished R a b k e = go (leb (length R) (length a)) (leb (length R) (length b)) e
  where
    go : (x y : Bool) → (outcome R a b x y).result ≡ not_copied k
        → ((outcome R a b x y).patterns_left ≡ a) × ((outcome R a b x y).counts_left ≡ b)
    go true true e = let x : ◌≡◌ {A = ℕ} 0 1 = cc in absurd (omega arith)
    go true false e = (refl, refl)
    go false y e = (refl, refl)
copy_rule_kept closed R a b k e = (refl, refl)

-- ---- the table

module _ (N : ℕ → List Row → List ℤ → Option (List Row)) (r : State) (z : ℤ) where
  causes_7 : Why N r z 7 (answer_of N r z).0 → r.phase ≢ running
  causes_7 (why_7 e p) = p
  causes_7 (why_8 e p q o c) = absurd (omega (arith, e))
  causes_7 (why_9 e p q o c) = absurd (omega (arith, e))
  causes_7 (why_10 e p i q o l m c) = absurd (omega (arith, e))

  causes_8 : Why N r z 8 (answer_of N r z).0 → (r.phase ≡ running) × (r.round ≡ 0) × OutOfFirst z
  causes_8 (why_7 e p) = absurd (omega (arith, e))
  causes_8 (why_8 e p q o c) = (p, q, o)
  causes_8 (why_9 e p q o c) = absurd (omega (arith, e))
  causes_8 (why_10 e p i q o l m c) = absurd (omega (arith, e))

  causes_9 : Why N r z 9 (answer_of N r z).0 → (r.phase ≡ running) × (0 < r.round) × (limit_of r < nat_abs z)
  causes_9 (why_7 e p) = absurd (omega (arith, e))
  causes_9 (why_8 e p q o c) = absurd (omega (arith, e))
  causes_9 (why_9 e p q o c) = (p, q, o)
  causes_9 (why_10 e p i q o l m c) = absurd (omega (arith, e))

  causes_10 : Why N r z 10 (answer_of N r z).0
      → (r.phase ≡ running) × (i : ℕ) × (r.round ≡ suc i) × (nat_abs z ≤ limit_of r)
      × (2 * length r.products ≤ suc (length r.answers))
      × (N i r.rows (r.answers ++ (z ∷ [])) ≡ none)
  causes_10 (why_7 e p) = absurd (omega (arith, e))
  causes_10 (why_8 e p q o c) = absurd (omega (arith, e))
  causes_10 (why_9 e p q o c) = absurd (omega (arith, e))
  causes_10 (why_10 e p i q o l m c) = (p, i, q, o, l, m)

  shuts : (k : ℕ) → k ≢ 7 → Why N r z k (answer_of N r z).0 → ((k ≡ 8) ⊎ ((k ≡ 9) ⊎ (k ≡ 10))) × Shut r (answer_of N r z).0
  shuts k h (why_7 e p) = absurd (h e)
  shuts k h (why_8 e p q o c) = (inl e, c)
  shuts k h (why_9 e p q o c) = (inr (inl e), c)
  shuts k h (why_10 e p i q o l m c) = (inr (inr e), c)

pub refusals : (N : ℕ → List Row → List ℤ → Option (List Row)) → Refusals N
refusals N =
    record {
      answer_7 = λ r z. (λ e. causes_7 N r z (why N r z 7 e), λ h. ap (λ (o : State × Step). o.1) (late-answer N r z h));
      as_it_was = λ r z h. ap (λ (o : State × Step). o.0) (late-answer N r z h);
      answer_8 = λ r z. (
        λ e. causes_8 N r z (why N r z 8 e),
        λ h. ap (λ (o : State × Step). o.1) (at_round N r z 0 h.0 h.1) ∙ first-8 N r z h.2,
      );
      answer_9 = λ r z. (λ e. causes_9 N r z (why N r z 9 e), λ h. answer_9_back N r z r.round h.0 refl h.1 h.2);
      answer_10 = λ r z. (
        λ e. causes_10 N r z (why N r z 10 e),
        λ h. answer_10_back N r z h.1 h.0 h.2 h.3 h.4 h.5,
      );
      closes = λ r z k e h. shuts N r z k h (why N r z k e);
      fetch_7 = λ r p. unfold fetch_of in fetch_rule_7 r.phase r.rows p;
      fetch_14 = λ r p. unfold fetch_of in fetch_rule_14 r.phase r.rows p;
      fetch_other = λ r p k e. fetch_rule_other r.phase r.rows p k (unfold fetch_of in e);
      copy_7 = λ r a b. unfold copy_of in copy_rule_7 r.phase r.rows a b;
      copy_15 = λ r a b. unfold copy_of in copy_rule_15 r.phase r.rows a b;
      copy_other = λ r a b k e. copy_rule_other r.phase r.rows a b k (unfold copy_of in e);
      slices_kept = λ r a b k e. unfold copy_of in copy_rule_kept r.phase r.rows a b k (unfold copy_of in e);
    }
