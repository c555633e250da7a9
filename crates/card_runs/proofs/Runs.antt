-- THEOREM: a run started with the s of contents and answered throughout by what is shown of them ends done, and its rows are the patterns
-- of the points, counted. For contents with points of any type, any calls that show their queries, and any calls of a run that keep the
-- rules; proofs/Calls.antt has the calls of this library.
use mathlib.Core.Path.{◌≡◌, refl, sym, ap, ◌∙◌, subst}
use mathlib.Core.Logic.{inl, inr, ⊎_elim}
use mathlib.Core.List.{List, [], ◌∷◌, ◌++◌}
use Prim.Native.Nat.{ℕ, zero, suc, ◌+◌, ◌^◌, ◌<◌, ◌≤◌}
use native.Mathlib.Omega.{arith}
use lib.IntN.{ℤ}
use lib.ListN.{length, length-append}
use Rattle.refusals.specs.Limits.{most_polynomials, most_points}
use Rattle.signs.specs.Signs.{query}
use Rattle.contents.specs.Contents.{Contents, query_in, patterns_in}
use Rattle.contents.proofs.Patterns.{query-patterns}
use Rattle.contents_runs.specs.Runs.{rows_in}
use Rattle.contents_runs.proofs.Runs.{oracle, contents-rows}
use Rattle.query.specs.Claim.{Shown, number}
use Rattle.query.specs.Claim as claim
use Rattle.rounds.specs.Rows.{Row, Oracle}
use Rattle.rounds.specs.RoundEnd.{round_rows}
use Rattle.rounds.proofs.RoundEnds.{round_rows_right}
use Rattle.runs.specs.Run.{State, Step, ask, done, refused, Fetch, Copy, Phase, running, finished, start_of, answer_of, fetch_of, copy_of}
use Rattle.runs.specs.Demand.{fetched, copied_to, fetch, copy, events, state_after, asks, Served}
use Rattle.runs.proofs.Chains.{Keeps}
use Rattle.runs.proofs.Invariant.{Inv}
use Rattle.runs.proofs.Phases.{running_not_finished}
use Rattle.runs.proofs.Story.{story}
use Rattle.card_runs.specs.Claim.{Played, begun, one_more, EndsDone}
use Rattle.card_runs.proofs.Counted.{rows-counted}
use Rattle.card_runs.proofs.Truthful.{Waits, Ended, Stands, stands-first, stands_next, ended-rows, ended-few, ended-most}
use Rattle.card_runs.proofs.Truthful.{waits_below, waits_few, waits_most}

-- the number shown
number_of : Shown → ℤ → ℤ
number_of (claim.number z) a = z
number_of (claim.refused m) a = a

-- ---- what is fetched and copied of a record

module _ (s : ℕ) (least : 1 ≤ s) (r : State) (zs : List ℤ) (ps : List ℕ) (I : Inv s r zs ps) where
  serves_row : (R : List Row) → (r.phase ≡ finished → r.rows ≡ R) → (f : Phase) → r.phase ≡ f → (p : ℕ)
      → Served f R (fetched p (fetch_of r p) ∷ [])
  unfolding events state_after
  serves_row R h f e p =
      subst (λ (g : Phase). Served g R (fetched p (fetch_of r p) ∷ [])) e
      ((story round_rows round_rows_right s least (fetch p ∷ []) r zs ps I).served R h)

  serves_rows : (R : List Row) → (r.phase ≡ finished → r.rows ≡ R) → (f : Phase) → r.phase ≡ f → (a b : List ℕ)
      → Served f R (copied_to a b (copy_of r a b) ∷ [])
  unfolding events state_after
  serves_rows R h f e a b =
      subst (λ (g : Phase). Served g R (copied_to a b (copy_of r a b) ∷ [])) e
      ((story round_rows round_rows_right s least (copy a b ∷ []) r zs ps I).served R h)

-- ---- the theorem

module _ {ℓ} {X : Type 0} (K : Contents X) (C : Type 0) (view : C → State) (Starts : ℕ → C → Step → Type ℓ)
    (Answers : C → ℤ → C → Step → Type ℓ) (Fetches : C → ℕ → Fetch → Type ℓ) (Copies : C → List ℕ → List ℕ → Copy → Type ℓ)
    (kept : Keeps C view Starts Answers Fetches Copies) (Asks : ℕ → Shown → Type ℓ)
    (shows : (α : ℕ) (y : Shown) → α < 3 ^ K.s → Asks α y → y ≡ number (query_in K α))
    (least : 1 ≤ K.s) (most : K.s ≤ most_polynomials) (held : length K.points ≤ most_points) where
  abbrev s : ℕ
  s = K.s

  abbrev E : List ℕ
  E = patterns_in K

  abbrev O : Oracle s E
  O = oracle K held

  abbrev Stood : List ℤ → List ℕ → State → Step → Type 0
  Stood = Stands s E least O

  -- what is shown of a product asked is its query, on the patterns too
  true_answer : (zs : List ℤ) (qs : List ℕ) (r : State) (α : ℕ) → Waits s E least O zs qs r α → (z : ℤ) → Asks α (number z)
      → z ≡ query s E α
  unfolding number_of
  true_answer zs qs r α w z a =
      ap (λ (y : Shown). number_of y z) (shows α (number z) (waits_below s E least O zs qs r α w) a) ∙ query-patterns K α

  -- what the record of such a run stands for
  pub stood : {k : ℕ} {d : C} {x : Step} → Played C Starts Answers Asks s k d x
      → (zs : List ℤ) × (qs : List ℕ) × (length zs ≡ k) × Stood zs qs (view d) x
  stood (begun {d} {x} u) =
      let (v, e) = kept.starts s d x least most u in
      ([], [], refl, rw (v, e) (stands-first s E least O))
  stood (one_more {k} {d} {d'} {α} {z} {x} p a u) = next (stood p)
    where
      next : (zs : List ℤ) × (qs : List ℕ) × (length zs ≡ k) × Stood zs qs (view d) (ask α)
          → (zs : List ℤ) × (qs : List ℕ) × (length zs ≡ suc k) × Stood zs qs (view d') x
      next (zs, qs, n, w) =
          let (v, e) = kept.answers d z d' x u in
          let q : z ≡ query s E α = true_answer zs qs (view d) α w z a in (
            zs ++ (query s E α ∷ []),
            qs ++ (α ∷ []),
            omega (arith, n, length-append zs (query s E α ∷ [])),
            rw (v, e, q) (stands_next s E least O zs qs (view d) α w),
          )

  -- by its last step
  abbrev Ends : C → ℕ → Step → Type ℓ
  Ends d k x = EndsDone K Asks (Fetches d) (Copies d) k x

  ends-waiting : (d : C) (k α : ℕ) (zs : List ℤ) (qs : List ℕ) → length zs ≡ k → Waits s E least O zs qs (view d) α → Ends d k (ask α)
  unfolding asks Served
  ends-waiting d k α zs qs n w =
      record {
        asks_or_done = inl (α, b, refl);
        answered = λ β e y a. shows β y (subst (λ (γ : ℕ). γ < 3 ^ s) (same_product β e) b) a;
        few = omega (arith, n, waits_few s E least O zs qs (view d) α w);
        most = omega (arith, n, waits_most s E least O zs qs (view d) α w most);
        fetched = λ e. absurd (not_done e);
        copied = λ e. absurd (not_done e);
        no_row_yet = λ β e p y f.
            rw (kept.fetches d p y f) (serves_row s least (view d) zs (qs ++ (α ∷ [])) w.inv [] none running w.phase p).0;
        no_rows = λ β e p q y f.
            rw (kept.copies d p q y f) (serves_rows s least (view d) zs (qs ++ (α ∷ [])) w.inv [] none running w.phase p q).0;
        rows = contents-rows K;
        counted = rows-counted K;
      }
    where
      b : α < 3 ^ s
      b = waits_below s E least O zs qs (view d) α w

      none : (view d).phase ≡ finished → (view d).rows ≡ []
      none e = absurd (running_not_finished (sym w.phase ∙ e))

      not_done : ask α ≡ done → ⊥
      not_done e = let c : ◌≡◌ {A = ℕ} 0 1 = cc in omega arith

      same_product : (β : ℕ) → ask α ≡ ask β → α ≡ β
      same_product β e = cc

  ends-ended : (d : C) (k : ℕ) (zs : List ℤ) (ps : List ℕ) → length zs ≡ k → Ended s E least O zs ps (view d) → Ends d k done
  unfolding asks Served
  ends-ended d k zs ps n e =
      record {
        asks_or_done = inr refl;
        answered = λ β c. absurd (not_asking β c);
        few = omega (arith, n, ended-few s E least O zs ps (view d) e);
        most = omega (arith, n, ended-most s E least O zs ps (view d) e most);
        fetched = λ c p y f.
            rw (kept.fetches d p y f) (serves_row s least (view d) zs ps e.inv (rows_in K) (λ _. found) finished e.phase p).0;
        copied = λ c p q y f.
            rw (kept.copies d p q y f) (serves_rows s least (view d) zs ps e.inv (rows_in K) (λ _. found) finished e.phase p q).0;
        no_row_yet = λ β c. absurd (not_asking β c);
        no_rows = λ β c. absurd (not_asking β c);
        rows = contents-rows K;
        counted = rows-counted K;
      }
    where
      found : (view d).rows ≡ rows_in K
      found = ended-rows s E least O zs ps (view d) e

      not_asking : (β : ℕ) → done ≡ ask β → ⊥
      not_asking β c = let n : ◌≡◌ {A = ℕ} 0 1 = cc in omega arith

  -- THE THEOREM
  pub ends-done : {k : ℕ} {d : C} {x : Step} → Played C Starts Answers Asks s k d x → EndsDone K Asks (Fetches d) (Copies d) k x
  ends-done {k} {d} {x} p = let (zs, qs, n, st) = stood p in go zs qs n x st
    where
      go : (zs : List ℤ) (qs : List ℕ) → length zs ≡ k → (x : Step) → Stood zs qs (view d) x → Ends d k x
      go zs qs n (ask α) w = ends-waiting d k α zs qs n w
      go zs qs n done e = ends-ended d k zs qs n e
      go zs qs n (refused m) e = absurd e

  -- ---- it ends

  abbrev Plays : ℕ → C → Step → Type ℓ
  Plays k d x = Played C Starts Answers Asks s k d x

  -- a step that asks is none after 593 answers
  over : (k : ℕ) (d : C) (α : ℕ) → Plays k d (ask α) → 593 ≤ k → ⊥
  unfolding asks
  over k d α p h = omega (arith, h, (ends-done p).most)

  -- where each call of such a run has a result, the run is played until it is done
  module _ (starts : (d : C) × (x : Step) × Starts s d x)
      (shown : (k : ℕ) (d : C) (α : ℕ) → Plays k d (ask α) → (y : Shown) × Asks α y)
      (answers : (k : ℕ) (d : C) (α : ℕ) → Plays k d (ask α) → (z : ℤ) → Asks α (number z) → (d' : C) × (x : Step) × Answers d z d' x) where
    abbrev Done : Type ℓ
    Done = (k : ℕ) × (d : C) × Plays k d done

    -- m more answers, from any record
    abbrev Goes : ℕ → Type ℓ
    Goes m = (k : ℕ) (d : C) (x : Step) → Plays k d x → 593 ≤ k + m → Done

    at_done : (k : ℕ) (d : C) (x : Step) → Plays k d x → x ≡ done → Done
    at_done k d x p e = (k, d, subst (Plays k d) e p)

    one_answer : (m : ℕ) → Goes m → Goes (suc m)
    one_answer m more k d x p h =
        ⊎_elim (λ w. at-ask w.0 (subst (Plays k d) w.2 p)) (at_done k d x p) (ends-done p).asks_or_done
      where
        at-ask : (α : ℕ) → Plays k d (ask α) → Done
        at-ask α q =
            let (y, a) = shown k d α q in
            let b : Asks α (number (query_in K α)) = subst (Asks α) ((ends-done q).answered α refl y a) a in
            let (d', x', u) = answers k d α q (query_in K α) b in
            more (suc k) d' x' (one_more q b u) (omega arith)

    goes : (m : ℕ) → Goes m
    goes zero =
        λ k d x p h.
        ⊎_elim (λ w. absurd (over k d w.0 (subst (Plays k d) w.2 p) (omega arith))) (at_done k d x p) (ends-done p).asks_or_done
    goes (suc m) = one_answer m (goes m)

    pub played_done : (k : ℕ) × (d : C) × Played C Starts Answers Asks s k d done
    played_done = let (d, x, u) = starts in goes 593 0 d x (begun u) (omega arith)

-- ---- the rules themselves are such calls, so that there are such runs

module _ {X : Type 0} (K : Contents X) where
  abbrev pub RuleStarts : ℕ → State → Step → Type 0
  RuleStarts s r x = (r ≡ start_of s) × (x ≡ ask 0)

  abbrev pub RuleAnswers : State → ℤ → State → Step → Type 0
  RuleAnswers r z r' x = (r' ≡ (answer_of round_rows r z).0) × (x ≡ (answer_of round_rows r z).1)

  abbrev pub RuleAsks : ℕ → Shown → Type 0
  RuleAsks α y = y ≡ number (query_in K α)

  pub rules_kept : Keeps State (λ r. r) RuleStarts RuleAnswers (λ r p y. y ≡ fetch_of r p) (λ r a b y. y ≡ copy_of r a b)
  rules_kept = record {
    starts = λ s r x h m u. u;
    answers = λ r z r' x u. u;
    fetches = λ r p y u. u;
    copies = λ r a b y u. u;
  }

  pub rules_done : 1 ≤ K.s → K.s ≤ most_polynomials → length K.points ≤ most_points
      → (k : ℕ) × (r : State) × Played State RuleStarts RuleAnswers RuleAsks K.s k r done
  rules_done least most held =
      played_done K State (λ r. r) RuleStarts RuleAnswers (λ r p y. y ≡ fetch_of r p) (λ r a b y. y ≡ copy_of r a b) rules_kept RuleAsks
      (λ α y b e. e) least most held
      (start_of K.s, ask 0, (refl, refl)) (λ k r α p. (number (query_in K α), refl))
      (λ k r α p z e. ((answer_of round_rows r z).0, (answer_of round_rows r z).1, (refl, refl)))
