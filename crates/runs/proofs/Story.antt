-- A run through any list of calls: the invariant at its end, and what the events say.
use mathlib.Core.Path.{◌≡◌, refl, sym, ap, ◌∙◌, subst}
use mathlib.Core.Logic.{◌≢◌, ◌⊎◌, inl, inr}
use mathlib.Core.Option.{Option}
use mathlib.Core.Bool.{Bool, true, false, cond}
use mathlib.Core.List.{List, [], ◌∷◌, ◌++◌, map, append_assoc, append-nil}
use Prim.Native.Nat.{ℕ, zero, suc, ◌+◌, ◌<◌, ◌≤◌}
use native.Mathlib.Omega.{arith}
use borrow.Author.Tests.{leb-true, lt-ltb, le-ltb, le-leb}
use lib.IntN.{ℤ}
use lib.Dec.{leb}
use lib.ListN.{length, get_or, drop}
use Rattle.runs.specs.Demand.{Call, answer, fetch, copy, Event, answered, fetched, copied_to, state_after, events, heard, phase_of}
use Rattle.runs.specs.Demand.{numbers, closed_by, takes, taken, asks, given, Proper, Orderly, FetchedFrom, Written, Refused}
use Rattle.runs.specs.Demand.{CopiedFrom, Served, NoRows}
use Rattle.rounds.specs.NextRows.{RightRows}
use Rattle.rounds.specs.Rows.{Row, IsAt}
use Rattle.runs.specs.Run.{Step, ask, done, refused, Phase, running, finished, closed, fetch_rule, copied, kept, copy_rule, State}
use Rattle.runs.specs.Run.{in_phase, answer_of, fetch_of, copy_of}
use Rattle.rounds.proofs.Realized.{at_head, at_tail}
use Rattle.runs.proofs.Phases.{running_not_closed, finished_not_closed}
use Rattle.runs.proofs.Causes.{Cause}
use Rattle.runs.proofs.Invariant.{Inv, After, answer-running}

-- from the phase f, the rows R, the answers zs and the products ps, the events t lead to the record `end`
pub record Story (s : ℕ) (f : Phase) (R : List Row) (zs : List ℤ) (ps : List ℕ) (t : List Event) (end : State) : Type 0 where
  pub inv : Inv s end (zs ++ taken f t) (ps ++ given f t)
  pub phase : phase_of f t ≡ end.phase
  pub orderly : Orderly f t
  pub stays : f ≡ finished → (end.phase ≡ finished) × (end.rows ≡ R)
  pub served : (K : List Row) → (end.phase ≡ finished → end.rows ≡ K) → Served f K t
  -- the number that closed the run has its cause, and a run that is closed has such a number
  pub cause : (k : ℕ) → closed_by f t ≡ k ∷ [] → Cause s k (zs ++ taken f t) (ps ++ given f t)
  pub number : f ≡ running → end.phase ≡ closed → (k : ℕ) × (closed_by f t ≡ k ∷ [])

-- after the end no answer is taken
closed_quiet : (t : List Event) → (closed_by closed t ≡ []) × (taken closed t ≡ []) × (given closed t ≡ [])
unfolding closed_by taken given takes heard
closed_quiet [] = (refl, refl, refl)
closed_quiet (answered z x ∷ t) = closed_quiet t
closed_quiet (fetched p x ∷ t) = closed_quiet t
closed_quiet (copied_to a b x ∷ t) = closed_quiet t

no_calls : (s : ℕ) (r : State) (zs : List ℤ) (ps : List ℕ) → Inv s r zs ps → Story s r.phase r.rows zs ps [] r
unfolding taken given phase_of Orderly Served closed_by
no_calls s r zs ps inv =
    record {
      inv = rw (append-nil zs, append-nil ps) inv;
      phase = refl;
      orderly = tt;
      stays = λ e. (e, refl);
      served = λ K k. tt;
      cause = λ k e. absurd (omega (arith, ap length e));
      number = λ e k. absurd (running_not_closed (sym e ∙ k));
    }

-- ---- one event more

-- the number of an answer taken, or of the calls after it
taken-cause : (s : ℕ) (R' : List Row) (zs : List ℤ) (ps : List ℕ) (t : List Event) (end : State) (z : ℤ) (x : Step) (f : Phase)
    → heard running x ≡ f → ((k : ℕ) → x ≡ refused k → Cause s k (zs ++ (z ∷ [])) ps)
    → Story s f R' (zs ++ (z ∷ [])) (ps ++ asks x) t end → (k : ℕ) → numbers x ++ closed_by f t ≡ k ∷ []
    → Cause s k (zs ++ (z ∷ taken f t)) (ps ++ (asks x ++ given f t))
unfolding numbers heard asks
taken-cause s R' zs ps t end z (ask α) f e w S k m =
    rw (← append_assoc zs (z ∷ []) (taken f t), ← append_assoc ps (α ∷ []) (given f t)) (S.cause k m)
taken-cause s R' zs ps t end z done f e w S k m =
    rw (← append_assoc zs (z ∷ []) (taken f t), ← append_assoc ps [] (given f t)) (S.cause k m)
taken-cause s R' zs ps t end z (refused j) f e w S k m =
    let q = closed_quiet t in
    let a : taken f t ≡ [] = ap (λ (g : Phase). taken g t) (sym e) ∙ q.1 in
    let b : given f t ≡ [] = ap (λ (g : Phase). given g t) (sym e) ∙ q.2 in
    let c : j ≡ k = cc in
    rw (a, b, append-nil ps) (w k (ap refused c))

taken-number : (s : ℕ) (R' : List Row) (zs : List ℤ) (ps : List ℕ) (t : List Event) (end : State) (z : ℤ) (x : Step) (f : Phase)
    → heard running x ≡ f → Story s f R' (zs ++ (z ∷ [])) (ps ++ asks x) t end → end.phase ≡ closed
    → (k : ℕ) × (numbers x ++ closed_by f t ≡ k ∷ [])
unfolding numbers heard
taken-number s R' zs ps t end z (ask α) f e S m = S.number (sym e) m
taken-number s R' zs ps t end z done f e S m = absurd (finished_not_closed (sym (S.stays (sym e)).0 ∙ m))
taken-number s R' zs ps t end z (refused j) f e S m = (
  j,
  ap (λ (l : List ℕ). j ∷ l) (ap (λ (g : Phase). closed_by g t) (sym e) ∙ (closed_quiet t).0),
)

after-taken : (s : ℕ) (R R' : List Row) (zs : List ℤ) (ps : List ℕ) (t : List Event) (end : State) (z : ℤ) (x : Step) (f : Phase)
    → heard running x ≡ f → Proper running x → ((k : ℕ) → x ≡ refused k → Cause s k (zs ++ (z ∷ [])) ps)
    → Story s f R' (zs ++ (z ∷ [])) (ps ++ asks x) t end
    → Story s running R zs ps (answered z x ∷ t) end
unfolding taken given phase_of Orderly Served takes closed_by
after-taken s R R' zs ps t end z x f e p w S =
    record {
      inv =
          rw (e, ← append_assoc zs (z ∷ []) (taken f t), ← append_assoc ps (asks x) (given f t)) S.inv;
      phase = rw e S.phase;
      orderly = (p, rw e S.orderly);
      stays = λ k. absurd (no_phase k);
      served = λ K k. rw e (S.served K k);
      cause = λ k m. rw e (taken-cause s R' zs ps t end z x f e w S k (rw e at m));
      number = λ _ m. rw e (taken-number s R' zs ps t end z x f e S m);
    }
  where
    no_phase : running ≡ finished → ⊥
    no_phase k = let x : ◌≡◌ {A = ℕ} 0 1 = cc in omega arith

after-late : (s : ℕ) (f : Phase) (R : List Row) (zs : List ℤ) (ps : List ℕ) (t : List Event) (end : State) (z : ℤ) → (f ≡ running → ⊥)
    → Story s f R zs ps t end → Story s f R zs ps (answered z (refused 7) ∷ t) end
unfolding taken given phase_of Orderly Served takes heard Proper closed_by
after-late s running R zs ps t end z h S = absurd (h refl)
after-late s finished R zs ps t end z h S =
    record {
      inv = S.inv;
      phase = S.phase;
      orderly = (refl, S.orderly);
      stays = S.stays;
      served = S.served;
      cause = S.cause;
      number = S.number;
    }
after-late s closed R zs ps t end z h S =
    record {
      inv = S.inv;
      phase = S.phase;
      orderly = (refl, S.orderly);
      stays = S.stays;
      served = S.served;
      cause = S.cause;
      number = S.number;
    }

-- ---- one fetch and one copy more

-- what stands at a position
get_d_at : (K : List Row) (p : ℕ) (d : Row) → p < length K → IsAt K p (get_or K p d)
get_d_at [] p d h = absurd (omega arith)
get_d_at (r ∷ K) zero d h = at_head r K
get_d_at (r ∷ K) (suc p) d h = at_tail r K p (get_or K p d) (get_d_at K p d (omega arith))

abbrev no_pattern : Row
no_pattern = record { pattern = 0; count = 0 }

fetch_right : (K : List Row) (p : ℕ) → FetchedFrom K p (fetch_rule finished K p)
unfolding fetch_rule
fetch_right K p =
    record {
      below = λ h. (get_or K p no_pattern, get_d_at K p no_pattern h, rw (lt-ltb p (length K) h) refl);
      past = λ h. rw (le-ltb p (length K) h) refl;
    }

-- f of each row, then what lay past them
written : (f : Row → ℕ) (K : List Row) (a : List ℕ) → length K ≤ length a → Written f K a (map f K ++ drop (length K) a)
written f K a h = record { as_long = long K a h; rows = rows_at; past = past-at K a h }
  where
    long : (K : List Row) (a : List ℕ) → length K ≤ length a → length (map f K ++ drop (length K) a) ≡ length a
    long [] a h = refl
    long (r ∷ K) [] h = absurd (omega arith)
    long (r ∷ K) (x ∷ a) h = ap suc (long K a (omega arith))

    front : (b c : List Row) (r : Row) (l : List ℕ) → get_or (map f (b ++ (r ∷ c)) ++ l) (length b) 0 ≡ f r
    front [] c r l = refl
    front (x ∷ b) c r l = front b c r l

    rows_at : (p : ℕ) (r : Row) → IsAt K p r → get_or (map f K ++ drop (length K) a) p 0 ≡ f r
    rows_at p r i =
        ap (λ (L : List Row). get_or (map f L ++ drop (length K) a) p 0) i.splits
        ∙ ap (λ (k : ℕ). get_or (map f (i.before ++ (r ∷ i.after)) ++ drop (length K) a) k 0) (sym i.position)
        ∙ front i.before i.after r (drop (length K) a)

    past-at : (K : List Row) (a : List ℕ) → length K ≤ length a → (p : ℕ) → length K ≤ p
        → get_or (map f K ++ drop (length K) a) p 0 ≡ get_or a p 0
    past-at [] a h p k = refl
    past-at (r ∷ K) [] h p k = absurd (omega arith)
    past-at (r ∷ K) (x ∷ a) h zero k = absurd (omega arith)
    past-at (r ∷ K) (x ∷ a) h (suc p) k = past-at K a (omega arith) p (omega arith)

copy_right : (K : List Row) (a b : List ℕ) → CopiedFrom K a b (copy_rule finished K a b)
unfolding copy_rule
copy_right K a b =
    record {
      fits =
          λ h k. rw (le-leb (length K) (length a) h, le-leb (length K) (length b) k)
          (refl, written (λ r. r.pattern) K a h, written (λ r. r.count) K b k);
      short = λ h. go h (leb (length K) (length a)) refl (leb (length K) (length b)) refl;
    }
  where
    go : (length a < length K) ⊎ (length b < length K) → (x : Bool) → leb (length K) (length a) ≡ x → (y : Bool)
        → leb (length K) (length b) ≡ y
        → Refused 15 a b (cond x
        (cond y (record {
          result = copied (length K);
          patterns_left = map (λ r. r.pattern) K ++ drop (length K) a;
          counts_left = map (λ r. r.count) K ++ drop (length K) b;
        }) (kept 15 a b)) (kept 15 a b))
    go h false e y f = (refl, refl, refl)
    go h true e false f = (refl, refl, refl)
    go (inl h) true e true f = absurd (omega (arith, leb-true (length K) (length a) e))
    go (inr h) true e true f = absurd (omega (arith, leb-true (length K) (length b) f))

fetch-served : (f : Phase) (R K : List Row) (p : ℕ) (t : List Event) → (f ≡ finished → R ≡ K) → Served f K t
    → Served f K (fetched p (fetch_rule f R p) ∷ t)
unfolding Served fetch_rule
fetch-served running R K p t h S = (refl, S)
fetch-served finished R K p t h S = (
  subst (λ (X : List Row). FetchedFrom K p (fetch_rule finished X p)) (sym (h refl)) (fetch_right K p),
  S,
)
fetch-served closed R K p t h S = (refl, S)

copy-served : (f : Phase) (R K : List Row) (a b : List ℕ) (t : List Event) → (f ≡ finished → R ≡ K) → Served f K t
    → Served f K (copied_to a b (copy_rule f R a b) ∷ t)
unfolding Served copy_rule
copy-served running R K a b t h S = ((refl, refl, refl), S)
copy-served finished R K a b t h S =
    (subst (λ (X : List Row). CopiedFrom K a b (copy_rule finished X a b)) (sym (h refl)) (copy_right K a b), S)
copy-served closed R K a b t h S = ((refl, refl, refl), S)

after-fetch : (s : ℕ) (f : Phase) (R : List Row) (zs : List ℤ) (ps : List ℕ) (t : List Event) (end : State) (p : ℕ)
    → Story s f R zs ps t end → Story s f R zs ps (fetched p (fetch_rule f R p) ∷ t) end
unfolding taken given phase_of Orderly closed_by
after-fetch s f R zs ps t end p S =
    record {
      inv = S.inv;
      phase = S.phase;
      orderly = S.orderly;
      stays = S.stays;
      served = λ K k. fetch-served f R K p t (λ e. sym (S.stays e).1 ∙ k (S.stays e).0) (S.served K k);
      cause = S.cause;
      number = S.number;
    }

after-copy : (s : ℕ) (f : Phase) (R : List Row) (zs : List ℤ) (ps : List ℕ) (t : List Event) (end : State) (a b : List ℕ)
    → Story s f R zs ps t end → Story s f R zs ps (copied_to a b (copy_rule f R a b) ∷ t) end
unfolding taken given phase_of Orderly closed_by
after-copy s f R zs ps t end a b S =
    record {
      inv = S.inv;
      phase = S.phase;
      orderly = S.orderly;
      stays = S.stays;
      served = λ K k. copy-served f R K a b t (λ e. sym (S.stays e).1 ∙ k (S.stays e).0) (S.served K k);
      cause = S.cause;
      number = S.number;
    }

-- a run that is not done at the end served no row
done_stays : (t : List Event) → phase_of finished t ≡ finished
unfolding phase_of heard
done_stays [] = refl
done_stays (answered z x ∷ t) = done_stays t
done_stays (fetched p x ∷ t) = done_stays t
done_stays (copied_to a b x ∷ t) = done_stays t

pub not_done_no_rows : (f : Phase) (K : List Row) (t : List Event) → phase_of f t ≢ finished → Served f K t → NoRows t
unfolding phase_of Served NoRows
not_done_no_rows f K [] h S = tt
not_done_no_rows f K (answered z x ∷ t) h S = not_done_no_rows (heard f x) K t h S
not_done_no_rows running K (fetched p x ∷ t) h S = (S.0, not_done_no_rows running K t h S.1)
not_done_no_rows finished K (fetched p x ∷ t) h S = absurd (h (done_stays t))
not_done_no_rows closed K (fetched p x ∷ t) h S = (S.0, not_done_no_rows closed K t h S.1)
not_done_no_rows running K (copied_to a b x ∷ t) h S = (S.0, not_done_no_rows running K t h S.1)
not_done_no_rows finished K (copied_to a b x ∷ t) h S = absurd (h (done_stays t))
not_done_no_rows closed K (copied_to a b x ∷ t) h S = (S.0, not_done_no_rows closed K t h S.1)

-- ---- every list of calls

module _ (N : ℕ → List Row → List ℤ → Option (List Row)) (right : RightRows N) (s : ℕ) (h : 1 ≤ s) where
  -- what the calls cs do, from any record
  abbrev Goes : List Call → Type 0
  Goes cs = (r : State) (zs : List ℤ) (ps : List ℕ) → Inv s r zs ps → Story s r.phase r.rows zs ps (events N r cs) (state_after N r cs)

  kept-late : (r : State) (z : ℤ) (f : Phase) → r.phase ≡ f → (f ≡ running → ⊥) → answer_of N r z ≡ (r, refused 7)
  unfolding answer_of
  kept-late r z running e k = absurd (k refl)
  kept-late r z finished e k = ap (λ (f : Phase). in_phase N r f z) e
  kept-late r z closed e k = ap (λ (f : Phase). in_phase N r f z) e

  late_call : (z : ℤ) (cs : List Call) → Goes cs → (r : State) (zs : List ℤ) (ps : List ℕ) → Inv s r zs ps → (r.phase ≡ running → ⊥)
      → Story s r.phase r.rows zs ps (answered z (answer_of N r z).1 ∷ events N (answer_of N r z).0 cs)
      (state_after N (answer_of N r z).0 cs)
  late_call z cs ih r zs ps inv k =
      subst (λ (o : State × Step). Story s r.phase r.rows zs ps (answered z o.1 ∷ events N o.0 cs) (state_after N o.0 cs))
      (sym (kept-late r z r.phase refl k))
      (after-late s r.phase r.rows zs ps (events N r cs) (state_after N r cs) z k (ih r zs ps inv))

  taken_call : (z : ℤ) (cs : List Call) → Goes cs → (r : State) (zs : List ℤ) (ps : List ℕ) → Inv s r zs ps → r.phase ≡ running
      → Story s running r.rows zs ps (answered z (answer_of N r z).1 ∷ events N (answer_of N r z).0 cs)
      (state_after N (answer_of N r z).0 cs)
  taken_call z cs ih r zs ps inv e =
      let A : After s zs ps z (answer_of N r z) = answer-running N right s r zs ps z h inv e in
      after-taken s r.rows (answer_of N r z).0.rows zs ps (events N (answer_of N r z).0 cs) (state_after N (answer_of N r z).0 cs) z
      (answer_of N r z).1
      (answer_of N r z).0.phase A.phase A.proper A.cause
      (ih (answer_of N r z).0 (zs ++ (z ∷ [])) (ps ++ asks (answer_of N r z).1) A.inv)

  answer_call : (z : ℤ) (cs : List Call) → Goes cs → (r : State) (zs : List ℤ) (ps : List ℕ) → Inv s r zs ps
      → Story s r.phase r.rows zs ps (answered z (answer_of N r z).1 ∷ events N (answer_of N r z).0 cs)
      (state_after N (answer_of N r z).0 cs)
  answer_call z cs ih r zs ps inv = go r.phase refl
    where
      no_phase : (f : Phase) → (f ≡ finished) ⊎ (f ≡ closed) → f ≡ running → ⊥
      no_phase f (inl a) b = let x : ◌≡◌ {A = ℕ} 0 1 = cc in omega arith
      no_phase f (inr a) b = let x : ◌≡◌ {A = ℕ} 0 1 = cc in omega arith

      go : (f : Phase) → r.phase ≡ f
          → Story s r.phase r.rows zs ps (answered z (answer_of N r z).1 ∷ events N (answer_of N r z).0 cs)
          (state_after N (answer_of N r z).0 cs)
      go running e =
          subst (λ (f : Phase).
          Story s f r.rows zs ps (answered z (answer_of N r z).1 ∷ events N (answer_of N r z).0 cs)
          (state_after N (answer_of N r z).0 cs))
          (sym e) (taken_call z cs ih r zs ps inv e)
      go finished e = late_call z cs ih r zs ps inv (no_phase r.phase (inl e))
      go closed e = late_call z cs ih r zs ps inv (no_phase r.phase (inr e))

  pub story : (cs : List Call) → Goes cs
  unfolding events state_after fetch_of copy_of
  story [] r zs ps inv = no_calls s r zs ps inv
  story (answer z ∷ cs) r zs ps inv = answer_call z cs (story cs) r zs ps inv
  story (fetch p ∷ cs) r zs ps inv = after-fetch s r.phase r.rows zs ps (events N r cs) (state_after N r cs) p (story cs r zs ps inv)
  story (copy a b ∷ cs) r zs ps inv = after-copy s r.phase r.rows zs ps (events N r cs) (state_after N r cs) a b (story cs r zs ps inv)
