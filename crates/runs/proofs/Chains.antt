-- From the rules to code: a chain of calls each of which keeps its contract is a run by the rules, so demand 3 holds of it. C is the code's
-- record, `view` reads a record of the rules out of it, and Starts, Answers, Fetches, Copies are what the four contracts ensure: Starts s c
-- x that a start for s gives the record c and the step x, Answers c z c' x that the answer z to the record c leaves c' and gives x, and so
-- on.
use mathlib.Core.Path.{◌≡◌, refl, ap, ap₂, ◌∙◌}
use mathlib.Core.List.{List, [], ◌∷◌, ◌++◌}
use Prim.Native.Nat.{ℕ, ◌≤◌}
use lib.IntN.{ℤ}
use Rattle.refusals.specs.Limits.{most_polynomials}
use Rattle.rounds.specs.RoundEnd.{round_rows}
use Rattle.runs.specs.Run.{State, start_of, Step, ask, Fetch, Copy, running, answer_of, fetch_of, copy_of}
use Rattle.runs.specs.Demand.{Call, answer, fetch, copy, Event, answered, fetched, copied_to, state_after, events, phase_of, taken}
use Rattle.runs.specs.Demand.{asks, given, Claim}
use Rattle.runs.proofs.DemandThree.{demand3}
use Rattle.runs.specs.Reached.{Reached}
use Rattle.runs.proofs.Reached.{reached}

module _ {ℓ} (C : Type 0) (view : C → State) (Starts : ℕ → C → Step → Type ℓ) (Answers : C → ℤ → C → Step → Type ℓ)
    (Fetches : C → ℕ → Fetch → Type ℓ) (Copies : C → List ℕ → List ℕ → Copy → Type ℓ) where
  -- the calls cs from the record c give the events t and leave the record d: each call gets the record as the one before left it
  pub data Chain : C → List Call → List Event → C → Type ℓ where
    stop : {c : C} → Chain c [] [] c
    by_answer : {c c' d : C} {z : ℤ} {x : Step} {cs : List Call} {t : List Event}
        → Answers c z c' x → Chain c' cs t d → Chain c (answer z ∷ cs) (answered z x ∷ t) d
    by_fetch : {c d : C} {p : ℕ} {x : Fetch} {cs : List Call} {t : List Event}
        → Fetches c p x → Chain c cs t d → Chain c (fetch p ∷ cs) (fetched p x ∷ t) d
    by_copy : {c d : C} {a b : List ℕ} {x : Copy} {cs : List Call} {t : List Event}
        → Copies c a b x → Chain c cs t d → Chain c (copy a b ∷ cs) (copied_to a b x ∷ t) d

  -- the same after a start for s: "the start" of demand 3's list of calls
  pub record FromStart (s : ℕ) (cs : List Call) (t : List Event) (d : C) : Type ℓ where
    pub began : C
    pub first : Step
    pub start : Starts s began first
    pub calls : Chain began cs t d

  -- the contracts are equations with the rules
  pub record Keeps : Type ℓ where
    pub starts : (s : ℕ) (c : C) (x : Step) → 1 ≤ s → s ≤ most_polynomials → Starts s c x → (view c ≡ start_of s) × (x ≡ ask 0)
    pub answers : (c : C) (z : ℤ) (c' : C) (x : Step) → Answers c z c' x
        → (view c' ≡ (answer_of round_rows (view c) z).0) × (x ≡ (answer_of round_rows (view c) z).1)
    pub fetches : (c : C) (p : ℕ) (x : Fetch) → Fetches c p x → x ≡ fetch_of (view c) p
    pub copies : (c : C) (a b : List ℕ) (x : Copy) → Copies c a b x → x ≡ copy_of (view c) a b

  chain_plays : Keeps → {c d : C} {cs : List Call} {t : List Event} → Chain c cs t d
      → (t ≡ events round_rows (view c) cs) × (view d ≡ state_after round_rows (view c) cs)
  unfolding events state_after
  chain_plays k stop = (refl, refl)
  chain_plays k (by_answer {c} {c'} {d} {z} {x} {cs} {t} a h) = next (k.answers c z c' x a) (chain_plays k h)
    where
      next : (view c' ≡ (answer_of round_rows (view c) z).0) × (x ≡ (answer_of round_rows (view c) z).1)
          → (t ≡ events round_rows (view c') cs) × (view d ≡ state_after round_rows (view c') cs)
          → (answered z x ∷ t ≡ answered z (answer_of round_rows (view c) z).1 ∷ events round_rows (answer_of round_rows (view c) z).0 cs)
          × (view d ≡ state_after round_rows (answer_of round_rows (view c) z).0 cs)
      next (v, w) (e, f) = (
        ap₂ ◌∷◌ (ap (answered z) w) (e ∙ ap (λ (r : State). events round_rows r cs) v),
        f
            ∙ ap (λ (r : State). state_after round_rows r cs) v,
      )
  chain_plays k (by_fetch {c} {p = p} {x} a h) = let (e, f) = chain_plays k h in (ap₂ ◌∷◌ (ap (fetched p) (k.fetches c p x a)) e, f)
  chain_plays k (by_copy {c} {a = a} {b} {x} q h) = let (e, f) = chain_plays k h in (ap₂ ◌∷◌ (ap (copied_to a b) (k.copies c a b x q)) e, f)

  -- what a run gives and leaves is what the rules give and leave
  run_plays : Keeps → (s : ℕ) → 1 ≤ s → s ≤ most_polynomials → {cs : List Call} {t : List Event} {d : C} → FromStart s cs t d
      → (t ≡ events round_rows (start_of s) cs) × (view d ≡ state_after round_rows (start_of s) cs)
  run_plays k s h m {cs} u =
      let (v, w) = k.starts s u.began u.first h m u.start in
      let (e, f) = chain_plays k u.calls in
      (e ∙ ap (λ (r : State). events round_rows r cs) v, f ∙ ap (λ (r : State). state_after round_rows r cs) v)

  -- DEMAND 3 of the code, for every chain of calls after a start
  pub demand3_chain : Keeps → (s : ℕ) → 1 ≤ s → s ≤ most_polynomials → {cs : List Call} {t : List Event} {d : C}
      (u : FromStart s cs t d)
      → Claim s u.first (asks u.first ++ given running t) (taken running t) (phase_of running t) (view d).total t
  unfolding asks
  demand3_chain k s h m {cs} {t} {d} u =
      let (e, f) = run_plays k s h m u in
      rw ((k.starts s u.began u.first h m u.start).1, e, f) (demand3 s h m cs)

  -- and what its records hold
  pub reached_chain : Keeps → (s : ℕ) → 1 ≤ s → s ≤ most_polynomials → {cs : List Call} {t : List Event} {d : C} → FromStart s cs t d
      → Reached s (view d)
  reached_chain k s h m {cs} {t} {d} u = let (e, f) = run_plays k s h m u in rw f (reached s h m cs)
