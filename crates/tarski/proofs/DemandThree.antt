-- DEMAND 3 of the library for C: for every list of its calls on one lent record. Each call is known by its contract alone, which for a
-- function over a lent record is an assertion that held where the call ended (`Held`), so that a weaker promise of any of them breaks the
-- theorem.
use mathlib.Core.Path.{◌≡◌, refl, ap, ◌∙◌}
use mathlib.Core.Logic.{◌≢◌, ◌⊎◌, inl, inr}
use mathlib.Core.HLevel.{×_prop}
use mathlib.Core.List.{List, ◌++◌}
use Prim.Native.Nat.{ℕ, zero, suc, ◌≤◌}
use native.Mathlib.Nat.{ℕ_set}
use native.Mathlib.Omega.{arith}
use borrow.Author.Tests.{le-leb}
use lib.Dec.{eqb-suc-zero}
use lib.IntN.{ℤ}
use contract.Lifetimes.{Lfts}
use denote.Triple.Entry.{Args}
use denote.Triple.Clauses.{AtExit}
use Rattle.refusals.specs.Limits.{most_polynomials}
use Rattle.rounds.specs.RoundEnd.{round_rows}
use Rattle.runs.specs.Run.{State, Step, ask, done, refused, Fetch, row, no_row, Copied, copied, not_copied, Copy, running, start_of}
use Rattle.runs.specs.Run.{answer_of, fetch_of, copy_of}
use Rattle.runs.specs.Demand.{Call, Event, phase_of, taken, asks, given, Claim}
use Rattle.runs.proofs.Refusals.{refusals}
use Rattle.runs.proofs.Chains.{Keeps, FromStart, demand3_chain}
use Rattle.runs.proofs.Sets.{step_set, state-set, fetch-set, copy-set}
use Rattle.run_record.specs.Record.{state_of, started_of}
use Rattle.run_record.specs.declared.Run.{Run}
use Rattle.determination.proofs.Worlds.{World, Held, fact_held}
use Rattle.tarski.specs.declared.FlatStep.{FlatStep}
use Rattle.tarski.specs.declared.FlatRow.{FlatRow}
use Rattle.tarski.specs.declared.FlatCopied.{FlatCopied}
use Rattle.tarski.specs.Flat.{flat_step_of, flat_answered_of, kept_on, AnswerGivesFlat, StartGivesFlat, row_of, copied_of, left_of}
use Rattle.tarski.specs.Plain.{step_from, fetch_from, copied_from, copy_from}
use Rattle.tarski.specs.contracts.tarski_start as start
use Rattle.tarski.specs.contracts.tarski_answer as answer
use Rattle.tarski.specs.contracts.tarski_row as fetch
use Rattle.tarski.specs.contracts.tarski_rows as copy
use Rattle.tarski.specs.contracts.tarski_asked as asked

-- ---- a call of each kind, by its contract: what it got, what it gave, what it left

-- a start in a record that holds anything
pub record Started (s : ℕ) (c : Run) (x : Step) : Type 2 where
  pub world : World
  pub lifetimes : Lfts 1
  pub args : Args start.signature lifetimes
  pub result : FlatStep
  pub ends : AtExit start.ended lifetimes
  pub kept : Held world
      ((start.clauses world.𝓛 world.memory world.routines lifetimes args).ensures tt result
      ends)
  pub for : args.1.0 ≡ s
  pub left : ends.0.now ≡ c
  pub gave : x ≡ step_from result

pub record Took (c : Run) (z : ℤ) (c' : Run) (x : Step) : Type 2 where
  pub world : World
  pub lifetimes : Lfts 1
  pub args : Args answer.signature lifetimes
  pub result : FlatStep
  pub ends : AtExit answer.ended lifetimes
  pub kept : Held world
      ((answer.clauses world.𝓛 world.memory world.routines lifetimes args).ensures tt result
      ends)
  pub was : args.0.now ≡ c
  pub number : args.1.0 ≡ z
  pub left : ends.0.now ≡ c'
  pub gave : x ≡ step_from result

pub record Fetches (c : Run) (p : ℕ) (x : Fetch) : Type 2 where
  pub world : World
  pub lifetimes : Lfts 1
  pub args : Args fetch.signature lifetimes
  pub result : FlatRow
  pub ends : AtExit fetch.ended lifetimes
  pub kept : Held world
      ((fetch.clauses world.𝓛 world.memory world.routines lifetimes args).ensures tt result
      ends)
  pub was : args.0.now ≡ c
  pub position : args.1.0 ≡ p
  pub gave : x ≡ fetch_from result

pub record Copies (c : Run) (a b : List ℕ) (x : Copy) : Type 2 where
  pub world : World
  pub lifetimes : Lfts 3
  pub args : Args copy.signature lifetimes
  pub result : FlatCopied
  pub ends : AtExit copy.ended lifetimes
  pub kept : Held world
      ((copy.clauses world.𝓛 world.memory world.routines lifetimes args).ensures tt result
      ends)
  pub was : args.0.now ≡ c
  pub patterns : args.1.0.now ≡ a
  pub counts : args.1.1.0.now ≡ b
  pub gave : x ≡ copy_from result ends.1.0.now ends.1.1.0.now

pub record Asked (c : Run) (total : ℕ) : Type 2 where
  pub world : World
  pub lifetimes : Lfts 1
  pub args : Args asked.signature lifetimes
  pub ends : AtExit asked.ended lifetimes
  pub kept : Held world
      ((asked.clauses world.𝓛 world.memory world.routines lifetimes args).ensures tt total
      ends)
  pub was : args.0.now ≡ c

-- ---- the plain numbers stand for what they were made of

pub step_back : (x : Step) → step_from (flat_step_of x) ≡ x
unfolding step_from flat_step_of
step_back (ask α) = refl
step_back done = refl
step_back (refused k) = refl

fetch_back : (x : Fetch) → x ≢ no_row 0 → fetch_from (row_of x) ≡ x
unfolding fetch_from row_of
fetch_back (row r) h = refl
fetch_back (no_row zero) h = absurd (h refl)
fetch_back (no_row (suc k)) h = rw (eqb-suc-zero k) refl

copied_back : (x : Copied) → x ≢ not_copied 0 → copied_from (copied_of x) ≡ x
unfolding copied_from copied_of
copied_back (copied n) h = refl
copied_back (not_copied zero) h = absurd (h refl)
copied_back (not_copied (suc k)) h = rw (eqb-suc-zero k) refl

-- the rules never refuse with 0
fetch_numbered : (r : State) (p : ℕ) → fetch_of r p ≢ no_row 0
fetch_numbered r p e = go ((refusals round_rows).fetch_other r p 0 e)
  where
    go : (◌≡◌ {A = ℕ} 0 7) ⊎ (◌≡◌ {A = ℕ} 0 14) → ⊥
    go (inl h) = omega (arith, h)
    go (inr h) = omega (arith, h)

copy_numbered : (r : State) (a b : List ℕ) → (copy_of r a b).result ≢ not_copied 0
copy_numbered r a b e = go ((refusals round_rows).copy_other r a b 0 e)
  where
    go : (◌≡◌ {A = ℕ} 0 7) ⊎ (◌≡◌ {A = ℕ} 0 15) → ⊥
    go (inl h) = omega (arith, h)
    go (inr h) = omega (arith, h)

-- ---- the contracts keep the rules

begun : (r : Run) (s : ℕ) (r' : Run) (t : FlatStep) → 1 ≤ s → s ≤ most_polynomials
    → (state_of r', t) ≡ flat_answered_of (kept_on (state_of r) (started_of s))
    → (state_of r' ≡ start_of s) × (step_from t ≡ ask 0)
unfolding started_of kept_on
begun r s r' t h m e =
    let f : ◌≡◌ {A = State × FlatStep} (state_of r', t)
    (start_of s, flat_step_of (ask 0)) = (rw (le-leb 1 s h, le-leb s most_polynomials m) at e) in
    (ap (λ (p : State × FlatStep). p.0) f, ap (λ (p : State × FlatStep). step_from p.1) f ∙ step_back (ask 0))

keeps_starts : (s : ℕ) (c : Run) (x : Step) → 1 ≤ s → s ≤ most_polynomials → Started s c x → (state_of c ≡ start_of s) × (x ≡ ask 0)
keeps_starts s c x h m u =
    rw (← u.left, u.gave, ← u.for)
    (fact_held u.world (StartGivesFlat u.args.0.now u.args.1.0 u.ends.0.now u.result) _
    (×_prop (state-set _ _) (step_set _ _))
    (λ g. begun u.args.0.now u.args.1.0 u.ends.0.now u.result (rw u.for h) (rw u.for m) g.0) u.kept)

keeps_answers : (c : Run) (z : ℤ) (c' : Run) (x : Step) → Took c z c' x
    → (state_of c' ≡ (answer_of round_rows (state_of c) z).0) × (x ≡ (answer_of round_rows (state_of c) z).1)
keeps_answers c z c' x u =
    rw (← u.was, ← u.left, u.gave, ← u.number)
    (fact_held u.world (AnswerGivesFlat u.args.0.now u.args.1.0 u.ends.0.now u.result) _
    (×_prop (state-set _ _) (step_set _ _))
    (λ (y, g, e). (
      ap (λ (p : State × Step). p.0) g.by_rules,
      ap step_from e ∙ step_back y ∙ ap (λ (p : State × Step). p.1) g.by_rules,
    )) u.kept)

pub keeps_fetches : (c : Run) (p : ℕ) (x : Fetch) → Fetches c p x → x ≡ fetch_of (state_of c) p
keeps_fetches c p x u =
    rw (← u.was, u.gave, ← u.position)
    (fact_held u.world (u.result ≡ row_of (fetch_of (state_of u.args.0.now) u.args.1.0)) _ (fetch-set _ _)
    (λ e. ap fetch_from e ∙ fetch_back _ (fetch_numbered (state_of u.args.0.now) _)) u.kept)

copy_back : (t : FlatCopied) (a b : List ℕ) (c : Copy) → c.result ≢ not_copied 0 → (t, a, b) ≡ left_of c → copy_from t a b ≡ c
copy_back t a b c h e =
    ap (λ (p : FlatCopied × List ℕ × List ℕ). copy_from p.0 p.1 p.2) e
    ∙ ap (λ (x : Copied). record { result = x; patterns_left = c.patterns_left; counts_left = c.counts_left }) (copied_back c.result h)

pub keeps_copies : (c : Run) (a b : List ℕ) (x : Copy) → Copies c a b x → x ≡ copy_of (state_of c) a b
keeps_copies c a b x u =
    rw (← u.was, u.gave, ← u.patterns, ← u.counts)
    (fact_held u.world
    ((u.result, u.ends.1.0.now, u.ends.1.1.0.now)
    ≡ left_of (copy_of (state_of u.args.0.now) u.args.1.0.now u.args.1.1.0.now)) _ (copy-set _ _)
    (copy_back _ _ _ _ (copy_numbered (state_of u.args.0.now) _ _)) u.kept)

kept : Keeps Run state_of Started Took Fetches Copies
kept = record { starts = keeps_starts; answers = keeps_answers; fetches = keeps_fetches; copies = keeps_copies }

-- a list of answers, row fetches and row copies on one lent record after a start in it with s from 1 to 8
abbrev pub Calls : ℕ → List Call → List Event → Run → Type 2
Calls s cs t d = FromStart Run state_of Started Took Fetches Copies s cs t d

-- DEMAND 3: after every such list, with the step that the start gave and the question total that the library reports
pub demand3_library : (s : ℕ) → 1 ≤ s → s ≤ most_polynomials → (cs : List Call) (t : List Event) (d : Run) (u : Calls s cs t d)
    → (total : ℕ) → Asked d total
    → Claim s u.first (asks u.first ++ given running t) (taken running t) (phase_of running t) total t
demand3_library s h m cs t d u total a = rw (reported a) (demand3_chain Run state_of Started Took Fetches Copies kept s h m u)
  where
    reported : Asked d total → total ≡ (state_of d).total
    reported a =
        rw (← a.was) (fact_held a.world (total ≡ (state_of a.args.0.now).total) _ (ℕ_set _ _) (λ e. e) a.kept)
