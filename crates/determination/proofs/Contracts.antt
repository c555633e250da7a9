-- DEMAND 3 of the code: the calls are known by their contracts alone, so that a weaker promise of any of them breaks the theorem. `Learnt`
-- is what a call promises of its arguments, its result and what it leaves in lent memory. Of the answer on a lent record it is the
-- assertion of its contract, which held where the call ended (`Held`).
use mathlib.Core.Path.{◌≡◌, ap₂, ◌∙◌}
use mathlib.Core.List.{List, ◌++◌}
use Prim.Native.Nat.{ℕ, ◌≤◌}
use lib.IntN.{ℤ}
use contract.Lifetimes.{Lfts}
use denote.Ref.{MutBor}
use Rattle.refusals.specs.Limits.{most_polynomials}
use Rattle.run_record.specs.declared.Run.{Run}
use Rattle.determination.specs.declared.Answered.{Answered}
use Rattle.determination.specs.declared.Row as code_row
use Rattle.refusals.specs.declared.Refusal.{Refusal}
use Rattle.std.specs.Prelude.{Result}
use Rattle.run_record.specs.declared.Step as code_step
use Rattle.runs.specs.Run.{Step, Fetch, Copy, ask, running, start_of, fetch_of, copy_of}
use Rattle.run_record.specs.Record.{state_of, step_of, AnswerGives}
use Rattle.determination.specs.Served.{fetched_of, copied_of}
use Rattle.runs.specs.Demand.{Call, Event, phase_of, taken, asks, given, Claim}
use Rattle.runs.proofs.Chains.{Keeps, FromStart, demand3_chain}
use Rattle.run_record.proofs.Promises.{ByRules, by_rules, by_rules_prop, start_by_rules}
use Rattle.determination.proofs.start.Reads as start
use Rattle.determination.proofs.answer.Reads as answer
use Rattle.determination.proofs.answer_through.Reads as through
use Rattle.determination.specs.contracts.answer_lent as lent
use Rattle.determination.proofs.Worlds.{World, Held, fact_held}
use Rattle.determination.proofs.fetch_row.Reads as fetch
use Rattle.determination.proofs.copy_rows.Reads as copy
use Rattle.determination.proofs.asked.Reads as asked

-- a call of each kind, by its contract: what it got, what it gave, what it left
pub record Started (s : ℕ) (c : Run) (x : Step) : Type 2 where
  pub result : Answered
  pub kept : start.Learnt tt (s, tt) result (s, tt)
  pub left : c ≡ result.run
  pub gave : x ≡ step_of result.step

-- an answer by value
pub record ByValue (c : Run) (z : ℤ) (c' : Run) (x : Step) : Type 2 where
  pub result : Answered
  pub kept : answer.Learnt tt (c, (z, tt)) result (c, (z, tt))
  pub left : c' ≡ result.run
  pub gave : x ≡ step_of result.step

-- by value, through the lent entry
pub record Through (c : Run) (z : ℤ) (c' : Run) (x : Step) : Type 2 where
  pub result : Answered
  pub kept : through.Learnt tt (c, (z, tt)) result (c, (z, tt))
  pub left : c' ≡ result.run
  pub gave : x ≡ step_of result.step

-- on the lent record, as it was and as it is left
pub record OnLent (c : Run) (z : ℤ) (c' : Run) (x : Step) : Type 2 where
  pub world : World
  pub lifetimes : Lfts 1
  pub before : MutBor Run
  pub after : MutBor Run
  pub result : code_step.Step
  pub kept : Held world
      ((lent.clauses world.𝓛 world.memory world.routines lifetimes (before, (z, tt))).ensures
      tt result (after, (z, tt)))
  pub was : before.now ≡ c
  pub left : after.now ≡ c'
  pub gave : x ≡ step_of result

-- an answer through any of the entries
pub data Took (c : Run) (z : ℤ) (c' : Run) (x : Step) : Type 2 where
  by_value : ByValue c z c' x → Took c z c' x
  through_lent : Through c z c' x → Took c z c' x
  on_lent : OnLent c z c' x → Took c z c' x

pub record Fetches (c : Run) (p : ℕ) (x : Fetch) : Type 2 where
  pub result : Result code_row.Row Refusal
  pub kept : fetch.Learnt tt (c, (p, tt)) result (c, (p, tt))
  pub gave : x ≡ fetched_of result

keeps_starts : (s : ℕ) (c : Run) (x : Step) → 1 ≤ s → s ≤ most_polynomials → Started s c x → (state_of c ≡ start_of s) × (x ≡ ask 0)
keeps_starts s c x h m u = rw (u.left, u.gave) (start_by_rules s u.result.run (step_of u.result.step) u.kept h m)

keeps_value : (c : Run) (z : ℤ) (c' : Run) (x : Step) → ByValue c z c' x → ByRules c z c' x
keeps_value c z c' x u = rw (u.left, u.gave) (by_rules c z u.result.run (step_of u.result.step) u.kept)

keeps_through : (c : Run) (z : ℤ) (c' : Run) (x : Step) → Through c z c' x → ByRules c z c' x
keeps_through c z c' x u = rw (u.left, u.gave) (by_rules c z u.result.run (step_of u.result.step) u.kept)

keeps_lent : (c : Run) (z : ℤ) (c' : Run) (x : Step) → OnLent c z c' x → ByRules c z c' x
keeps_lent c z c' x u =
    rw (← u.was, ← u.left, u.gave)
    (fact_held u.world (AnswerGives u.before.now z u.after.now (step_of u.result))
    (ByRules u.before.now z u.after.now (step_of u.result)) (by_rules_prop _ _ _ _) (by_rules _ _ _ _) u.kept)

keeps_answers : (c : Run) (z : ℤ) (c' : Run) (x : Step) → Took c z c' x → ByRules c z c' x
keeps_answers c z c' x (by_value u) = keeps_value c z c' x u
keeps_answers c z c' x (through_lent u) = keeps_through c z c' x u
keeps_answers c z c' x (on_lent u) = keeps_lent c z c' x u

pub keeps_fetches : (c : Run) (p : ℕ) (x : Fetch) → Fetches c p x → x ≡ fetch_of (state_of c) p
keeps_fetches c p x u = u.gave ∙ u.kept

-- the two slices lent, as they were and as they are left
pub record Copies (c : Run) (a b : List ℕ) (x : Copy) : Type 2 where
  pub lifetimes : Lfts 2
  pub patterns : MutBor (List ℕ)
  pub counts : MutBor (List ℕ)
  pub patterns' : MutBor (List ℕ)
  pub counts' : MutBor (List ℕ)
  pub result : Result ℕ Refusal
  pub kept : copy.Learnt lifetimes (c, (patterns, (counts, tt))) result (c, (patterns', (counts', tt)))
  pub lent_patterns : patterns.now ≡ a
  pub lent_counts : counts.now ≡ b
  pub gave : x ≡ record { result = copied_of result; patterns_left = patterns'.now; counts_left = counts'.now }

pub keeps_copies : (c : Run) (a b : List ℕ) (x : Copy) → Copies c a b x → x ≡ copy_of (state_of c) a b
keeps_copies c a b x u = u.gave ∙ u.kept ∙ ap₂ (λ (p q : List ℕ). copy_of (state_of c) p q) u.lent_patterns u.lent_counts

-- the contracts keep the rules
pub kept : Keeps Run state_of Started Took Fetches Copies
kept = record { starts = keeps_starts; answers = keeps_answers; fetches = keeps_fetches; copies = keeps_copies }

-- a list of answers, each through any of the entries, row fetches and row copies after a start with s from 1 to 8, in which each call gets
-- the record as the one before left it
abbrev pub Calls : ℕ → List Call → List Event → Run → Type 2
Calls s cs t d = FromStart Run state_of Started Took Fetches Copies s cs t d

-- DEMAND 3: after every such list, with the step that the start gave and the question total that the run reports
pub demand3_code : (s : ℕ) → 1 ≤ s → s ≤ most_polynomials → (cs : List Call) (t : List Event) (d : Run) (u : Calls s cs t d)
    → (total : ℕ) → asked.Learnt tt (d, tt) total (d, tt)
    → Claim s u.first (asks u.first ++ given running t) (taken running t) (phase_of running t) total t
demand3_code s h m cs t d u total e = rw e (demand3_chain Run state_of Started Took Fetches Copies kept s h m u)
