-- A run's step as plain numbers.
use mathlib.Core.Path.{◌≡◌, refl, sym, ap, ◌∙◌}
use Prim.Native.Nat.{ℕ, ◌≤◌}
use native.Mathlib.Decide.{dec_le}
use native.Mathlib.Omega.{arith}
use borrow.Author.Tests.{le-leb, lt-leb}
use lib.Dec.{leb}
use lib.IntN.{ℤ}
use Rattle.rounds.specs.RoundEnd.{round_rows}
use mathlib.Core.Bool.{true, cond, ◌&&◌}
use Rattle.runs.specs.Run.{State, Step, ask, done, refused, closed, new_in, start_of, answer_of}
use Rattle.refusals.specs.Numbers.{late, wrong_count, is_among, closing_numbers}
use Rattle.refusals.specs.Limits.{most_polynomials}
use Rattle.run_record.specs.Record.{state_of, IsClosed, started_of, StartIn}
use Rattle.run_record.specs.declared.Run.{Run}
use Rattle.tarski.specs.declared.FlatStep.{FlatStep}
use Rattle.tarski.specs.Flat.{flat_step_of, flat_answered_of, AnswerGivesFlat, StartGivesFlat, kept_on}

-- only a step that is refused has the numbers of such a step
step-refused : (x : Step) (n : ℕ) → flat_step_of x ≡ flat_step_of (refused n) → x ≡ refused n
unfolding flat_step_of
step-refused (ask p) n e = let clash : ◌≡◌ {A = ℕ} 0 2 = ap (λ (t : FlatStep). t.kind) e in absurd (omega arith)
step-refused done n e = let clash : ◌≡◌ {A = ℕ} 1 2 = ap (λ (t : FlatStep). t.kind) e in absurd (omega arith)
step-refused (refused k) n e = ap refused (ap (λ (t : FlatStep). t.value) e)

-- what an answer promises, by its plain numbers alone: they and the record are as the rules say, with those of 7 the record is as it was,
-- and with those of 8, 9 and 10 it is a closed one
pub flat_answer : (run run' : Run) (a : ℤ) (t : FlatStep) → AnswerGivesFlat run a run' t
    → ((state_of run', t) ≡ flat_answered_of (answer_of round_rows (state_of run) a)) × (t ≡ flat_step_of (refused late) → run' ≡ run)
    × ((k : ℕ) → t ≡ flat_step_of (refused k) → is_among k closing_numbers ≡ true → IsClosed run')
flat_answer run run' a t (x, g, e) = (
  ap (λ (u : FlatStep). (state_of run', u)) e ∙ ap flat_answered_of g.by_rules,
  λ l. g.as_it_was (step-refused x late (sym e ∙ l)),
  λ k l. g.closes k (step-refused x k (sym e ∙ l)),
)

-- what a start in a lent record promises, by its plain numbers
started_refused : (s : ℕ) → ((1 ≤ s) × (s ≤ most_polynomials) → ⊥) → started_of s ≡ (new_in closed s, refused wrong_count)
unfolding started_of
started_refused s out = go (dec_le 1 s) (dec_le s 8)
  where
    go : Dec (1 ≤ s) → Dec (s ≤ 8)
        → ◌≡◌ {A = State × Step} (cond (leb 1 s && leb s most_polynomials) (start_of s, ask 0) (new_in closed s, refused wrong_count))
        (new_in closed s, refused wrong_count)
    go (yes a) (yes b) = absurd (out (a, b))
    go (yes a) (no b) = rw (le-leb 1 s a, lt-leb s 8 (omega arith)) refl
    go (no a) b = rw (lt-leb 1 s (omega arith)) refl

flat_refused : (run run' : Run) (s : ℕ) (x : Step) (t : FlatStep) → ((1 ≤ s) × (s ≤ most_polynomials) → ⊥) → StartIn run s run' x
    → t ≡ flat_step_of x
    → StartGivesFlat run s run' t
unfolding kept_on
flat_refused run run' s x t out k e =
    let r = k.refuses out in
    let n : t ≡ flat_step_of (refused wrong_count) = e ∙ ap flat_step_of r.0 in
    (rw (started_refused s out, n, r.1) refl, λ _. r.1)

flat_begun : (run run' : Run) (s : ℕ) (x : Step) (t : FlatStep) → 1 ≤ s → s ≤ most_polynomials → StartIn run s run' x → t ≡ flat_step_of x
    → StartGivesFlat run s run' t
unfolding started_of kept_on flat_step_of
flat_begun run run' s x t g h k e =
    let b : ◌≡◌ {A = State × Step} (state_of run', x)
    (start_of s, ask 0) = (rw (le-leb 1 s g, le-leb s most_polynomials h) at (k.begins g h).by_rules) in
    let n : t ≡ flat_step_of (ask 0) = e ∙ ap (λ (o : State × Step). flat_step_of o.1) b in (
      rw (le-leb 1 s g, le-leb s most_polynomials h, n, ap (λ (o : State × Step). o.0) b) refl,
      λ l. let clash : ◌≡◌ {A = ℕ} 0 2 = ap (λ (u : FlatStep). u.kind) (sym n ∙ l) in absurd (omega arith),
    )

pub flat_start : (run run' : Run) (s : ℕ) (x : Step) (t : FlatStep) → StartIn run s run' x → t ≡ flat_step_of x
    → StartGivesFlat run s run' t
flat_start run run' s x t k e = go (dec_le 1 s) (dec_le s 8)
  where
    go : Dec (1 ≤ s) → Dec (s ≤ 8) → StartGivesFlat run s run' t
    go (yes g) (yes h) = flat_begun run run' s x t g h k e
    go (yes g) (no h) = flat_refused run run' s x t (λ b. h b.1) k e
    go (no g) h = flat_refused run run' s x t (λ b. g b.0) k e
