-- What a printed line shows, from its parts.
use mathlib.Core.Path.{◌≡◌, refl, sym, ap, ◌∙◌, subst}
use mathlib.Core.Bool.{false}
use mathlib.Core.List.{List, []}
use Prim.Native.Nat.{ℕ, ◌≤◌}
use lib.Dec.{eqb}
use lib.IntN.{ℤ}
use Rattle.refusals.specs.Numbers.{past_last}
use Rattle.signs.specs.declared.Product.{Product}
use Rattle.query.specs.declared.Opened.{Opened}
use Rattle.sign_counts.specs.Counts.{panel_number}
use Rattle.sign_counts.specs.declared.SignCounts.{SignCounts}
use Rattle.std.specs.Prelude.{Result, Ok, Err}
use Rattle.refusals.specs.Refusals.{number_of}
use Rattle.refusals.specs.declared.Refusal.{Refusal}
use Rattle.query.specs.Opened.{opened, opened_answer}
use Rattle.rounds.specs.RoundEnd.{round_rows}
use Rattle.run_record.specs.declared.Run.{Run}
use Rattle.run_record.specs.declared.Step as code_step
use Rattle.run_record.specs.declared.Step.TheVariants as steps
use Rattle.determination.specs.declared.Row.{Row}
use Rattle.refusals.specs.declared.Refusal.TheVariants.{WrongLength, WrongByte, WrongCount, WrongOffset, WrongCoefficient, WrongPoint, Late}
use Rattle.refusals.specs.declared.Refusal.TheVariants.{BadFirst, BadLater, NoCounts, WrongList, NoSolution, WrongProduct, PastLast}
use Rattle.refusals.specs.declared.Refusal.TheVariants.{TooShort, WrongDegree, ZeroTop, WrongTerms}
use Rattle.runs.specs.Run.{State, Step, Fetch, answer_of, fetch_of}
use Rattle.run_record.specs.Record.{state_of, step_of, started_of}
use Rattle.determination.specs.Served.{fetched_of}
use Rattle.lines.specs.declared.Line.{Line}
use Rattle.lines.specs.Text.{line_room, text_of, question_line, row_line, end_line, refusal_line}
use Rattle.printout.specs.declared.Stage as code-stage
use Rattle.printout.specs.declared.Stage.TheVariants as stages
use Rattle.printout.specs.declared.Progress.{Progress}
use Rattle.printout.specs.declared.Printed.{Printed}
use Rattle.printout.specs.Progress.{Stage, progress_of, stage_of, begun_of, gives, on_step, on_answer, on_fetch, after_row, next_at}
use Rattle.printout.specs.Progress.{next_of}
use Rattle.printout.specs.Progress.{Shows}

-- ---- a line made from its parts

-- what `with_line` promises, and the text of the line
pub record Made (o : Printed) (card : Opened) (run : Run) (stage : code-stage.Stage) (t : List ℕ) : Type 0 where
  pub its_card : o.progress.card ≡ card
  pub its_run : o.progress.run ≡ run
  pub its_stage : o.progress.stage ≡ stage
  pub its_text : text_of o.line ≡ t
  pub its_length : o.line.length ≤ line_room

pub made : (o : Printed) (card : Opened) (run : Run) (stage : code-stage.Stage) (line : Line) (t : List ℕ)
    → (o.progress.card ≡ card) × (o.progress.run ≡ run) × (o.progress.stage ≡ stage) × (o.line ≡ line)
    → (text_of line ≡ t) × (line.length ≤ line_room) → Made o card run stage t
made o card run stage line t (a, b, c, d) (e, f) =
    record {
      its_card = a;
      its_run = b;
      its_stage = c;
      its_text = ap text_of d ∙ e;
      its_length = subst (λ (l : Line). l.length ≤ line_room) (sym d) f;
    }

pub shown : (o : Printed) (card : Opened) (run : Run) (stage : code-stage.Stage) (t : List ℕ) → Made o card run stage t
    → Shows o (gives card (state_of run) (stage_of stage) t)
shown o card run stage t m =
    record {
      left = rw (m.its_card, m.its_run, m.its_stage) refl;
      text = m.its_text;
      fits = m.its_length;
    }

-- ---- a question

module _ (o : Printed) (card : Opened) (run run' : Run) (α : ℕ) (z : ℤ) (step : code_step.Step) where
  -- what `opened_answer` promises
  abbrev Heard : Type 0
  Heard = ◌≡◌ {A = State × Step} (state_of run', step_of step) (answer_of round_rows (state_of run) z)

  abbrev Goal : Type 0
  Goal = Shows o (on_step card α z (answer_of round_rows (state_of run) z))

  heard : Heard → Shows o (on_step card α z (state_of run', step_of step)) → Goal
  heard e s = subst (λ (x : State × Step). Shows o (on_step card α z x)) e s

  pub asks : (b : Product) → step ≡ steps.Ask b → Heard → Made o card run' (stages.Ask b) (question_line α z) → Goal
  unfolding on_step
  asks b e h m =
      heard h (subst (λ (x : code_step.Step). Shows o (on_step card α z (state_of run', step_of x))) (sym e)
      (shown o card run' (stages.Ask b) (question_line α z) m))

  pub ends : step ≡ steps.Done → Heard → Made o card run' (stages.Row 0) (question_line α z) → Goal
  unfolding on_step
  ends e h m =
      heard h (subst (λ (x : code_step.Step). Shows o (on_step card α z (state_of run', step_of x))) (sym e)
      (shown o card run' (stages.Row 0) (question_line α z) m))

  pub refuses : (d : Refusal) → step ≡ steps.Refused d → Heard → Made o card run' stages.Over (refusal_line (number_of d)) → Goal
  unfolding on_step
  refuses d e h m =
      heard h (subst (λ (x : code_step.Step). Shows o (on_step card α z (state_of run', step_of x))) (sym e)
      (shown o card run' stages.Over (refusal_line (number_of d)) m))

module _ (o : Printed) (card : Opened) (run : Run) (α : ℕ) (x y : Result SignCounts Refusal) (same : x ≡ y) where
  pub numbered : (t : SignCounts) → x ≡ Ok t
      → Shows o (on_step card α (panel_number t) (answer_of round_rows (state_of run) (panel_number t)))
      → Shows o (on_answer card (state_of run) α y)
  unfolding on_answer
  numbered t e s = subst (λ (v : Result SignCounts Refusal). Shows o (on_answer card (state_of run) α v)) (sym e ∙ same) s

  pub not_shown : (d : Refusal) → x ≡ Err d → Made o card run stages.Over (refusal_line (number_of d))
      → Shows o (on_answer card (state_of run) α y)
  unfolding on_answer
  not_shown d e m =
      subst (λ (v : Result SignCounts Refusal). Shows o (on_answer card (state_of run) α v)) (sym e ∙ same)
      (shown o card run stages.Over (refusal_line (number_of d)) m)

-- ---- a row

-- no other refusal has the number of this one
pub another : (d : Refusal) → (d ≡ PastLast → ⊥) → eqb (number_of d) past_last ≡ false
another WrongLength h = refl
another WrongByte h = refl
another WrongCount h = refl
another WrongOffset h = refl
another WrongCoefficient h = refl
another WrongPoint h = refl
another Late h = refl
another BadFirst h = refl
another BadLater h = refl
another NoCounts h = refl
another WrongList h = refl
another NoSolution h = refl
another WrongProduct h = refl
another PastLast h = absurd (h refl)
another TooShort h = refl
another WrongDegree h = refl
another ZeroTop h = refl
another WrongTerms h = refl

module _ (o : Printed) (card : Opened) (run : Run) (p : ℕ) (x : Result Row Refusal) (y : Fetch) (same : fetched_of x ≡ y) where
  pub row-shown : (r : Row) (g : code-stage.Stage) → x ≡ Ok r → stage_of g ≡ after_row p
      → Made o card run g (row_line r.pattern.0 r.count)
      → Shows o (on_fetch card (state_of run) p y)
  unfolding on_fetch
  row-shown r g e a m =
      subst (λ (v : Fetch). Shows o (on_fetch card (state_of run) p v)) (ap fetched_of (sym e) ∙ same)
      (subst (λ (u : Stage). Shows o (gives card (state_of run) u (row_line r.pattern.0 r.count))) a
      (shown o card run g (row_line r.pattern.0 r.count) m))

  pub last_shown : x ≡ Err PastLast → Made o card run stages.Over (end_line (state_of run).total)
      → Shows o (on_fetch card (state_of run) p y)
  unfolding on_fetch
  last_shown e m =
      subst (λ (v : Fetch). Shows o (on_fetch card (state_of run) p v)) (ap fetched_of (sym e) ∙ same)
      (shown o card run stages.Over (end_line (state_of run).total) m)

  pub row-refused : (d : Refusal) → x ≡ Err d → eqb (number_of d) past_last ≡ false
      → Made o card run stages.Over (refusal_line (number_of d))
      → Shows o (on_fetch card (state_of run) p y)
  unfolding on_fetch
  row-refused d e h m =
      subst (λ (v : Fetch). Shows o (on_fetch card (state_of run) p v)) (ap fetched_of (sym e) ∙ same)
      (rw h (shown o card run stages.Over (refusal_line (number_of d)) m))

-- ---- the next line

module _ (o : Printed) (t : Progress) where
  pub question_next : (a : Product) → t.stage ≡ stages.Ask a
      → Shows o (on_answer t.card (state_of t.run) a.0 (opened_answer t.card a.0)) → Shows o (next_of (progress_of t))
  unfolding next_of next_at
  question_next a e s = rw e s

  pub row_next : (p : ℕ) → t.stage ≡ stages.Row p → Shows o (on_fetch t.card (state_of t.run) p (fetch_of (state_of t.run) p))
      → Shows o (next_of (progress_of t))
  unfolding next_of next_at
  row_next p e s = rw e s

  pub over_next : t.stage ≡ stages.Over → Made o t.card t.run stages.Over [] → Shows o (next_of (progress_of t))
  unfolding next_of next_at
  over_next e m = rw e (shown o t.card t.run stages.Over [] m)

-- ---- the beginning

pub begun : (c : List ℕ) (o : Opened) (run : Run) (step : code_step.Step) → o ≡ opened c
    → ◌≡◌ {A = State × Step} (state_of run, step_of step) (started_of o.s)
    → progress_of (record { card = o; run = run; stage = stages.Ask (record { 0 = 0 }) }) ≡ begun_of c
unfolding begun_of
begun c o run step e h = rw (← e, ← h) refl
