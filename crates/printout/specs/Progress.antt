-- A printout line by line: what a `Progress` of the code stands for, and the next line of it.
--
--   Stage         == what comes next: a question, the row at a position, or nothing more
--   ProgressState == an opened card, the run on it and the stage
--   progress_of p  == what the `Progress` p stands for: its record as the rules of a run read it
--   begun_of c     == the card c opened, and the run on it before its first question, product 0
--   after_row p    == the stage after the row at position p; no run has more than 64 rows
--   next_of t      == what t leaves, and its next line: Q with the panel number of the card's answer, S, E past the last row, nothing after
--                    the end; R where the card or the run refuses, and then nothing more
--   Shows o t     == the code's line o and what it leaves are the line and the rest t, and it has room
--   Prints t ls   == the lines from t on, one after the other, are ls, and then it is over
use Rattle.std.specs.Prelude.{◌≡◌, cond, List, [], ◌∷◌, ℕ, suc, ◌≤◌, eqb, ltb, ℤ, Result, Ok, Err}
use Rattle.refusals.specs.Numbers.{past_last}
use Rattle.refusals.specs.Refusals.{number_of}
use Rattle.refusals.specs.declared.Refusal.{Refusal}
use Rattle.refusals.specs.Limits.{most_points}
use Rattle.sign_counts.specs.Counts.{panel_number}
use Rattle.query.specs.Opened.{opened, opened_answer}
use Rattle.query.specs.declared.Opened.{Opened}
use Rattle.sign_counts.specs.declared.SignCounts.{SignCounts}
use Rattle.rounds.specs.RoundEnd.{round_rows}
use Rattle.runs.specs.Run.{State, Step, ask, done, refused, Fetch, row, no_row, answer_of, fetch_of}
use Rattle.run_record.specs.Record.{state_of, started_of}
use Rattle.lines.specs.Text.{line_room, text_of, question_line, row_line, end_line, refusal_line}
use Rattle.printout.specs.declared.Stage as code-stage
use Rattle.printout.specs.declared.Stage.TheVariants as stages
use Rattle.printout.specs.declared.Progress.{Progress}
use Rattle.printout.specs.declared.Printed.{Printed}

pub data Stage : Type 0 where
  question : ℕ → Stage
  row_at : ℕ → Stage
  over : Stage

pub record ProgressState : Type 0 where
  pub card : Opened
  pub state : State
  pub stage : Stage

abbrev pub stage_of : code-stage.Stage → Stage
stage_of (stages.Ask p) = question p.0
stage_of (stages.Row p) = row_at p
stage_of stages.Over = over

abbrev pub progress_of : Progress → ProgressState
progress_of t = record { card = t.card; state = state_of t.run; stage = stage_of t.stage }

unfoldable pub begun_of : List ℕ → ProgressState
begun_of c = record { card = opened c; state = (started_of (opened c).s).0; stage = question 0 }

-- ---- the next line

-- the same card, at another state and stage, with a line
abbrev pub gives : Opened → State → Stage → List ℕ → ProgressState × List ℕ
gives o r g l = (record { card = o; state = r; stage = g }, l)

unfoldable pub on_step : Opened → ℕ → ℤ → State × Step → ProgressState × List ℕ
on_step o α z (r, ask β) = gives o r (question β) (question_line α z)
on_step o α z (r, done) = gives o r (row_at 0) (question_line α z)
on_step o α z (r, refused k) = gives o r over (refusal_line k)

unfoldable pub on_answer : Opened → State → ℕ → Result SignCounts Refusal → ProgressState × List ℕ
on_answer o r α (Ok t) = on_step o α (panel_number t) (answer_of round_rows r (panel_number t))
on_answer o r α (Err e) = gives o r over (refusal_line (number_of e))

unfoldable pub after_row : ℕ → Stage
after_row p = cond (ltb p most_points) (row_at (suc p)) over

unfoldable pub on_fetch : Opened → State → ℕ → Fetch → ProgressState × List ℕ
on_fetch o r p (row x) = gives o r (after_row p) (row_line x.pattern x.count)
on_fetch o r p (no_row k) = gives o r over (cond (eqb k past_last) (end_line r.total) (refusal_line k))

unfoldable pub next_at : Opened → State → Stage → ProgressState × List ℕ
next_at o r (question α) = on_answer o r α (opened_answer o α)
next_at o r (row_at p) = on_fetch o r p (fetch_of r p)
next_at o r over = gives o r over []

unfoldable pub next_of : ProgressState → ProgressState × List ℕ
next_of t = next_at t.card t.state t.stage

pub record Shows (o : Printed) (t : ProgressState × List ℕ) : Type 0 where
  pub left : progress_of o.progress ≡ t.0
  pub text : text_of o.line ≡ t.1
  pub fits : o.line.length ≤ line_room

unfoldable pub Prints : ProgressState → List (List ℕ) → Type 0
Prints t [] = t.stage ≡ over
Prints t (l ∷ ls) = ((next_of t).1 ≡ l) × Prints (next_of t).0 ls
