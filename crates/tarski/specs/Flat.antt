-- The answers of the calls as plain numbers, for C and Rust: a refusal number beside the result, 0 where nothing is refused.
--
--   card_of a                        == s and n of a sound card; no polynomials and no points where it is refused
--   value_of a                       == a value, or 0 where it is refused
--   flat_counts_of a                  == the panel number of a query and its three counts; 0 for each where it is refused
--   refusal_of a                     == the number that refuses a call for an adapted list or of the solver, or 0
--   flat_step_of a                    == a step of a run: 0 with the product to ask, 1 done, 2 with the number that refuses
--   flat_answered_of t                == the record after a call on a run, and its step as plain numbers
--   kept_on r t                      == the record and the step t of a start in the lent record r: refused, it is as it was (3: "all lent
--                                      memory; no run begins")
--   AnswerGivesFlat run a run' step == what an answer promises, `AnswerGives`, with the step as plain numbers
--   StartGivesFlat run s run' step  == what a start for s in the lent record run promises of the record run' after it and of the step
--   row_of a                         == a row fetched; 0 and 0 where it is refused
--   copied_of a                      == how many rows were copied; none where it is refused
--   left_of c                        == how many rows were copied, and the two slices as they are left
use Rattle.std.specs.Prelude.{◌≡◌, List, ℕ, ℤ, pos, Result, Ok, Err}
use Rattle.card.specs.declared.Shape.{Shape}
use Rattle.sign_counts.specs.Counts.{panel_number}
use Rattle.sign_counts.specs.declared.SignCounts.{SignCounts}
use Rattle.refusals.specs.Refusals.{number_of}
use Rattle.refusals.specs.declared.Refusal.{Refusal}
use Rattle.runs.specs.Run.{State, Step, ask, done, refused, Fetch, row, no_row, Copied, copied, not_copied, Copy}
use Rattle.refusals.specs.Numbers.{wrong_count}
use Rattle.run_record.specs.Record.{state_of, AnswerGives, started_of}
use Rattle.run_record.specs.declared.Run.{Run}
use Rattle.tarski.specs.declared.Checked.{Checked}
use Rattle.tarski.specs.declared.Number.{Number}
use Rattle.tarski.specs.declared.FlatCounts.{FlatCounts}
use Rattle.tarski.specs.declared.FlatStep.{FlatStep}
use Rattle.tarski.specs.declared.FlatRow.{FlatRow}
use Rattle.tarski.specs.declared.FlatCopied.{FlatCopied}

unfoldable pub card_of : Result Shape Refusal → Checked
card_of (Ok c) = record { polynomials = c.polynomials; points = c.points; refusal = 0 }
card_of (Err e) = record { polynomials = 0; points = 0; refusal = number_of e }

unfoldable pub value_of : Result ℤ Refusal → Number
value_of (Ok z) = record { number = z; refusal = 0 }
value_of (Err e) = record { number = pos 0; refusal = number_of e }

unfoldable pub flat_counts_of : Result SignCounts Refusal → FlatCounts
flat_counts_of (Ok t) =
    record { number = panel_number t; positive = t.positive; negative = t.negative; zero = t.zero; refusal = 0 }
flat_counts_of (Err e) = record { number = pos 0; positive = 0; negative = 0; zero = 0; refusal = number_of e }

unfoldable pub refusal_of : Result (Unit {0}) Refusal → ℕ
refusal_of (Ok u) = 0
refusal_of (Err e) = number_of e

unfoldable pub flat_step_of : Step → FlatStep
flat_step_of (ask p) = record { kind = 0; value = p }
flat_step_of done = record { kind = 1; value = 0 }
flat_step_of (refused k) = record { kind = 2; value = k }

abbrev pub flat_answered_of : State × Step → State × FlatStep
flat_answered_of t = (t.0, flat_step_of t.1)

unfoldable pub kept_on : State → State × Step → State × Step
kept_on r (begun, ask p) = (begun, ask p)
kept_on r (begun, done) = (begun, done)
kept_on r (begun, refused k) = (r, refused k)

abbrev pub AnswerGivesFlat : Run → ℤ → Run → FlatStep → Type 0
AnswerGivesFlat run a run' step = (x : Step) × AnswerGives run a run' x × (step ≡ flat_step_of x)

-- where it is refused the record is as it was, whatever it holds
abbrev pub StartGivesFlat : Run → ℕ → Run → FlatStep → Type 0
StartGivesFlat run s run' step =
    ((state_of run', step) ≡ flat_answered_of (kept_on (state_of run) (started_of s)))
    × (step ≡ flat_step_of (refused wrong_count) → run' ≡ run)

unfoldable pub row_of : Fetch → FlatRow
row_of (row r) = record { pattern = r.pattern; count = r.count; refusal = 0 }
row_of (no_row k) = record { pattern = 0; count = 0; refusal = k }

unfoldable pub copied_of : Copied → FlatCopied
copied_of (copied n) = record { rows = n; refusal = 0 }
copied_of (not_copied k) = record { rows = 0; refusal = k }

abbrev pub left_of : Copy → FlatCopied × List ℕ × List ℕ
left_of c = (copied_of c.result, c.patterns_left, c.counts_left)
