-- The run record of the code, and what it stands for in the rules of `Run`.
--
--   step_of                      == what an answer gives, in the rules' words, with document 01's numbers
--   running_phase, done_phase     == the phase of a record whose run goes on, and of one whose run is done
--   closed_phase                 == the phase of a record that a refusal closed
--   is_sound run                 == the test of a running record: its numbers are within limits, and its products are of the polynomials
--                                  before its round; nothing is asked of its patterns, counts and answers
--   most_asked                   == a number above the questions of any such record
--   is_running run               == the test of a record whose run goes on
--   is_done run                  == the test of a record that is done: at most 64 rows; nothing is asked of what these are
--   unless_closed f l            == the list l, which a closed record does not hold
--   while_running f l            == the list l, which a record holds only while the run goes on
--   state_in f run               == what the record stands for in the phase f: closed, it holds no rows, and only while the run goes on
--                                  products and answers
--   running_state run            == what the record stands for where its run goes on
-- run_phase run                == the phase that the record stands for: of a run that goes on or is done where it passes that test, and of
--                                  a closed run where it passes neither, whatever it holds
--   state_of run                 == what the record stands for, in that phase: its numbers, rows, products and answers as they stand, also
--                                  where no start and no answer could have left them
--   run_of head P C Q A          == the record put together from its numbers, its patterns, counts and products, and its answers
--   with_answer r z              == the round's answers with one more
--   IsClosed run                == the record itself is a closed one: its phase is that of a closed run, and it has no rows and no answers
--   ClosedWhere run step        == where the step is a refusal the record is a closed one
--   AnswerGives run a run' step == what an answer a to the record run promises of the record run' after it and of the step
--   started_of s                 == the record that a start for s polynomials gives, and the step: 3 outside 1 .. 8
--   StartGives s run step       == what a start for s polynomials promises of the record run and of the step
--   StartIn run s run' step     == what a start for s in the lent record run promises of the record run' after it and of the step
use Rattle.std.specs.Prelude.{◌≡◌, Bool, true, cond, ◌&&◌, List, [], ◌∷◌, ◌++◌, ℕ, suc, ◌*◌, ◌-◌, ◌^◌, ◌≤◌, eqb, leb, ℤ, take}
use Rattle.refusals.specs.Numbers.{late, wrong_count, is_among, closing_numbers}
use Rattle.refusals.specs.Refusals.{number_of}
use Rattle.refusals.specs.Limits.{most_points, most_polynomials}
use Rattle.signs.specs.Lists.{is_below}
use Rattle.rounds.specs.Rows.{rows_with}
use Rattle.rounds.specs.RoundEnd.{round_rows}
use Rattle.run_parts.specs.Parts.{in_limits}
use Rattle.runs.specs.Run.{Step, ask, done, refused}
use Rattle.runs.specs.Run.{State, Phase, running, finished, closed, new_in, start_of, answer_of}
use Rattle.run_record.specs.declared.Run.{Run}
use Rattle.run_record.specs.declared.Head.{Head}
use Rattle.run_record.specs.declared.Step as code_step
use Rattle.run_record.specs.declared.Step.TheVariants as steps

-- ---- what an answer gives

abbrev pub step_of : code_step.Step → Step
step_of (steps.Ask p) = ask p.0
step_of steps.Done = done
step_of (steps.Refused e) = refused (number_of e)

-- ---- the record

-- a record's phase; any other number is read as closed
abbrev pub running_phase : ℕ
running_phase = 0

abbrev pub done_phase : ℕ
done_phase = 1

abbrev pub closed_phase : ℕ
closed_phase = 2

abbrev pub most_asked : ℕ
most_asked = 2 * most_points * suc most_polynomials

unfoldable pub is_sound : Run → Bool
is_sound r =
    in_limits r.polynomials r.asked r.round r.n r.rows r.answered
    && cond (eqb r.round 0) true (is_below (3 ^ (r.round - 1)) (take r.rows r.products))

-- the test of a record whose run goes on, and of one that is done
unfoldable pub is_running : Run → Bool
is_running r = eqb r.phase running_phase && is_sound r

unfoldable pub is_done : Run → Bool
is_done r = eqb r.phase done_phase && leb r.rows most_points

-- the numbers and the four lists put together
abbrev pub run_of : Head → List ℕ → List ℕ → List ℕ → List ℤ → Run
run_of h P C Q A =
    record {
      polynomials = h.polynomials;
      asked = h.asked;
      phase = h.phase;
      round = h.round;
      n = h.n;
      rows = h.rows;
      patterns = P;
      counts = C;
      products = Q;
      answered = h.answered;
      answers = A;
    }

-- the answers of the round with one more
abbrev pub with_answer : Run → ℤ → List ℤ
with_answer r z = take r.answered r.answers ++ (z ∷ [])

-- what a record holds in some phases only
abbrev pub unless_closed : {A : Type 0} → Phase → List A → List A
unless_closed running l = l
unless_closed finished l = l
unless_closed closed l = []

abbrev pub while_running : {A : Type 0} → Phase → List A → List A
while_running running l = l
while_running finished l = []
while_running closed l = []

abbrev pub state_in : Phase → Run → State
state_in f r =
    record {
      polynomials = r.polynomials;
      total = r.asked;
      phase = f;
      round = r.round;
      n = r.n;
      rows = unless_closed f (rows_with (take r.rows r.patterns) (take r.rows r.counts));
      products = while_running f (take r.rows r.products);
      answers = while_running f (take r.answered r.answers);
    }

abbrev pub running_state : Run → State
running_state r = state_in running r

unfoldable pub run_phase : Run → Phase
run_phase r = cond (is_running r) running (cond (is_done r) finished closed)

unfoldable pub state_of : Run → State
state_of r = state_in (run_phase r) r

-- ---- a record that a refusal closed

pub record IsClosed (run : Run) : Type 0 where
  pub phase : run.phase ≡ closed_phase
  pub no_rows : run.rows ≡ 0
  pub no_answers : run.answered ≡ 0

abbrev pub ClosedWhere : Run → Step → Type 0
ClosedWhere run step = (k : ℕ) → step ≡ refused k → IsClosed run

-- ---- an answer

pub record AnswerGives (run : Run) (a : ℤ) (run' : Run) (step : Step) : Type 0 where
  -- the two are as the rules say
  pub by_rules : ◌≡◌ {A = State × Step} (state_of run', step) (answer_of round_rows (state_of run) a)
  -- and where the answer comes too late the record is as it was, whatever it holds
  pub as_it_was : step ≡ refused late → run' ≡ run
  -- and where a number closes the run, "the record is then closed and holds no rows"
  pub closes : (k : ℕ) → step ≡ refused k → is_among k closing_numbers ≡ true → IsClosed run'

-- ---- the start

unfoldable pub started_of : ℕ → State × Step
started_of s = cond (leb 1 s && leb s most_polynomials) (start_of s, ask 0) (new_in closed s, refused wrong_count)

pub record StartGives (s : ℕ) (run : Run) (step : Step) : Type 0 where
  -- the two are as the rules say
  pub by_rules : ◌≡◌ {A = State × Step} (state_of run, step) (started_of s)
  -- and the record of a start that is refused is "a closed one"
  pub closes : ClosedWhere run step

pub record StartIn (run : Run) (s : ℕ) (run' : Run) (step : Step) : Type 0 where
  -- the record after a start that begins is that of a start, whatever it held
  pub begins : 1 ≤ s → s ≤ most_polynomials → StartGives s run' step
  -- and where s is refused the record is as it was: "all lent memory; no run begins"
  pub refuses : ((1 ≤ s) × (s ≤ most_polynomials) → ⊥) → (step ≡ refused wrong_count) × (run' ≡ run)
