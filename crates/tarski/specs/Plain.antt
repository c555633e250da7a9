-- What the plain numbers that the library's calls give stand for, in the words of the calls below it and of the rules of a run. `Flat` goes
-- the other way.
--
--   answered_from k == what a call for an adapted list or of the solver gives: its result where the number is 0, else refused by it
--   step_from t     == the step: kind 0 asks the product, 1 is done, any other refuses with the number
--   fetch_from t    == the row fetched where the refusal is 0, else the number that refuses
--   copied_from t   == how many rows were copied where the refusal is 0, else the number that refuses
--   copy_from t a b == the same, with the two slices a and b as they are left
use Rattle.std.specs.Prelude.{cond, List, ℕ, eqb, Result}
use Rattle.refusals.specs.Refusals.{checked}
use Rattle.refusals.specs.declared.Refusal.{Refusal}
use Rattle.runs.specs.Run.{Step, ask, done, refused, Fetch, row, no_row, Copied, copied, not_copied, Copy}
use Rattle.tarski.specs.declared.FlatStep.{FlatStep}
use Rattle.tarski.specs.declared.FlatRow.{FlatRow}
use Rattle.tarski.specs.declared.FlatCopied.{FlatCopied}

abbrev pub answered_from : ℕ → Result (Unit {0}) Refusal
answered_from k = checked k

unfoldable pub step_from : FlatStep → Step
step_from t = cond (eqb t.kind 0) (ask t.value) (cond (eqb t.kind 1) done (refused t.value))

unfoldable pub fetch_from : FlatRow → Fetch
fetch_from t = cond (eqb t.refusal 0) (row (record { pattern = t.pattern; count = t.count })) (no_row t.refusal)

unfoldable pub copied_from : FlatCopied → Copied
copied_from t = cond (eqb t.refusal 0) (copied t.rows) (not_copied t.refusal)

abbrev pub copy_from : FlatCopied → List ℕ → List ℕ → Copy
copy_from t a b = record { result = copied_from t; patterns_left = a; counts_left = b }
