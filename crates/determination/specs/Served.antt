-- What a row fetch and a copy of all rows give, in the words of the rules of `Run`, with document 01's numbers.
--
--   fetched_of, copied_of == what the code's calls give
use Rattle.std.specs.Prelude.{ℕ, Result, Ok, Err}
use Rattle.refusals.specs.Refusals.{number_of}
use Rattle.refusals.specs.declared.Refusal.{Refusal}
use Rattle.runs.specs.Run.{Fetch, row, no_row, Copied, copied, not_copied}
use Rattle.determination.specs.declared.Row as code_row

abbrev pub fetched_of : Result code_row.Row Refusal → Fetch
fetched_of (Ok r) = row (record { pattern = r.pattern.0; count = r.count })
fetched_of (Err e) = no_row (number_of e)

abbrev pub copied_of : Result ℕ Refusal → Copied
copied_of (Ok n) = copied n
copied_of (Err e) = not_copied (number_of e)
