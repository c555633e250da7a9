-- `run_round_end::all_split` meets its contract: the test is that of the rows left.
use mathlib.Core.Path.{◌≡◌}
use Rattle.rounds.specs.Rows.{rows_with}
use Rattle.rounds.specs.Moments.{all_split}
use Rattle.run_round_end.proofs.StepLaws.{fair_left}
use Rattle.run_round_end.proofs.all_split.Given as goal

abbrev pub invariant-loop-j : goal.invariant-loop-j
invariant-loop-j l = all_split (rows_with l.patterns l.counts) l.es l.gs ≡ fair_left l.patterns l.counts l.es l.gs l.j
