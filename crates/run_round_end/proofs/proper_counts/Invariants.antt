-- `run_round_end::proper_counts` meets its contract: the counts left add up to at most what is left of 64.
use mathlib.Core.Path.{◌≡◌}
use lib.ListN.{drop}
use Rattle.run_round_end.specs.Steps.{proper_counts}
use Rattle.run_round_end.proofs.StepLaws.{up_to_sum}
use Rattle.run_round_end.proofs.proper_counts.Given as goal

abbrev pub invariant-loop-count : goal.invariant-loop-count
invariant-loop-count l = proper_counts l.counts ≡ up_to_sum l.left (drop l.count-index l.counts)
