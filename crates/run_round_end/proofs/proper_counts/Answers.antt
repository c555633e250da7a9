-- `run_round_end::proper_counts` meets its contract: the counts left add up to at most what is left of 64.
use Rattle.std.proofs.Common.{refl, sym, ◌∙◌, arith}
use Rattle.run_round_end.specs.Steps.{proper_counts}
use Rattle.run_round_end.proofs.StepLaws.{counts_here, counts_zero, counts-many, counts-done}
use Rattle.run_round_end.proofs.proper_counts.Goals as goal
use Rattle.run_round_end.proofs.proper_counts.Goals.{then-count-eq0-via-then-count-eq0, then-count-eq0-via-else-count-eq0+then-left-count}

pub loop-count-init : goal.loop-count-init
unfolding proper_counts
loop-count-init c = refl

pub returns-then-count-eq0 : goal.returns-then-count-eq0
returns-then-count-eq0 c =
    let l = c.loop-count in
    sym (l.invariant ∙ elim c.then-count-eq0.branch [
      | then-count-eq0-via-then-count-eq0 w ↦ counts_zero l.left c.args.counts.now l.count-index (omega arith) (omega arith)
      | then-count-eq0-via-else-count-eq0+then-left-count w ↦ counts-many l.left c.args.counts.now l.count-index (omega arith) (omega arith)
    ])

pub loop-count-preserved : goal.loop-count-preserved
loop-count-preserved c =
    c.loop-count.invariant ∙ counts_here c.loop-count.left c.args.counts.now c.loop-count.count-index (omega arith) (omega arith)
    (omega arith)

pub returns : goal.returns
returns c =
    sym (c.loop-count.invariant ∙ counts-done c.loop-count.left c.args.counts.now c.loop-count.count-index (omega arith))
