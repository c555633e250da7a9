-- The step that `start_lent` gave, as plain numbers.
use Rattle.run_record.specs.Record.{step_of}
use Rattle.tarski.proofs.FlatSteps.{flat_start}
use Rattle.tarski.proofs.tarski_start.Goals as goal

pub returns : goal.returns
returns c =
    let s = c.start_lent in
    flat_start c.args.run.now s.new.run c.args.s (step_of s.result) c.into.result s.ensures c.into.ensures
