-- `printout::begin` meets its contract.
use Rattle.printout.proofs.Showing.{begun}
use Rattle.printout.proofs.begin.Goals as goal

pub returns : goal.returns
returns c =
    let o = c.open-opened in
    begun _ o.result c.start.result.run c.start.result.step o.ensures c.start.ensures.by_rules
