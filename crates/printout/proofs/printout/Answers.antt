-- `printout::printout` meets its contract.
use Rattle.printout.proofs.Placing.{placed-short, placed-fits}
use Rattle.printout.proofs.printout.Goals as goal

pub returns-then-out-n : goal.returns-then-out-n
returns-then-out-n c =
    placed-short _ c.args.out.now _ c.put_lines-n.ensures.1 c.if-out-n.true

pub returns : goal.returns
returns c =
    let e = c.put_lines-n.ensures in
    placed-fits _ c.args.out.now _ e.1 _ _ e.0 c.copy_at.ensures
    c.if-out-n.false
