-- `signs::below` meets its contract: the test is that of the numbers passed and of those left.
use native.Mathlib.Omega.{arith}
use Rattle.signs.proofs.Orders.{below_next, below_end}
use Rattle.signs.proofs.below.Goals as goal

pub loop-x-preserved : goal.loop-x-preserved
loop-x-preserved c = below_next _ _ c.args.l.now _ (omega arith) c.loop-x.invariant

pub returns : goal.returns
returns c = below_end _ c.loop-x.x-index c.args.l.now _ (omega arith) c.loop-x.invariant
