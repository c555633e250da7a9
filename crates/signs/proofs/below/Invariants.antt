-- `signs::below`: the test is that of the numbers passed and of those left.
use mathlib.Core.Path.{◌≡◌}
use mathlib.Core.Bool.{◌&&◌}
use lib.ListN.{drop}
use Rattle.signs.specs.Lists.{is_below}
use Rattle.signs.proofs.below.Given as goal

abbrev pub invariant-loop-x : goal.invariant-loop-x
invariant-loop-x l = is_below l.bound l.l ≡ (l.all && is_below l.bound (drop l.x-index l.l))
