-- `signs::are_patterns` meets its contract.
use native.Mathlib.Omega.{arith}
use Rattle.std.proofs.lemmas.Bool.Decides.{nat_tests}
use Rattle.std.proofs.lemmas.Grind.{common_steps}
use Rattle.signs.specs.Lists.{is_patterns}
use Rattle.signs.proofs.are_patterns.Goals as goal

pub returns-then-rising : goal.returns-then-rising
unfolding is_patterns
returns-then-rising c = grind (arith, common_steps, nat_tests)

pub returns-else-rising : goal.returns-else-rising
unfolding is_patterns
returns-else-rising c = grind (arith, common_steps, nat_tests)
