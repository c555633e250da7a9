-- `generator::step` meets its contract: the product may be reduced before the sum.
use Rattle.std.proofs.Common.{arith}
use Rattle.generator.specs.Generator.{step}
use Rattle.generator.proofs.step.Goals as goal

pub returns : goal.returns
unfolding step
returns c = omega arith
