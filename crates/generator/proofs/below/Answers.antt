-- `generator::below` meets its contract.
use Rattle.std.proofs.Common.{refl}
use Rattle.generator.specs.Generator.{below}
use Rattle.generator.proofs.Draws.{below_less}
use Rattle.generator.proofs.below.Goals as goal

pub returns : goal.returns
unfolding below
returns c = (refl, below_less c.args.m c.args.state c.requires)
