-- `solver_recursion::shared` meets its contract.
use mathlib.Core.Path.{◌≡◌}
use Rattle.solver_moments.specs.Moments.{rank}
use Rattle.solver_recursion.proofs.shared.Given as goal

abbrev pub invariant-loop-m : goal.invariant-loop-m
invariant-loop-m l = l.n ≡ rank 2 l.mark l.m-index
