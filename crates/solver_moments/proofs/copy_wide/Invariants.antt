-- `solver_moments::copy_wide` meets its contract.
use Rattle.integers.proofs.Stores.{Copying}
use Rattle.solver_moments.proofs.copy_wide.Given as goal

abbrev pub invariant-loop-k : goal.invariant-loop-k
invariant-loop-k l = Copying l.x l.initial.out l.out l.k
