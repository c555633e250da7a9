-- `solver_moments::put` meets its contract.
use Rattle.solver_moments.proofs.Loops.{Putting}
use Rattle.solver_moments.proofs.put.Given as goal

abbrev pub invariant-loop-j : goal.invariant-loop-j
invariant-loop-j l = Putting l.k l.mark l.f l.initial.v l.v l.n l.j
