-- `solver_residuals::queries_by_digits` meets its contract.
use Prim.Native.Nat.{◌-◌, ◌≤◌}
use lib.ListN.{length}
use Rattle.solver_residuals.proofs.Gathering.{Summing}
use Rattle.solver_residuals.proofs.queries_by_digits.Given as goal

abbrev pub invariant-loop-j : goal.invariant-loop-j
invariant-loop-j l =
    (l.j ≤ length l.u) × Summing l.a.ones l.a.twos l.ones l.twos l.u l.first l.j × Summing l.a.ones l.a.twos l.ones l.twos l.v l.second l.j
