-- `solver_residuals::gather` meets its contract.
use Prim.Native.Nat.{◌-◌}
use lib.ListN.{length}
use Rattle.solver_residuals.proofs.Gathering.{Gathering}
use Rattle.solver_residuals.proofs.gather.Given as goal

abbrev pub invariant-loop-j : goal.invariant-loop-j
invariant-loop-j l =
    Gathering l.i l.l l.x l.ones l.twos l.u (length l.initial.ones) (length l.initial.twos) (length l.initial.u) l.n l.j
    × Gathering l.i l.l l.y l.ones l.twos l.v (length l.initial.ones) (length l.initial.twos) (length l.initial.v) l.n l.j
