-- `solver_moments::combine_pair` meets its contract.
use lib.ListN.{length}
use Rattle.solver_moments.proofs.Loops.{doubled_at}
use Rattle.solver_moments.proofs.Loops.{Combining}
use Rattle.solver_moments.proofs.combine_pair.Given as goal

abbrev pub invariant-loop-k : goal.invariant-loop-k
invariant-loop-k l =
    Combining (doubled_at l.w l.l l.at l.d l.e l.g) (doubled_at l.w l.l l.at l.d2 l.e2 l.g2) l.initial.u l.initial.v l.u l.v l.sum l.sum2
    l.odd (length l.l) l.k
