-- `solver_tests::compare_all` is safe, and ends: each list is further on in the file.
use Rattle.std.proofs.Common.{◌-◌, ◌≤◌, length}
use Rattle.solver_tests.proofs.compare_all.Given as goal

abbrev pub invariant-loop-at : goal.invariant-loop-at
invariant-loop-at g l = length l.file ≤ 65536

abbrev pub decreases-loop-at : goal.decreases-loop-at
decreases-loop-at g l = length l.file - l.at
