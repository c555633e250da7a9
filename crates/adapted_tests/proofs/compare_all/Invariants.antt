-- `adapted_tests::compare_all` is safe, and ends: each record read is further on in the file.
use Prim.Native.Nat.{◌≤◌, ◌-◌}
use lib.ListN.{length}
use Rattle.adapted_tests.specs.Counts.{Counted}
use Rattle.adapted_tests.proofs.compare_all.Given as goal

abbrev pub invariant-loop-p : goal.invariant-loop-p
invariant-loop-p g l = (l.p.at ≤ length l.file) × Counted l.p

abbrev pub decreases-loop-p : goal.decreases-loop-p
decreases-loop-p g l = length l.file - l.p.at
