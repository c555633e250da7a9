-- `run_tests::play_all` ends: each item has a byte or more.
use Rattle.std.proofs.Common.{length}
use Rattle.run_tests.proofs.play_all.Given as goal

abbrev pub decreases-loop-rest : goal.decreases-loop-rest
decreases-loop-rest l = length l.rest
