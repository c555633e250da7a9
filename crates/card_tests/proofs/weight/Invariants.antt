-- `card_tests::weight` is safe: the sum stays below the modulus.
use Rattle.std.proofs.Common.{◌<◌}
use Rattle.card_tests.proofs.weight.Given as goal

abbrev pub invariant-loop-byte : goal.invariant-loop-byte
invariant-loop-byte l = l.sum < 65521
