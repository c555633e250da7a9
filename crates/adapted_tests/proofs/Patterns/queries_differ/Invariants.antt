-- `adapted_tests::Patterns::queries_differ` meets its contract: no more differ than are passed.
use Rattle.std.proofs.Common.{◌≤◌}
use Rattle.adapted_tests.proofs.Patterns.queries_differ.Given as goal

abbrev pub invariant-loop-k : goal.invariant-loop-k
invariant-loop-k l = l.differ ≤ l.k
