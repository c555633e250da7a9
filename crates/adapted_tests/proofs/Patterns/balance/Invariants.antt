-- `adapted_tests::Patterns::balance` is safe: after some patterns the sum is at most as many away from 64.
use Rattle.std.proofs.Common.{◌≤◌, ◌+◌}
use Rattle.adapted_tests.proofs.Patterns.balance.Given as goal

abbrev pub invariant-loop-number : goal.invariant-loop-number
invariant-loop-number l = (l.sum ≤ 64 + l.number-index) × (64 ≤ l.sum + l.number-index)
