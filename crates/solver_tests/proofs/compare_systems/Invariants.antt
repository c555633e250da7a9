-- `solver_tests::compare_systems` is safe, ends, and passes at most 514 bytes with each system.
use Rattle.std.proofs.Common.{◌+◌, ◌-◌, ◌*◌, ◌≤◌}
use Rattle.solver_tests.proofs.compare_systems.Given as goal

abbrev pub invariant-loop-system : goal.invariant-loop-system
invariant-loop-system l = (l._system ≤ l.q) × (l.at ≤ l.next) × (l.next ≤ l.at + 514 * l._system)
