-- A call takes a polynomial off, or goes one step down within the same number of them.
use Rattle.std.proofs.Common.{◌+◌, ◌*◌}
use Rattle.adapted.proofs.+adapting.Given as goal

abbrev pub decreases-adapted : goal.decreases-adapted
decreases-adapted l = 4 * l.i

abbrev pub decreases-adapted_high : goal.decreases-adapted_high
decreases-adapted_high l = 4 * l.i + 1

abbrev pub decreases-adapted_parts : goal.decreases-adapted_parts
decreases-adapted_parts l = 4 * l.i + 2

abbrev pub decreases-adapted_split : goal.decreases-adapted_split
decreases-adapted_split l = 4 * l.i + 3
