-- A call takes a polynomial off, or goes one step down within the same number of them.
use Rattle.std.proofs.Common.{◌+◌, ◌*◌}
use Rattle.solver_recursion.proofs.+solving.Given as goal

abbrev pub decreases-solve_pair : goal.decreases-solve_pair
decreases-solve_pair l = 6 * l.i

abbrev pub decreases-put_moment : goal.decreases-put_moment
decreases-put_moment l = 6 * l.i + 1

abbrev pub decreases-moment : goal.decreases-moment
decreases-moment l = 6 * l.i + 2

abbrev pub decreases-find_moments : goal.decreases-find_moments
decreases-find_moments l = 6 * l.i + 3

abbrev pub decreases-solve_low : goal.decreases-solve_low
decreases-solve_low l = 6 * l.i + 4

abbrev pub decreases-solve_split : goal.decreases-solve_split
decreases-solve_split l = 6 * l.i + 5
