-- `plane_checks::check_points` meets its contract. The loop's invariant: no point below k is wrong, and low is the place of the last one
-- passed, or below that of every point.
use mathlib.Core.Path.{◌≡◌}
use mathlib.Core.Bool.{false}
use Rattle.integers.specs.Search.{any_below}
use Rattle.plane_checks.specs.Checks.{wrong_plane_point}
use Rattle.plane_checks.proofs.Points.{Low}
use Rattle.plane_checks.proofs.check_points.Given as goal

abbrev pub invariant-loop-k : goal.invariant-loop-k
invariant-loop-k l = (any_below (wrong_plane_point l.card l.at) l.k ≡ false) × Low l.card l.at l.k l.low
