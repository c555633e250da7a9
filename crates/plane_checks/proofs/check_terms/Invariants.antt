-- `plane_checks::check_terms` meets its contract. The loop's invariant: no term below i is wrong, and least is one above the place of the
-- last one passed, or 0.
use mathlib.Core.Path.{◌≡◌}
use mathlib.Core.Bool.{false}
use Rattle.integers.specs.Search.{any_below}
use Rattle.plane_checks.specs.Checks.{wrong_term}
use Rattle.plane_checks.proofs.Terms.{Least}
use Rattle.plane_checks.proofs.check_terms.Given as goal

abbrev pub invariant-loop-i : goal.invariant-loop-i
invariant-loop-i l = (any_below (wrong_term l.card l.at) l.i ≡ false) × Least l.card l.at l.i l.least
