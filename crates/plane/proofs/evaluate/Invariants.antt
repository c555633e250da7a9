-- `plane::evaluate` meets its contract. The loop's invariant: value is the sum of the first i terms.
use mathlib.Core.Path.{◌≡◌}
use Rattle.integers.specs.Sums.{sum_to}
use Rattle.plane.specs.Values.{term_value}
use Rattle.plane.proofs.evaluate.Given as goal

abbrev pub invariant-loop-i : goal.invariant-loop-i
invariant-loop-i l = l.value ≡ sum_to (term_value l.card l.at (l.x, l.y)) l.i
