-- `plane_checks::check_limits` meets its contract. The loop's invariant: no coefficient below i is outside its limits.
use mathlib.Core.Path.{◌≡◌}
use mathlib.Core.Bool.{false}
use Rattle.integers.specs.Search.{any_below, outside}
use Rattle.plane.specs.Format.{term_coefficient}
use Rattle.plane_checks.proofs.check_limits.Given as goal

abbrev pub invariant-loop-i : goal.invariant-loop-i
invariant-loop-i l = any_below (λ k. outside 1000000 (term_coefficient l.card l.at k)) l.i ≡ false
