-- `card::reader::check_coefficients` meets its contract. The loop's invariant: no coefficient below i is outside its limits.
use mathlib.Core.Path.{◌≡◌}
use mathlib.Core.Bool.{false}
use Rattle.layout.specs.Format.{coefficient}
use Rattle.integers.specs.Search.{any_below, outside}
use Rattle.card.proofs.reader.check_coefficients.Given as goal

abbrev pub invariant-loop-i : goal.invariant-loop-i
invariant-loop-i l = any_below (λ k. outside 1000000 (coefficient l.card l.at k)) l.i ≡ false
