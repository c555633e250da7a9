-- `card::reader::check_points` meets its contract. The loop's invariant: no point before this byte's is wrong, and low is the last one
-- passed, or the least that a point may be, with 128 added.
use mathlib.Core.Path.{◌≡◌}
use mathlib.Core.Bool.{false}
use Rattle.integers.specs.Search.{any_below}
use Rattle.card.proofs.Points.{Low, wrong}
use Rattle.card.proofs.reader.check_points.Given as goal

abbrev pub invariant-loop-byte : goal.invariant-loop-byte
invariant-loop-byte l = (any_below (wrong l.card l.at) l.byte-index ≡ false) × Low l.card l.at l.byte-index l.low
