-- `lines::line_by` meets its contract: what `put` wrote to the new array.
use Rattle.std.proofs.Common.{refl}
use Rattle.lines.proofs.line_by.Goals as goal

pub returns : goal.returns
returns g c = record { shown = _; shows = refl; left = _; met = c.put-length.ensures; leaves = refl }
