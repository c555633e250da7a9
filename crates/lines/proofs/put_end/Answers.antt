-- `lines::put_end` meets its contract.
use Rattle.lines.specs.Text.{end_line}
use Rattle.lines.proofs.put_end.Goals as goal

pub returns : goal.returns
unfolding end_line
returns c = c.put_last.ensures
