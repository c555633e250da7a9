-- `lines::put_refusal` meets its contract.
use Rattle.lines.specs.Text.{refusal_line}
use Rattle.lines.proofs.put_refusal.Goals as goal

pub returns : goal.returns
unfolding refusal_line
returns c = rw c.from.ensures at c.put_last.ensures
