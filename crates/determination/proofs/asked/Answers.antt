-- `determination::asked` meets its contract: whatever the record stands for, it has the number asked.
use Rattle.determination.proofs.Serves.{total-asked}
use Rattle.determination.proofs.asked.Goals as goal

pub returns : goal.returns
returns c = total-asked c.args.run
