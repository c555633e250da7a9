-- `run_record::first_head` meets its contract.
use mathlib.Core.Path.{refl}
use Rattle.run_record.specs.Record.{run_of}
use Rattle.run_record.proofs.Records.{first_gives}
use Rattle.run_record.proofs.first_head.Goals as goal

pub returns : goal.returns
returns c P C Q A g h = first_gives (run_of _ P C Q A) c.args.s g h refl refl refl refl refl refl refl
