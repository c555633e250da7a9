-- `Run::start` meets its contract.
use mathlib.Core.Path.{refl}
use native.Mathlib.Omega.{arith}
use Rattle.run_record.proofs.Records.{first_gives}
use Rattle.run_record.proofs.Run.start.Goals as goal

pub returns : goal.returns
returns c =
    record {
      begins = λ g h. first_gives _ c.args.s g h refl refl refl refl refl refl refl;
      refuses = λ h. absurd (h (omega arith, omega arith));
    }
