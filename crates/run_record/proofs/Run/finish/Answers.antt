-- `Run::finish` meets its contract.
use mathlib.Core.Path.{refl}
use native.Mathlib.Numerals.{add-one}
use borrow.Author.Tests.{le-leb}
use Rattle.run_record.specs.Record.{state_of, run_phase, is_running, is_done}
use Rattle.run_record.proofs.Run.finish.Goals as goal

pub returns : goal.returns
unfolding state_of run_phase is_running is_done
returns c =
    rw (le-leb c.args.rows 64 c.requires.1, add-one) refl
