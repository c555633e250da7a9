-- `Run::close` meets its contract.
use mathlib.Core.Path.{refl}
use native.Mathlib.Numerals.{add-one}
use Rattle.run_record.specs.Record.{state_of, run_phase, is_running, is_done}
use Rattle.run_record.proofs.Run.close.Goals as goal

pub returns : goal.returns
unfolding state_of run_phase is_running is_done
returns c = (rw (add-one) refl, record { phase = refl; no_rows = refl; no_answers = refl })
