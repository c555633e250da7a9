-- `Run::is_running` meets its contract.
use mathlib.Core.Path.{◌∙◌}
use borrow.Author.Tests.{ne_eqb}
use Rattle.run_record.proofs.Records.{test_phase, test_running}
use Rattle.run_record.proofs.Run.is_running.Goals as goal

pub returns-then-self-eq-RUNNING : goal.returns-then-self-eq-RUNNING
returns-then-self-eq-RUNNING c = c.is_sound.ensures ∙ test_running c.args.self.now c.if-self-eq-RUNNING.true

pub returns-else-self-eq-RUNNING : goal.returns-else-self-eq-RUNNING
returns-else-self-eq-RUNNING c =
    ne_eqb c.args.self.now.phase 0 c.if-self-eq-RUNNING.false ∙ test_phase c.args.self.now c.if-self-eq-RUNNING.false
