-- `Run::answer` meets its contract: the rules of a run that goes on, or the record as it was.
use mathlib.Core.Bool.{true}
use mathlib.Core.Path.{◌≡◌, refl, sym, ◌∙◌}
use native.Mathlib.Omega.{arith}
use mir.Syntax.{w64}
use mir.ValLaws.{to_z-of_z}
use Rattle.rounds.specs.RoundEnd.{round_rows}
use Rattle.runs.proofs.Steps.{answer-first, answer_later}
use Rattle.run_record.specs.Record.{is_running, running_state}
use Rattle.run_record.proofs.Records.{running_gives, late_gives}
use Rattle.run_record.proofs.Run.answer.Goals as goal
use Rattle.run_record.proofs.Run.answer.Goals.{Else-not-is_running}

goes : (c : Else-not-is_running) → is_running c.args.self.now ≡ true
goes c = sym c.is_running.ensures ∙ c.if-not-is_running.false

pub returns-then-not-is_running : goal.returns-then-not-is_running
returns-then-not-is_running c = late_gives c.args.self.now c.args.a (sym c.is_running.ensures ∙ c.if-not-is_running.true)

pub returns-then-round-eq0 : goal.returns-then-round-eq0
returns-then-round-eq0 c =
    let r = c.args.self.now in
    let k = c.first_answer.ensures in
    let e = rw (to_z-of_z w64 c.args.a c.ranges.a) at k.0
    ∙ sym (answer-first round_rows (running_state r) c.args.a refl c.if-round-eq0.true) in
    running_gives r _ c.args.a _ (goes (goal.at.returns-then-round-eq0 c).Else-not-is_running) e k.1

pub returns-else-round-eq0 : goal.returns-else-round-eq0
returns-else-round-eq0 c =
    let r = c.args.self.now in
    let h = c.if-round-eq0.false in
    let k = c.later_answer.ensures in
    let e = rw (to_z-of_z w64 c.args.a c.ranges.a) at k.0
    ∙ sym (answer_later round_rows (running_state r) c.args.a refl (omega arith)) in
    running_gives r _ c.args.a _ (goes (goal.at.returns-else-round-eq0 c).Else-not-is_running) e k.1
