-- `printout::put_question` meets its contract.
use mathlib.Core.Path.{sym, subst}
use borrow.Author.Rules.{sfits_of}
use mir.Facts.{to_z-of_z}
use Rattle.run_record.specs.Record.{state_of}
use Rattle.printout.specs.Steps.{Settled}
use Rattle.printout.proofs.Playing.{settled, last_few, over-line, plays_same, next_counts, next_refused}
use Rattle.printout.proofs.put_question.Goals as goal

pub put_step-requires : goal.put_step-requires
put_step-requires c = record { room = c.requires; few_rows = last_few _ _ _ _ c.answer_lent-step.ensures.by_rules }

pub returns-in-Ok : goal.returns-in-Ok
returns-in-Ok c =
    let st = c.args in
    let q = c.ask.ensures in
    let r = state_of st.run.now in
    let y = c.answer_lent-step.ensures.by_rules in
    let s = c.put_step.ensures st.card (subst Settled (sym y) (settled r _)) in
    plays_same _ _ _ _ _ _ _ _
    (next_counts st.card st.a _ q r c.in-Ok.counts _ c.in-Ok.is
    (rw (to_z-of_z (sfits_of c.panel_number-z.type_inv), c.panel_number-z.ensures) at y))
    (rw (to_z-of_z (sfits_of c.panel_number-z.type_inv), c.panel_number-z.ensures) at s)

pub returns-in-Err : goal.returns-in-Err
returns-in-Err c =
    let st = c.args in
    let r = state_of st.run.now in
    plays_same _ _ _ _ _ _ _ _ (next_refused st.card st.a _ c.ask.ensures r c.in-Err.refusal c.in-Err.is)
    (over-line st.card r st.out.now _ _ st.at _ _ (rw c.number.ensures at c.put_refusal.ensures))
