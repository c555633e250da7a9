-- `printout::next_question` meets its contract.
use borrow.Author.Rules.{sfits_of}
use mir.Facts.{to_z-of_z}
use Rattle.printout.proofs.Showing.{made, numbered, not_shown}
use Rattle.printout.proofs.next_question.Goals as goal

pub returns-in-Ok : goal.returns-in-Ok
returns-in-Ok c =
    numbered _ c.args.card c.args.run c.args.a.0 _ _ c.ask.ensures c.in-Ok.counts c.in-Ok.is
    (rw (to_z-of_z (sfits_of c.panel_number.type_inv), c.panel_number.ensures) at c.take_answer.ensures)

pub returns-in-Err : goal.returns-in-Err
returns-in-Err c =
    not_shown _ c.args.card c.args.run c.args.a.0 _ _ c.ask.ensures c.in-Err.refusal c.in-Err.is
    (made _ _ _ _ _ _ c.with_line.ensures (rw c.number.ensures at c.refusal_line-line.ensures))
