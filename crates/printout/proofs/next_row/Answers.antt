-- `printout::next_row` meets its contract.
use mathlib.Core.Path.{ap, ◌∙◌}
use Rattle.std.specs.Prelude.{Err}
use Rattle.printout.proofs.Showing.{made, row-shown, last_shown, row-refused, another}
use Rattle.printout.proofs.next_row.Goals as goal

pub returns-in-Ok : goal.returns-in-Ok
returns-in-Ok c =
    row-shown _ c.args.card c.args.run c.args.p _ _ c.fetch_row.ensures c.in-Ok.row _ c.in-Ok.is
    c.after_row.ensures
    (made _ _ _ _ _ _ c.with_line.ensures c.row_line.ensures)

pub returns-in-PastLast : goal.returns-in-PastLast
returns-in-PastLast c =
    let l = rw c.asked.ensures at c.end_line-last.ensures in
    last_shown _ c.args.card c.args.run c.args.p _ _ c.fetch_row.ensures (c.in-Err.is ∙ ap Err c.in-PastLast.is)
    (made _ _ _ _ _ _ c.with_line-in-PastLast.ensures l)

pub returns-in_default : goal.returns-in_default
returns-in_default c =
    row-refused _ c.args.card c.args.run c.args.p _ _ c.fetch_row.ensures c.in-Err.refusal c.in-Err.is
    (another _ c.in_default.not-PastLast)
    (made _ _ _ _ _ _ c.with_line-in_default.ensures (rw c.number.ensures at c.refusal_line-refused.ensures))
