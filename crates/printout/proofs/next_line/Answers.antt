-- `printout::next_line` meets its contract.
use native.Mathlib.Omega.{arith}
use Rattle.printout.proofs.Showing.{made, question_next, row_next, over_next}
use Rattle.printout.proofs.next_line.Goals as goal

pub returns-in-Ask : goal.returns-in-Ask
returns-in-Ask c =
    question_next _ c.args.progress c.in-Ask.a c.in-Ask.is c.next_question.ensures

pub returns-in-Row : goal.returns-in-Row
returns-in-Row c =
    row_next _ c.args.progress c.in-Row.p c.in-Row.is c.next_row.ensures

pub returns-in-Over : goal.returns-in-Over
returns-in-Over c =
    let e = c.empty_line.ensures in
    over_next _ c.args.progress c.in-Over.is
    (made _ _ _ _ _ _ c.with_line.ensures (e.0, omega (arith, e.1)))
