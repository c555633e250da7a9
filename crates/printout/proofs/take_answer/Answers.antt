-- `printout::take_answer` meets its contract.
use mir.Syntax.{w64}
use mir.ValLaws.{to_z-of_z}
use Rattle.printout.proofs.Showing.{made, asks, ends, refuses}
use Rattle.printout.proofs.take_answer.Goals as goal

pub returns-in-Ask : goal.returns-in-Ask
returns-in-Ask c =
    let e = to_z-of_z w64 c.args.z c.ranges.z in
    let h = rw e at c.answer-next.ensures.by_rules in
    let l = rw e at c.question_line.ensures in
    asks _ _ c.args.run _ c.args.a.0 c.args.z _ c.in-Ask.b c.in-Ask.is h (made _ _ _ _ _ _ c.with_line.ensures l)

pub returns-in-Done : goal.returns-in-Done
returns-in-Done c =
    let e = to_z-of_z w64 c.args.z c.ranges.z in
    let h = rw e at c.answer-next.ensures.by_rules in
    let l = rw e at c.question_line-in-Done.ensures in
    ends _ _ c.args.run _ c.args.a.0 c.args.z _ c.in-Done.is h
    (made _ _ _ _ _ _ c.with_line-in-Done.ensures l)

pub returns-in-Refused : goal.returns-in-Refused
returns-in-Refused c =
    let h = rw (to_z-of_z w64 c.args.z c.ranges.z) at c.answer-next.ensures.by_rules in
    refuses _ _ c.args.run _ c.args.a.0 c.args.z _ c.in-Refused.refusal c.in-Refused.is h
    (made _ _ _ _ _ _ c.with_line-in-Refused.ensures (rw c.number.ensures at c.refusal_line-line.ensures))
