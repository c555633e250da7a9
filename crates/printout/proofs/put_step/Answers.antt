-- `printout::put_step` meets its contract.
use native.Mathlib.Omega.{arith}
use mir.Syntax.{w64}
use mir.ValLaws.{to_z-of_z}
use Rattle.printout.proofs.Playing.{step-asks, step-ends, step-refuses}
use Rattle.printout.proofs.put_step.Goals as goal

pub returns-in-Ask : goal.returns-in-Ask
returns-in-Ask c o s =
    let a = c.args in
    step-asks o a.a a.z a.run.now a.step a.out.now a.at c.in-Ask.b _ _ c.in-Ask.is
    (rw (to_z-of_z w64 a.z c.ranges.z) at c.put_question.ensures)

pub returns-in-Done : goal.returns-in-Done
returns-in-Done c o s =
    let a = c.args in
    let l = rw (to_z-of_z w64 a.z c.ranges.z) at c.put_question-end.ensures in
    step-ends o a.a a.z a.run.now a.step a.out.now a.at _ _ _ _ _ c.in-Done.is s (omega arith) (omega arith) l
    c.put_rows.ensures.put
    c.put_rows.ensures.upper_bound

pub returns-in-Refused : goal.returns-in-Refused
returns-in-Refused c o s =
    let a = c.args in
    step-refuses o a.a a.z a.run.now a.step a.out.now a.at c.in-Refused.refusal _ _ _ c.in-Refused.is
    (rw c.number.ensures at c.put_refusal.ensures)
