-- `query::ask` meets its contract.
use mathlib.Core.Path.{◌≡◌, ap, ◌∙◌}
use native.Mathlib.Omega.{arith}
use Rattle.query.specs.Opened.{own_refusal}
use Rattle.std.specs.Prelude.{Ok}
use Rattle.std.proofs.lemmas.Result.{err_from_is_err_and}
use Rattle.refusals.proofs.Refusals.{passed_none}
use Rattle.query.proofs.Own.{own-limits, answer-checked, answer-past, answer-within}
use Rattle.query.proofs.ask.Goals as goal
use Rattle.query.proofs.ask.Goals.{In_ok-check_opened}

-- after the test of the card
fine : (c : In_ok-check_opened) → own_refusal c.args.card ≡ 0
fine c = passed_none (own_refusal c.args.card) c.in_ok-check_opened.ensures

pub returns-in_err-check_opened : goal.returns-in_err-check_opened
returns-in_err-check_opened c =
    let p = err_from_is_err_and c.from_residual.result c.from_residual.ensures.1 in
    rw (p.1, p.2) (answer-checked c.args.card c.args.a.0 _ c.in_err-check_opened.ensures)

pub bound-requires : goal.bound-requires
bound-requires c = (own-limits c.args.card (fine c)).0

pub returns-then-bound-a : goal.returns-then-bound-a
returns-then-bound-a c = answer-past _ _ (fine (goal.at.returns-then-bound-a c).In_ok-check_opened) (omega arith)

pub count-requires : goal.count-requires
count-requires c =
    let l = own-limits _ (fine (goal.at.count-requires c).In_ok-check_opened) in (l.0, l.1, omega arith)

pub returns : goal.returns
returns c =
    let a = c.args in
    ap Ok c.count.ensures ∙ answer-within a.card a.a.0 (fine (goal.at.returns c).In_ok-check_opened) (omega arith)
