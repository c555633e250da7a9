-- `plane_checks::check_polynomial` meets its contract.
use mathlib.Core.Path.{sym, ap, ◌∙◌}
use native.Mathlib.Omega.{arith}
use Rattle.refusals.specs.Refusals.{checked}
use Rattle.std.proofs.Common.{Ok}
use Rattle.refusals.proofs.Causes.{then_some}
use Rattle.refusals.proofs.Refusals.{passed_none, passed_on_first, passed_up}
use Rattle.plane_checks.proofs.Terms.{no_count, many-terms, cut_body, whole-body}
use Rattle.plane_checks.proofs.check_polynomial.Goals as goal

pub returns-then-card-at : goal.returns-then-card-at
returns-then-card-at c = ap checked (sym (no_count _ _ (omega arith)))

pub returns-then-card-at-gt-MOST_TERMS : goal.returns-then-card-at-gt-MOST_TERMS
returns-then-card-at-gt-MOST_TERMS c = ap checked (sym (many-terms _ _ (omega arith) (omega arith)))

pub returns-then-card-at-2 : goal.returns-then-card-at-2
returns-then-card-at-2 c = ap checked (sym (cut_body _ _ (omega arith) (omega arith) (omega arith)))

pub returns-in_err-check_terms : goal.returns-in_err-check_terms
returns-in_err-check_terms c =
    passed_up _ c.from_residual.ensures.1 ∙ passed_on_first _ _ c.in_err-check_terms.ensures (Ok tt)
    ∙ ap checked (sym (whole-body _ _ (record { begins = omega arith; few = omega arith; ends = omega arith })))

pub returns : goal.returns
returns c =
    c.check_limits.ensures ∙ ap checked (then_some _ _ (passed_none _ c.in_ok-check_terms.ensures)
    ∙ sym (whole-body _ _ (record { begins = omega arith; few = omega arith; ends = omega arith })))
