-- `card_checks::check_polynomial` meets its contract: each answer is that of the cause found.
use Rattle.std.proofs.Common.{sym, ap, ◌∙◌, pos, get_or, arith, rules}
use mir.Syntax.{w64}
use mir.Val.{SFits}
use Rattle.integers.proofs.I64.{fits_abs, same_bits, other_bits}
use Rattle.refusals.specs.Refusals.{checked}
use Rattle.card_checks.proofs.Coefficients.{cause_large, cause_constant, cause_zero_top, cause_none}
use Rattle.card_checks.proofs.check_polynomial.Goals as goal
use Rattle.card_checks.proofs.check_polynomial.Goals.{else-d-gt0-via-then-d-gt0+else-coefficients-d-eq0, else-d-gt0-via-else-d-gt0}

pub returns-then-has_large : goal.returns-then-has_large
returns-then-has_large c = ap checked (cause_large _ _ (sym c.if-has_large.true ∙ c.has_large.ensures))

pub returns-then-coefficients-d-eq0 : goal.returns-then-coefficients-d-eq0
returns-then-coefficients-d-eq0 c =
    let f : SFits w64 (get_or c.args.coefficients.now c.args.d (pos 0)) = search rules in
    ap checked
    (cause_zero_top _ _ (sym c.if-has_large.false ∙ c.has_large.ensures) (omega arith)
    (same_bits _ (pos 0) f (fits_abs (pos 0) (omega arith)) c.if-coefficients-d-eq0.true))

pub returns : goal.returns
returns c =
    let small = sym c.if-has_large.false ∙ c.has_large.ensures in
    elim c.else-d-gt0.branch [
      | else-d-gt0-via-then-d-gt0+else-coefficients-d-eq0 w ↦
          ap checked (cause_none _ _ small (omega arith) (other_bits _ (pos 0) w.if-coefficients-d-eq0.false))
      | else-d-gt0-via-else-d-gt0 w ↦ ap checked (cause_constant _ _ small (omega arith))
    ]
