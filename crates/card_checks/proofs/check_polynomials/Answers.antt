-- `card_checks::check_polynomials` meets its contract.
use Rattle.std.proofs.Common.{arith}
use Rattle.std.proofs.lemmas.Result.{err_from_is_err_and}
use Rattle.card_bytes.proofs.Refused.{some_words}
use Rattle.card_checks.proofs.Polynomials.{wanted_here, cause-found, cause_passed, cause-ended}
use Rattle.card_checks.proofs.check_polynomials.Goals as goal

pub overflow_add-d : goal.overflow_add-d
overflow_add-d c =
    let low = (some_words (λ d. d) 6 0 c.args.degrees.now).0 c.requires.degrees_len_bound.1 c.loop-d.d-index (omega arith) in omega arith

-- the coefficients of the polynomial are there
pub split_at-requires : goal.split_at-requires
split_at-requires c = omega (arith, wanted_here c.args.degrees.now c.loop-d.d-index (omega arith))

pub returns-in_err-check_polynomial : goal.returns-in_err-check_polynomial
returns-in_err-check_polynomial c =
    let p = err_from_is_err_and c.from_residual.result c.from_residual.ensures.1 in
    rw (p.1, p.2)
    (cause-found c.args.degrees.now c.loop-d.left.now c.loop-d.d-index (omega arith)
    (rw c.split_at.ensures.front at c.in_err-check_polynomial.ensures) c.loop-d.invariant.decides)

pub loop-d-preserved : goal.loop-d-preserved
loop-d-preserved c = record {
  decides =
      rw c.split_at.ensures.back
      (cause_passed c.args.degrees.now c.loop-d.left.now c.loop-d.d-index (omega arith)
      (rw c.split_at.ensures.front at c.in_ok-check_polynomial.ensures) c.loop-d.invariant.decides);
  long = omega (arith, wanted_here c.args.degrees.now c.loop-d.d-index (omega arith));
}

pub returns : goal.returns
returns c = cause-ended c.args.degrees.now c.loop-d.left.now c.loop-d.d-index (omega arith) c.loop-d.invariant.decides
