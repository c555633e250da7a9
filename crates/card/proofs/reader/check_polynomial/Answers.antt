-- `card::reader::check_polynomial` meets its contract.
use mathlib.Core.Path.{sym, ap, ◌∙◌}
use native.Mathlib.Omega.{arith}
use Rattle.refusals.specs.Refusals.{checked}
use Rattle.card.proofs.Polynomial.{no_degree, large_degree, cut_body, whole-body}
use Rattle.card.proofs.reader.check_polynomial.Goals as goal

pub returns-then-card-at : goal.returns-then-card-at
returns-then-card-at c = ap checked (sym (no_degree _ _ (omega arith)))

pub returns-then-card-at-gt-MOST_DEGREE : goal.returns-then-card-at-gt-MOST_DEGREE
returns-then-card-at-gt-MOST_DEGREE c = ap checked (sym (large_degree _ _ (omega arith) (omega arith)))

pub returns-then-card-at-2 : goal.returns-then-card-at-2
returns-then-card-at-2 c = ap checked (sym (cut_body _ _ (omega arith) (omega arith) (omega arith)))

pub returns : goal.returns
returns c = c.check_coefficients.ensures ∙ ap checked (sym (whole-body _ _ (omega arith) (omega arith) (omega arith)))
