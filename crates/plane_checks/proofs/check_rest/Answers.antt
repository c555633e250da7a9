-- `plane_checks::check_rest` meets its contract.
use mathlib.Core.Path.{sym, ap}
use native.Mathlib.Omega.{arith}
use Rattle.refusals.specs.Refusals.{checked}
use Rattle.plane_checks.proofs.Points.{plane_not_full}
use Rattle.plane_checks.proofs.check_rest.Goals as goal

pub returns-then-card-at : goal.returns-then-card-at
returns-then-card-at c = ap checked (sym (plane_not_full _ _ (omega arith)))
