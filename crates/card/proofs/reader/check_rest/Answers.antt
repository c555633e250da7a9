-- `card::reader::check_rest` meets its contract.
use mathlib.Core.Path.{sym, ap}
use native.Mathlib.Omega.{arith}
use Rattle.refusals.specs.Refusals.{checked}
use Rattle.card.proofs.Points.{not_full}
use Rattle.card.proofs.reader.check_rest.Goals as goal

pub returns-then-card-at : goal.returns-then-card-at
returns-then-card-at c = ap checked (sym (not_full _ _ (omega arith)))
