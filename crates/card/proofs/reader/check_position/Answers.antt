-- `card::reader::check_position` meets its contract.
use mathlib.Core.Path.{ap, ◌∙◌}
use native.Mathlib.Omega.{arith}
use Rattle.std.proofs.Common.{Ok}
use Rattle.refusals.specs.Refusals.{checked}
use Rattle.refusals.proofs.Refusals.{passed_none, passed_on_first, passed_up}
use Rattle.card.specs.Card.{position_refusal}
use Rattle.card.proofs.Sound.{sound_headed}
use Rattle.card.proofs.Positions.{position_past, position-held}
use Rattle.card.proofs.reader.check_position.Goals as goal

pub returns-in_err-check_card : goal.returns-in_err-check_card
unfolding position_refusal
returns-in_err-check_card c =
    passed_up _ c.from_residual.ensures.1 ∙ passed_on_first _ _ c.in_err-check_card.ensures (Ok tt)

pub bounds-card-1 : goal.bounds-card-1
bounds-card-1 c = let h = sound_headed _ (passed_none _ c.in_ok-check_card.ensures) in omega arith

pub returns-then-from-j : goal.returns-then-from-j
returns-then-from-j c = ap checked (position_past _ _ (passed_none _ c.in_ok-check_card.ensures) (omega arith))

pub returns : goal.returns
returns c = ap checked (position-held _ _ (passed_none _ c.in_ok-check_card.ensures) (omega arith))
