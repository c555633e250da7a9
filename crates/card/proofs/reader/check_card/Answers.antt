-- `card::reader::check_card` meets its contract.
use mathlib.Core.Path.{ap, ◌∙◌}
use Rattle.std.proofs.Common.{Ok}
use Rattle.refusals.specs.Refusals.{checked}
use Rattle.refusals.proofs.Refusals.{passed_none, passed_on_first, passed_up}
use Rattle.card.specs.Card.{refusal}
use Rattle.card.proofs.Positions.{refused-bodies}
use Rattle.card.proofs.reader.check_card.Goals as goal

pub check_bodies-requires : goal.check_bodies-requires
check_bodies-requires c = passed_none _ c.in_ok-check_header.ensures

pub returns-in_err-check_header : goal.returns-in_err-check_header
unfolding refusal
returns-in_err-check_header c =
    passed_up _ c.from_residual.ensures.1 ∙ passed_on_first _ _ c.in_err-check_header.ensures (Ok tt)

pub returns : goal.returns
returns c = c.check_bodies.ensures ∙ ap checked (refused-bodies _ (passed_none _ c.in_ok-check_header.ensures))
