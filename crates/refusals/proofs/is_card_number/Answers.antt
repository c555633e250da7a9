-- `refusals::is_card_number` meets its contract.
use Rattle.std.proofs.Common.{◌∙◌}
use Rattle.refusals.specs.Numbers.{card_numbers}
use Rattle.refusals.proofs.Among.{among_any}
use Rattle.refusals.proofs.is_card_number.Goals as goal

pub returns : goal.returns
unfolding card_numbers
returns c = c.contains.ensures.value ∙ among_any c.args.k card_numbers
