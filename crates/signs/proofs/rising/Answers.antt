-- `signs::rising` meets its contract.
use Rattle.std.proofs.Common.{rules, ltb, tests}
use Rattle.std.proofs.lemmas.List.Sorted.{answers_always}
use Rattle.signs.proofs.Orders.{rising_answer}
use Rattle.signs.proofs.rising.Goals as goal

pub returns : goal.returns
returns c = rising_answer c.args.l.now _ (c.is_sorted_by.ensures.cases ltb (answers_always _ _ _ (λ f a r f' k. search (rules, tests))))
