-- `card_checks::has_high` meets its contract.
use Rattle.std.proofs.Common.{ltb, ◌∙◌, rules, tests}
use Rattle.std.proofs.lemmas.Iterator.{YieldsList-from_slice}
use Rattle.std.proofs.lemmas.Iterator.Search.{any_from_yields_List}
use Rattle.refusals.specs.Limits.{most_degree}
use Rattle.card_checks.proofs.Searches.{some_any}
use Rattle.card_checks.proofs.has_high.Goals as goal

pub returns : goal.returns
returns c =
    any_from_yields_List (ltb most_degree) _ _ c.any.result c.any.ensures.ran (YieldsList-from_slice c.args.degrees.now cc)
    (λ x b q k. search (rules, tests))
    ∙ some_any _ _
