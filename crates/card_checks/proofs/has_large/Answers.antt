-- `card_checks::has_large` meets its contract.
use Rattle.std.proofs.Common.{◌∙◌, rules, tests}
use Rattle.std.proofs.lemmas.Iterator.{YieldsList-from_slice}
use Rattle.std.proofs.lemmas.Iterator.Search.{any_from_yields_List}
use Rattle.refusals.specs.Limits.{most_coefficient}
use Rattle.integers.specs.Search.{outside}
use Rattle.card_checks.proofs.Searches.{some_any}
use Rattle.card_checks.proofs.has_large.Goals as goal

pub returns : goal.returns
returns c =
    any_from_yields_List (outside most_coefficient) _ _ c.any.result c.any.ensures.ran (YieldsList-from_slice c.args.coefficients.now cc)
    (λ x b q k. search (rules, tests))
    ∙ some_any _ _
