-- `card_checks::are_wrong` meets its contract.
use Rattle.std.proofs.Common.{◌≡◌, sym, ◌∙◌, rules, tests}
use Rattle.std.proofs.lemmas.Iterator.{YieldsList-from_slice}
use Rattle.std.proofs.lemmas.Iterator.Search.{any_from_yields_List}
use Rattle.refusals.specs.Limits.{most_point}
use Rattle.integers.specs.Search.{outside}
use Rattle.card_bytes.specs.Causes.{some}
use Rattle.card_checks.proofs.Searches.{some_any}
use Rattle.card_checks.proofs.Points.{wrong-outside, wrong-falling}
use Rattle.card_checks.proofs.are_wrong.Goals as goal
use Rattle.card_checks.proofs.are_wrong.Goals.{After-any}

-- what the search for a point outside its limits answered
searched : (c : After-any) → c.any.result ≡ some (outside most_point) c.args.points.now
searched c =
    any_from_yields_List (outside most_point) _ _ c.any.result c.any.ensures.ran (YieldsList-from_slice c.args.points.now cc)
    (λ x b q k. search (rules, tests))
    ∙ some_any _ _

pub returns-then-any : goal.returns-then-any
returns-then-any c =
    c.if-any.true ∙ sym (wrong-outside _ (sym (searched (goal.at.returns-then-any c).After-any) ∙ c.if-any.true))

pub returns-else-any : goal.returns-else-any
returns-else-any c =
    wrong-falling _ _ (sym (searched (goal.at.returns-else-any c).After-any) ∙ c.if-any.false) c.is_sorted.ensures.by_index
