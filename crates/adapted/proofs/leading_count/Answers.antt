-- `adapted::leading_count` meets its contract: the elements passed are below the bound.
use Rattle.std.proofs.Common.{rules, tests}
use lib.Dec.{leb}
use Rattle.std.proofs.lemmas.Iterator.{YieldsList-from_slice}
use Rattle.std.proofs.lemmas.Iterator.Search.{position_from_yields_List}
use mathlib.Core.Path.{◌∙◌}
use Rattle.adapted.proofs.Merge.{leading_found}
use Rattle.adapted.proofs.leading_count.Goals as goal

pub returns : goal.returns
returns c =
    let p = position_from_yields_List (leb c.args.bound) _ _ c.position.result c.position.ensures.ran
    (YieldsList-from_slice c.args.l.now cc) (λ x b q k. search (rules, tests)) in
    c.unwrap_or.ensures ∙ leading_found _ _ _ p
