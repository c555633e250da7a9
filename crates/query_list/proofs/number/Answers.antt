-- `query_list::number` meets its contract.
use mathlib.Core.Path.{ap, ◌∙◌}
use borrow.Author.Rules.{sfits_of}
use mir.Syntax.{w64}
use mir.Facts.{to_z-of_z}
use Rattle.sign_counts.specs.Counts.{panel_number}
use Rattle.query.proofs.Counting.{counts-summed}
use Rattle.query_list.proofs.number.Goals as goal

pub returns : goal.returns
returns c =
    let a = c.args in
    to_z-of_z {w = w64} (sfits_of c.panel_number.type_inv) ∙ c.panel_number.ensures
    ∙ ap panel_number c.count.ensures ∙ counts-summed a.card a.a
