-- `query_list::query_all` meets its contract.
use mathlib.Core.Path.{ap, ◌∙◌}
use Rattle.query.specs.declared.Opened.{Opened}
use Rattle.query_list.specs.Listing.{opened_listing}
use Rattle.query_list.proofs.Listing.{listing-opened}
use Rattle.query_list.proofs.query_all.Goals as goal

pub returns : goal.returns
returns c =
    let a = c.args in
    c.ask_all.ensures
    ∙ ap (λ (o : Opened). opened_listing o a.products.now a.out.now) c.open.ensures
    ∙ listing-opened a.card.now a.products.now a.out.now
