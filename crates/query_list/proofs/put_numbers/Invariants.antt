-- `query_list::put_numbers` meets its contract: the numbers of the products passed are written, the rest as it was.
use mathlib.Core.Path.{◌≡◌}
use lib.ListN.{take}
use Rattle.query.specs.Opened.{summed}
use Rattle.query_list.specs.Listing.{numbers_put}
use Rattle.query_list.proofs.put_numbers.Given as goal

abbrev pub invariant-loop-k : goal.invariant-loop-k
invariant-loop-k l = l.out ≡ numbers_put (summed l.card) (take l.k l.products) l.initial.out
