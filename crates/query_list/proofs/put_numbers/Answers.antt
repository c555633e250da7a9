-- `query_list::put_numbers` meets its contract: the numbers of the products passed are written, the rest as it was.
use native.Mathlib.Omega.{arith}
use native.Mathlib.Numerals.{add-one}
use borrow.Author.Rules.{sfits_of}
use mir.Facts.{to_z-of_z}
use Rattle.signs.proofs.Positions.{below_at}
use Rattle.query.proofs.Own.{own-limits}
use Rattle.query.specs.Opened.{summed}
use Rattle.query_list.proofs.Listing.{put_next}
use Rattle.query_list.proofs.put_numbers.Goals as goal

pub number-requires : goal.number-requires
number-requires c =
    let l = own-limits c.args.card c.requires.0 in
    (l.0, l.1, below_at _ c.args.products.now c.requires.1 c.loop-k.k (omega arith))

pub loop-k-preserved : goal.loop-k-preserved
loop-k-preserved c =
    let a = c.args in
    rw (to_z-of_z (sfits_of c.number.type_inv), c.number.ensures, c.loop-k.invariant, add-one c.loop-k.k)
    (put_next (summed a.card) c.loop-k.k a.products.now a.out.now (omega arith) c.requires.2)
