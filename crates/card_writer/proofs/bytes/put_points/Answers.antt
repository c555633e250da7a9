-- `card_writer::bytes::put_points` meets its contract: the points left, put from the present byte on, give the run.
use native.Mathlib.Omega.{arith}
use lib.Dec.{lit<}
use Rattle.card_writer.proofs.Checked.{inside, points-inside}
use Rattle.card_writer.proofs.bytes.put_points.Goals as goal

pub in_complement-requires : goal.in_complement-requires
in_complement-requires c =
    let ps = c.args.points.now in
    let i = inside 100 ps c.loop-k.k (lit< tt) (points-inside ps c.requires.0) c.loop-k-test.true in
    rw i.same (omega arith, omega arith)
