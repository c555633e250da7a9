-- `card_writer::bytes::put_card` meets its contract.
use mathlib.Core.Path.{◌∙◌}
use Prim.Native.Nat.{◌+◌, ◌*◌, ◌≤◌}
use native.Mathlib.Omega.{arith}
use lib.ListN.{length}
use Rattle.card_bytes.specs.Bytes.{bodies_from}
use Rattle.card_bytes.proofs.Lengths.{length-card}
use Rattle.card_writer.proofs.Checked.{Accepted, accepted}
use Rattle.card_writer.proofs.Card.{card_parts}
use Rattle.card_writer.proofs.bytes.put_card.Goals as goal
use Rattle.card_writer.proofs.bytes.put_card.Goals.{Start}

-- nothing refuses them, and the buffer has room
known : (c : Start)
    → Accepted c.args.degrees.now c.args.coefficients.now c.args.points.now
    × (bodies_from (length c.args.degrees.now) + (length c.args.degrees.now + 4 * length c.args.coefficients.now)
    + length c.args.points.now
    ≤ length c.args.out.now)
known c =
    let a = accepted c.args.degrees.now c.args.coefficients.now c.args.points.now c.requires.points_value in
    (a, omega (arith, length-card c.args.degrees.now c.args.coefficients.now c.args.points.now a.long, c.requires.points_in_bounds))

pub put_header-requires : goal.put_header-requires
put_header-requires c = let k = known (goal.at.put_header-requires c).Start in (k.0.count, k.0.points, omega arith)

pub put_offsets-requires : goal.put_offsets-requires
put_offsets-requires c =
    let k = known (goal.at.put_offsets-requires c).Start in
    record {
      degrees_len_bound = (k.0.count, k.0.low);
      degrees_in_bounds = omega (arith, c.put_header.auto.out);
    }

pub bodies_from-begin-requires : goal.bodies_from-begin-requires
bodies_from-begin-requires c =
    let k = known (goal.at.bodies_from-begin-requires c).Start in k.0.count

pub put_bodies-requires : goal.put_bodies-requires
put_bodies-requires c =
    let k = known (goal.at.put_bodies-requires c).Start in record {
      degrees_len_bound = (k.0.count, k.0.low);
      coefficients_len = (k.0.long, k.0.sound);
      degrees_in_bounds = omega (arith, k.0.long, c.bodies_from-begin.ensures, c.put_offsets.auto.out, c.put_header.auto.out);
    }

pub put_points-requires : goal.put_points-requires
put_points-requires c =
    let k = known (goal.at.put_points-requires c).Start in (
      k.0.right,
      omega (arith, c.bodies_from-begin.ensures, c.put_bodies.auto.out, c.put_offsets.auto.out, c.put_header.auto.out),
    )

pub returns : goal.returns
returns c =
    let k = known (goal.at.returns c).Start in
    c.put_points.ensures ∙ rw (c.put_bodies.ensures, c.put_offsets.ensures, c.put_header.ensures, c.bodies_from-begin.ensures)
    (card_parts c.args.degrees.now c.args.out.now c.args.coefficients.now c.args.points.now k.0.long)
