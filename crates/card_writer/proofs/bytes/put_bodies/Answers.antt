-- `card_writer::bytes::put_bodies` meets its contract: the bodies left, put from the present byte on, give the run.
use mathlib.Core.Path.{◌≡◌, ◌∙◌, refl}
use Prim.Native.Nat.{◌+◌}
use native.Mathlib.Omega.{arith}
use lib.ListN.{length, get_or, take}
use lib.Seq.{sets, drop-length}
use Rattle.card_bytes.specs.Bytes.{body, bodies}
use Rattle.card_writer.proofs.Bodies.{Next, next, bodies_turn}
use Rattle.card_writer.proofs.bytes.put_bodies.Goals as goal
use Rattle.card_writer.proofs.bytes.put_bodies.Goals.{In-loop-d}

-- the polynomial whose body a turn puts
known : (c : In-loop-d)
    → Next c.args.degrees.now c.loop-d.left.now c.loop-d.place c.loop-d.d-index (length c.args.out.now)
    (get_or c.args.degrees.now c.loop-d.d-index 0)
known c =
    next c.args.degrees.now c.loop-d.left.now c.loop-d.place c.loop-d.d-index (length c.args.out.now)
    c.requires.degrees_len_bound.1
    (omega arith) c.loop-d.invariant.0

pub overflow_add-d : goal.overflow_add-d
overflow_add-d c = omega (arith, known (goal.at.overflow_add-d c).In-loop-d)

pub split_at-requires : goal.split_at-requires
split_at-requires c = omega (arith, known (goal.at.split_at-requires c).In-loop-d)

pub put_body-requires : goal.put_body-requires
put_body-requires c =
    let k = known (goal.at.put_body-requires c).In-loop-d in
    record {
      d_le_most_degree = rw c.split_at.ensures.front (k.low, k.long, k.small);
      d_in_bounds = omega arith;
    }

pub loop-d-preserved : goal.loop-d-preserved
loop-d-preserved c =
    let k = known (goal.at.loop-d-preserved c).In-loop-d in
    let ds = c.args.degrees.now in
    let cs = c.loop-d.left.now in
    let d = get_or ds c.loop-d.d-index 0 in
    let f : c.put_body.new.out ≡ sets c.loop-d.out c.loop-d.place (body d (take (d + 1) cs)) = c.put_body.ensures
    ∙ rw c.split_at.ensures.front refl in (
      rw c.split_at.ensures.back k.left,
      c.put_body.auto.out ∙ c.loop-d.invariant.1,
      rw (f, c.split_at.ensures.back)
          (bodies_turn ds c.loop-d.out cs c.loop-d.place c.loop-d.d-index (omega arith) k.long ∙ c.loop-d.invariant.2),
    )

pub returns : goal.returns
unfolding bodies
returns c =
    let ds = c.args.degrees.now in
    let e : c.loop-d.d-index ≡ length ds = omega arith in
    rw (e, drop-length ds) at c.loop-d.invariant.2
