-- `card_draw::draw_polynomials` meets its contract: what is left to draw, stored from the present place on, gives the end (`Storing`).
use Rattle.std.proofs.Common.{◌≡◌, arith}
use Rattle.card_draw.proofs.Storing.{storing_first, storing_room, storing_next, storing_last}
use Rattle.card_draw.proofs.draw_polynomials.Goals as goal

pub loop-j-init : goal.loop-j-init
loop-j-init c = storing_first _ _ _ _

pub draw_polynomial-next-requires : goal.draw_polynomial-next-requires
draw_polynomial-next-requires c =
    let a = c.args in
    let j = c.loop-j.j in (
      omega arith,
      omega (
        arith,
        c.requires,
        c.loop-j.invariant.long,
        storing_room a.s a.d a.state a.out.now c.loop-j.out c.loop-j.next j
            (omega arith),
      ),
    )

pub loop-j-preserved : goal.loop-j-preserved
loop-j-preserved c =
    let p = c.draw_polynomial-next.ensures in
    storing_next _ _ _ _ _ _ _ (omega arith) c.loop-j.invariant _ _ p.0 p.1

pub returns : goal.returns
returns c = let e : c.loop-j.j ≡ c.args.s = omega arith in storing_last _ _ _ _ _ _ (rw e at c.loop-j.invariant)
