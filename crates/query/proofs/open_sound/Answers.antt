-- `query::open_sound` meets its contract: j polynomials have their words.
use mathlib.Core.Path.{◌≡◌}
use Prim.Native.Nat.{◌<◌}
use native.Mathlib.Omega.{arith}
use Rattle.plane.specs.Contents.{contents_of}
use Rattle.card_points.proofs.Distinct.{placed-many}
use Rattle.query.proofs.Opening.{filled_none, filled_next, evaluated_is}
use Rattle.query.proofs.open_sound.Goals as goal
use Rattle.query.proofs.open_sound.Goals.{After-mark-signs}

pub loop-j-init : goal.loop-j-init
loop-j-init c = (omega arith, filled_none _ 1, filled_none _ 2)

-- the polynomial is one of eight
eight : (c : After-mark-signs) → c.loop-j.j < 8
eight c = omega (arith, c.requires.0.s_most)

pub loop-j-preserved : goal.loop-j-preserved
loop-j-preserved c =
    let m = c.mark-signs.ensures in (
      omega arith,
      filled_next _ 1 c.loop-j.j _ _ c.loop-j.invariant.1 (eight c) m.0,
      filled_next _ 2 c.loop-j.j _ _ c.loop-j.invariant.2
          (eight c) m.1,
    )

pub returns : goal.returns
returns c =
    let e : c.loop-j.j ≡ c.args.s = omega arith in
    evaluated_is (contents_of c.args.card.now) _ _ _ _ c.requires.1
    (placed-many c.args.card.now c.requires.0 _ _ c.distinct_points-places.ensures)
    (rw e at c.loop-j.invariant.1) (rw e at c.loop-j.invariant.2)
