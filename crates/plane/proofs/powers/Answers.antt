-- `plane::powers` meets its contract. The loop's invariant: p has seven numbers, and below i they are the powers of x.
use mathlib.Core.Path.{refl}
use native.Mathlib.Omega.{arith}
use lib.ListN.{length-set}
use Rattle.plane.proofs.PowerLists.{from_one, product_fits, stored, filled}
use Rattle.plane.proofs.powers.Goals as goal

pub loop-i-init : goal.loop-i-init
loop-i-init c = (refl, from_one _)

pub overflow_mul-p : goal.overflow_mul-p
overflow_mul-p c =
    product_fits _ c.requires c.ranges.x c.loop-i.p c.loop-i.i (omega arith) (omega arith) c.loop-i.invariant.1

pub loop-i-preserved : goal.loop-i-preserved
loop-i-preserved c = (
  simp length-set c.loop-i.invariant.0,
  stored _ c.requires c.ranges.x c.loop-i.p c.loop-i.i (omega arith) (omega arith) c.loop-i.invariant.1 c.loop-i.invariant.0,
)

pub returns : goal.returns
returns c =
    filled _ c.ranges.x c.loop-i.p c.loop-i.i (omega arith) c.loop-i.invariant.0 c.loop-i.invariant.1
