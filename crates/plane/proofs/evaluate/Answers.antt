-- `plane::evaluate` meets its contract. The loop's invariant: value is the sum of the first i terms.
use mathlib.Core.Path.{sym}
use native.Mathlib.Omega.{arith}
use Rattle.integers.proofs.Sums.{sum_to_none}
use Rattle.plane.proofs.Turns.{Turn, fits-front, fits_term, fits_next, added, all_added}
use Rattle.plane.proofs.evaluate.Goals as goal
use Rattle.plane.proofs.evaluate.Goals.{After-coefficient}

-- what is known in a turn, once term i is read
turn : (c : After-coefficient)
    → let s = c.args in
    Turn s.card.now s.at s.x s.y c.powers-xs.result
    c.powers-ys.result c.loop-i.i c.x_power-a.result
    c.y_power-b.result c.coefficient.result c.loop-i.value-bits
turn c =
    record {
      sound = c.requires.0;
      near_x = c.requires.1;
      near_y = c.requires.2;
      fits_x = c.ranges.x;
      fits_y = c.ranges.y;
      powers_x = c.powers-xs.ensures;
      powers_y = c.powers-ys.ensures;
      in_body = omega arith;
      a_is = c.x_power-a.ensures.0;
      b_is = c.y_power-b.ensures.0;
      k_is = c.coefficient.ensures;
      v_is = c.loop-i.invariant;
    }

pub loop-i-init : goal.loop-i-init
loop-i-init c = sym (sum_to_none _)

pub overflow_mul-value : goal.overflow_mul-value
overflow_mul-value c = fits-front (turn (goal.at.overflow_mul-value c).After-coefficient)

pub overflow_mul-value-in-loop-i : goal.overflow_mul-value-in-loop-i
overflow_mul-value-in-loop-i c = fits_term (turn (goal.at.overflow_mul-value-in-loop-i c).After-coefficient)

pub overflow_add-value : goal.overflow_add-value
overflow_add-value c = fits_next (turn (goal.at.overflow_add-value c).After-coefficient)

pub loop-i-preserved : goal.loop-i-preserved
loop-i-preserved c = added (turn (goal.at.loop-i-preserved c).After-coefficient)

pub returns : goal.returns
returns c =
    all_added _ _ _ _ c.loop-i.i c.loop-i.value-bits c.ranges.x c.ranges.y (omega arith) c.loop-i.invariant
