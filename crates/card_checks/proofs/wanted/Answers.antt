-- `card_checks::wanted` meets its contract.
use Rattle.std.proofs.Common.{◌≡◌, ℕ, ◌+◌, ◌*◌, ◌≤◌, ◌<◌, false, ltb, List, length, get_or, drop, arith}
use Rattle.refusals.specs.Limits.{most_polynomials, most_degree}
use Rattle.card_bytes.specs.Bytes.{wanted}
use Rattle.card_bytes.specs.Causes.{some}
use Rattle.card_bytes.proofs.Lengths.{wanted-most}
use Rattle.card_checks.proofs.Polynomials.{wanted_here, wanted-ended}
use Rattle.card_checks.proofs.wanted.Goals as goal

-- the sum stays small
small : (ds : List ℕ) (j sum : ℕ) → length ds ≤ most_polynomials → some (ltb most_degree) ds ≡ false → j < length ds
    → sum + wanted (drop j ds) ≡ wanted ds → sum + (get_or ds j 0 + 1) ≤ 7 * most_polynomials
small ds j sum few low h e = omega (arith, wanted-most ds low, wanted_here ds j h)

pub overflow_add-sum : goal.overflow_add-sum
overflow_add-sum c = omega (
  arith,
  small c.args.degrees.now c.loop-d.d-index c.loop-d.sum c.requires.0 c.requires.1
      (omega arith) c.loop-d.invariant,
)

pub overflow_add-sum-in-loop-d : goal.overflow_add-sum-in-loop-d
overflow_add-sum-in-loop-d c =
    omega (arith, small c.args.degrees.now c.loop-d.d-index c.loop-d.sum c.requires.0 c.requires.1 (omega arith) c.loop-d.invariant)

pub loop-d-preserved : goal.loop-d-preserved
loop-d-preserved c =
    omega (arith, wanted_here c.args.degrees.now c.loop-d.d-index (omega arith))

pub returns : goal.returns
returns c =
    omega (arith, wanted-ended c.args.degrees.now c.loop-d.d-index (omega arith))
