-- `query::count` meets its contract: the digits passed are in the two words, those left below.
use Prim.Native.Nat.{ℕ, suc, ◌+◌, ◌-◌, ◌*◌, ◌^◌, ◌≤◌, ◌<◌}
use mathlib.Core.Path.{◌≡◌}
use mathlib.Core.Bool.{cond}
use native.Mathlib.Omega.{arith}
use native.Mathlib.Nat.{pow-suc}
use lib.Bits.{bit_and, bit_or, bit_xor}
use lib.Dec.{eqb}
use lib.ListN.{get_or}
use Rattle.query.proofs.Counting.{Kept, kept_none, kept_off, counts_words}
use Rattle.query.proofs.count.Goals as goal
use Rattle.query.proofs.count.Goals.{After-power-w}

-- what is left is below three times the weight
three_times : (c : After-power-w) → c.loop-j.rest < 3 * c.power-w.result
three_times c =
    let e : c.loop-j.j ≡ suc (c.loop-j.j - 1) = omega arith in
    let h : c.loop-j.rest < 3 ^ suc (c.loop-j.j - 1) = rw (← e) c.loop-j.invariant.1 in
    omega (arith, c.power-w.ensures, pow-suc 3 (c.loop-j.j - 1))

-- one polynomial: its power d, and what stays
passed : (c : After-power-w) (d r : ℕ) → d < 3 → r < c.power-w.result
    → c.loop-j.rest ≡ r + d * c.power-w.result →
    let P = c.args.card in
    let p = get_or P.positive (c.loop-j.j - 1) 0 in
    let n = get_or P.negative (c.loop-j.j - 1) 0 in
    (c.loop-j.j - 1 ≤ P.s) × (r < 3 ^ (c.loop-j.j - 1)) × Kept P c.args.a r (c.loop-j.j - 1)
    (cond (eqb d 0) c.loop-j.left (bit_and c.loop-j.left (bit_or p n))) (cond (eqb d 1) (bit_xor c.loop-j.odd n) c.loop-j.odd)
passed c d r three below e =
    let h : r < 3 ^ (c.loop-j.j - 1) = rw (← c.power-w.ensures) below in
    let q : c.loop-j.rest ≡ r + d * 3 ^ (c.loop-j.j - 1) = rw (← c.power-w.ensures) e in (
      omega (arith, c.loop-j.invariant.0),
      h,
      kept_off c.args.card c.args.a (c.loop-j.j - 1) c.loop-j.j c.loop-j.rest r d c.loop-j.left c.loop-j.odd (omega arith) three h q
          c.loop-j.invariant.2,
    )

pub loop-j-init : goal.loop-j-init
loop-j-init c = (omega arith, c.requires.2, rw c.first_points-left.ensures (kept_none c.args.card c.args.a))

pub loop-j-preserved-then-w-rest-2 : goal.loop-j-preserved-then-w-rest-2
loop-j-preserved-then-w-rest-2 c =
    passed (goal.at.loop-j-preserved-then-w-rest-2 c).After-power-w 2 _ (omega arith)
    (omega (arith, three_times (goal.at.loop-j-preserved-then-w-rest-2 c).After-power-w)) (omega arith)

pub loop-j-preserved-else-w-rest-2 : goal.loop-j-preserved-else-w-rest-2
loop-j-preserved-else-w-rest-2 c = passed (goal.at.loop-j-preserved-else-w-rest-2 c).After-power-w 1 _ (omega arith) (omega arith)
    (omega arith)

pub loop-j-preserved : goal.loop-j-preserved
loop-j-preserved c = passed (goal.at.loop-j-preserved c).After-power-w 0 _ (omega arith) (omega arith) (omega arith)

pub returns : goal.returns
returns c =
    rw c.counts_by.ensures (counts_words c.args.card c.args.a c.loop-j.rest c.loop-j.j c.loop-j.left c.loop-j.odd c.loop-j.invariant.2
    (omega arith))
