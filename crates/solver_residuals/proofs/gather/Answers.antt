-- `solver_residuals::gather` meets its contract.
use native.Mathlib.Omega.{arith}
use Prim.Native.Nat.{◌-◌, ◌^◌}
use lib.IntN.{pos}
use lib.ListN.{length, get_or}
use Rattle.signs.proofs.Positions.{below_at}
use Rattle.integers.proofs.I16.{back, fits-small}
use Rattle.solver_residuals.specs.Residuals.{either0}
use Rattle.solver_residuals.proofs.Sums.{neither_0, neither_1}
use Rattle.solver_residuals.proofs.Gathering.{gathering_first, gathering_next, gathering_last}
use Rattle.solver_residuals.proofs.gather.Goals as goal

pub loop-j-init : goal.loop-j-init
loop-j-init c =
    let a = c.args in (
      gathering_first a.i a.l.now a.x.now a.ones.now a.twos.now a.u.now,
      gathering_first a.i a.l.now a.y.now a.ones.now a.twos.now a.v.now,
    )

pub gather_one-n-requires : goal.gather_one-n-requires
gather_one-n-requires c =
    let a = c.args in
    let I = c.loop-j.invariant.0 in (
      c.requires.i_le_most_polynomials.0,
      below_at (3 ^ a.i) a.l.now c.requires.i_le_most_polynomials.1 c.loop-j.j (omega arith),
      omega (arith, I.few, I.long-o, c.requires.l_in_bounds.0),
      omega (arith, I.few, I.long-t, c.requires.l_in_bounds.1),
      omega (arith, I.few, I.long-u, c.requires.l_in_bounds.2),
      omega (arith, I.few, c.loop-j.invariant.1.long-u, c.requires.l_in_bounds.3),
    )

pub loop-j-preserved : goal.loop-j-preserved
loop-j-preserved c =
    let a = c.args in
    let h = c.loop-j-test.true in
    let x = get_or a.x.now c.loop-j.j (pos 0) in
    let y = get_or a.y.now c.loop-j.j (pos 0) in
    let x' = back x (fits-small x (omega (arith, c.requires.i_le_most_polynomials.4.at c.loop-j.j))) in
    let y' = back y (fits-small y (omega (arith, c.requires.i_le_most_polynomials.5.at c.loop-j.j))) in
    let e = c.gather_one-n.ensures in
    let e0 = rw (x', y') at e.value in
    let e1 = rw (x', y') at e.ones_after in
    let e2 = rw (x', y') at e.twos_after in
    let e3 = rw (x', y') at e.u_after in
    let e4 = rw (x', y') at e.v_after in (
      gathering_next a.i a.l.now a.x.now c.loop-j.ones c.loop-j.twos _ _ c.loop-j.u _ (length a.ones.now)
          (length a.twos.now) (length a.u.now) c.loop-j.n c.gather_one-n.result c.loop-j.j (either0 x y)
          c.loop-j.invariant.0 h c.requires.i_le_most_polynomials.2 c.requires.i_le_most_polynomials.1 c.requires.i_le_most_polynomials.4
          c.requires.l_in_bounds.0 c.requires.l_in_bounds.1 c.requires.l_in_bounds.2
          (neither_0 x y) e0 e1 e2 e3,
      gathering_next a.i a.l.now a.y.now c.loop-j.ones c.loop-j.twos _ _ c.loop-j.v _ (length a.ones.now)
          (length a.twos.now) (length a.v.now) c.loop-j.n c.gather_one-n.result c.loop-j.j (either0 x y)
          c.loop-j.invariant.1 h c.requires.i_le_most_polynomials.3 c.requires.i_le_most_polynomials.1 c.requires.i_le_most_polynomials.5
          c.requires.l_in_bounds.0 c.requires.l_in_bounds.1 c.requires.l_in_bounds.3
          (neither_1 x y) e0 e1 e2 e4,
    )

pub returns : goal.returns
returns c =
    let a = c.args in record {
      gathered = gathering_last a.i a.l.now a.x.now c.loop-j.ones c.loop-j.twos c.loop-j.u (length a.ones.now)
          (length a.twos.now) (length a.u.now) c.loop-j.n c.loop-j.j c.loop-j.invariant.0 (omega arith);
      gathered_2 = gathering_last a.i a.l.now a.y.now c.loop-j.ones c.loop-j.twos c.loop-j.v (length a.ones.now)
          (length a.twos.now) (length a.v.now) c.loop-j.n c.loop-j.j c.loop-j.invariant.1 (omega arith);
    }
