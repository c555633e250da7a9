-- `solver_moments::put` meets its contract.
use native.Mathlib.Omega.{arith}
use Rattle.signs.proofs.Positions.{below_at}
use Rattle.integers.proofs.Sums.{within_more}
use Rattle.solver_moments.proofs.Laws.{rank_lt, rank-few}
use Rattle.solver_moments.proofs.Loops.{putting_first, putting_next, putting_within}
use Rattle.solver_moments.proofs.put.Goals as goal

pub loop-j-init : goal.loop-j-init
loop-j-init c = let a = c.args in putting_first a.k a.mark.now a.f.now a.v.now

pub put_one-n-requires : goal.put_one-n-requires
put_one-n-requires c =
    let a = c.args in
    let I = c.loop-j.invariant in
    let m = below_at 8 a.mark.now c.requires.below.0 c.loop-j.j (omega arith) in (
      m,
      λ h. omega (arith, rank_lt a.k a.mark.now c.loop-j.j (omega arith) h, I.ranked, c.requires.below.2),
      omega (arith, I.long, c.requires.below.1),
      omega (arith, rank-few a.k a.mark.now c.loop-j.j, I.ranked, c.requires.below.3),
      putting_within a.k a.mark.now a.f.now a.v.now c.loop-j.v c.loop-j.n c.loop-j.j I c.requires.within.0
          c.requires.within.1,
      within_more 64 256 a.f.now (omega arith) c.requires.within.1,
    )

pub loop-j-preserved : goal.loop-j-preserved
loop-j-preserved c =
    let a = c.args in
    putting_next a.k a.mark.now a.f.now a.v.now c.loop-j.v _ c.loop-j.n c.put_one-n.result c.loop-j.j
    c.loop-j.invariant (omega arith) c.requires.below.1
    c.put_one-n.ensures.value c.put_one-n.ensures.v_after
