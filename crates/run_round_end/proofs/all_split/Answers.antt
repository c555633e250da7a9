-- `run_round_end::all_split` meets its contract: the test is that of the rows left.
use mathlib.Core.Path.{◌≡◌, refl, sym, ◌∙◌}
use mathlib.Core.Bool.{◌&&◌}
use Prim.Native.Nat.{◌+◌}
use native.Mathlib.Omega.{arith}
use lib.IntN.{pos}
use mir.Syntax.{w16}
use mir.Facts.{to_z-of_z}
use lib.ListN.{get_or}
use Rattle.rounds.specs.Moments.{splits}
use Rattle.run_round_end.proofs.StepLaws.{count_at, fair_left, splits_next, splits-done}
use borrow.Author.Rules.{sfits_of}
use Rattle.run_round_end.proofs.all_split.Goals as goal
use Rattle.run_round_end.proofs.all_split.Goals.{After-splits, In-loop-j}

pub splits-requires : goal.splits-requires
splits-requires c =
    let j = c.loop-j.j in
    let e = get_or c.args.es.now j (pos 0) in
    let g = get_or c.args.gs.now j (pos 0) in (
      omega (arith, count_at c.args.counts.now j, c.requires.counts_bound.0),
      rw (to_z-of_z {w = w16} {z = e} (sfits_of c.splits-arg-1.given)) (c.requires.counts_bound.1.at j),
      rw (to_z-of_z {w = w16} {z = g} (sfits_of c.splits-arg-in-loop-j-1.given)) (c.requires.counts_bound.2.at j),
    )

-- what the test of row j says
splits_here : (c : After-splits)
    → let j = c.loop-j.j in
    c.splits.result ≡ splits (get_or c.args.counts.now j 0) (get_or c.args.es.now j (pos 0)) (get_or c.args.gs.now j (pos 0))
splits_here c =
    let j = c.loop-j.j in
    rw (
      to_z-of_z {w = w16} {z = get_or c.args.es.now j (pos 0)} (sfits_of c.splits-arg-1.given),
      to_z-of_z {w = w16} {z = get_or c.args.gs.now j (pos 0)} (sfits_of c.splits-arg-in-loop-j-1.given),
    )
    at c.splits.ensures

next_here : (c : In-loop-j)
    → let j = c.loop-j.j in
    fair_left c.args.patterns.now c.args.counts.now c.args.es.now c.args.gs.now j
    ≡ splits (get_or c.args.counts.now j 0) (get_or c.args.es.now j (pos 0)) (get_or c.args.gs.now j (pos 0))
    && fair_left c.args.patterns.now c.args.counts.now c.args.es.now c.args.gs.now (j + 1)
next_here c =
    splits_next c.args.patterns.now c.args.counts.now c.args.es.now c.args.gs.now c.loop-j.j (omega arith)
    c.requires.counts_len.0
    c.requires.counts_len.1 c.requires.counts_len.2

pub returns-then-not-splits : goal.returns-then-not-splits
returns-then-not-splits c =
    let t = sym (splits_here (goal.at.returns-then-not-splits c).After-splits) ∙ c.if-not-splits.true in
    sym (c.loop-j.invariant ∙ next_here (goal.at.returns-then-not-splits c).In-loop-j
    ∙ rw t refl)

pub loop-j-preserved : goal.loop-j-preserved
loop-j-preserved c =
    let t = sym (splits_here (goal.at.loop-j-preserved c).After-splits) ∙ c.if-not-splits.false in
    c.loop-j.invariant ∙ next_here (goal.at.loop-j-preserved c).In-loop-j ∙ rw t refl

pub returns : goal.returns
returns c =
    sym (c.loop-j.invariant ∙ splits-done c.args.patterns.now c.args.counts.now c.args.es.now c.args.gs.now c.loop-j.j (omega arith))
