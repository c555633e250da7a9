-- `run_round_end::put_rows` meets its contract: what is still to be written completes it.
use mathlib.Core.Path.{◌≡◌, refl, sym, ◌∙◌}
use mathlib.Core.List.{◌++◌}
use native.Mathlib.Nat.{add-zero}
use Prim.Native.Nat.{◌+◌, ◌*◌}
use native.Mathlib.Omega.{arith}
use lib.IntN.{pos}
use mir.Syntax.{w16}
use mir.Val.{to_z, of_z}
use mir.Facts.{to_z-of_z}
use lib.ListN.{length, get_or}
use lib.Seq.{length-sets}
use Rattle.signs.proofs.Positions.{below_at}
use Rattle.rounds.specs.Rows.{patterns as patterns_of, counts as counts_of, row_if}
use Rattle.run_round_end.proofs.StepLaws.{count_at, rows_left, splits-now, splits_later, rows_next, rows_done, digit_base}
use Rattle.run_round_end.proofs.StepLaws.{put-length, put-patterns, put-counts}
use borrow.Author.Rules.{sfits_of}
use Rattle.run_round_end.proofs.put_rows.Goals as goal
use Rattle.run_round_end.proofs.put_rows.Goals.{After-count_with-arg-1, After-count_with-arg-in-loop-j-1, After-count_with-count}

-- the numbers that are read, as the code passes them on
e_is : (c : After-count_with-arg-1)
    → let x = get_or c.args.es.now c.loop-j.j (pos 0) in to_z w16 (of_z w16 x) ≡ x
e_is c = to_z-of_z {w = w16} (sfits_of c.count_with-arg-1.given)

g_is : (c : After-count_with-arg-in-loop-j-1)
    → let x = get_or c.args.gs.now c.loop-j.j (pos 0) in to_z w16 (of_z w16 x) ≡ x
g_is c = to_z-of_z {w = w16} (sfits_of c.count_with-arg-in-loop-j-1.given)

pub count_with-count-requires : goal.count_with-count-requires
count_with-count-requires c =
    let j = c.loop-j.j in
    let f = splits-now c.args.patterns.now c.args.counts.now c.args.es.now c.args.gs.now j (omega arith)
    c.requires.counts_len.0 c.requires.counts_len.1
    c.requires.counts_len.2 c.loop-j.invariant.0 in (
      c.requires.t_bound.0,
      omega (arith, count_at c.args.counts.now j, c.requires.counts_bound.0),
      rw (e_is (goal.at.count_with-count-requires c).After-count_with-arg-1, g_is c) f,
    )

-- the rows from j on are what row j gives, and those from j + 1 on
splits : (c : After-count_with-count)
    → let j = c.loop-j.j in
    let b = c.args.t * c.args.w in
    rows_left b c.args.t c.args.patterns.now c.args.counts.now c.args.es.now c.args.gs.now j
    ≡ row_if (get_or c.args.patterns.now j 0 + b) c.count_with-count.result
    ++ rows_left b c.args.t c.args.patterns.now c.args.counts.now c.args.es.now c.args.gs.now (j + 1)
splits c =
    let j = c.loop-j.j in
    rows_next c.args.patterns.now c.args.counts.now c.args.es.now c.args.gs.now j (omega arith) c.requires.counts_len.0
    c.requires.counts_len.1
    c.requires.counts_len.2 (c.args.t * c.args.w) c.args.t c.count_with-count.result
    (rw (
      e_is (goal.at.After-count_with-count c).After-count_with-arg-1,
      g_is (goal.at.After-count_with-count c).After-count_with-arg-in-loop-j-1,
    ) at c.count_with-count.ensures)

pub overflow_add-patterns : goal.overflow_add-patterns
overflow_add-patterns c =
    omega (
      arith,
      digit_base c.args.t c.args.w c.requires.t_bound.0,
      below_at c.args.w c.args.patterns.now c.requires.t_bound.2 c.loop-j.j
          (omega arith),
    )

pub put_row-next-requires : goal.put_row-next-requires
put_row-next-requires c =
    let b = c.args.t * c.args.w in
    let A = row_if (get_or c.args.patterns.now c.loop-j.j 0 + b) c.count_with-count.result in
    let L = rows_left b c.args.t c.args.patterns.now c.args.counts.now c.args.es.now c.args.gs.now (c.loop-j.j + 1) in
    let T = rows_left b c.args.t c.args.patterns.now c.args.counts.now c.args.es.now c.args.gs.now c.loop-j.j in
    let e = splits (goal.at.put_row-next-requires c).After-count_with-count in
    let h = put-length A L T c.loop-j.next (c.loop-j.next + length A) e refl in (
      omega (arith, h, c.loop-j.invariant, c.requires.gs_in_bounds, c.requires.gs_in_bounds_2),
      omega (arith, h, c.loop-j.invariant, c.requires.gs_in_bounds, c.requires.gs_in_bounds_2),
    )

pub loop-j-preserved : goal.loop-j-preserved
loop-j-preserved c =
    let b = c.args.t * c.args.w in
    let A = row_if (get_or c.args.patterns.now c.loop-j.j 0 + b)
    c.count_with-count.result in
    let L = rows_left b c.args.t c.args.patterns.now c.args.counts.now c.args.es.now c.args.gs.now (c.loop-j.j + 1) in
    let T = rows_left b c.args.t c.args.patterns.now c.args.counts.now c.args.es.now c.args.gs.now c.loop-j.j in
    let e = splits (goal.at.loop-j-preserved c).After-count_with-count in
    let j = c.loop-j.j in (
      splits_later c.args.patterns.now c.args.counts.now c.args.es.now c.args.gs.now j (omega arith) c.requires.counts_len.0
          c.requires.counts_len.1
          c.requires.counts_len.2 c.loop-j.invariant.0,
      rw (c.put_row-next.ensures.after, length-sets) c.loop-j.invariant.1,
      rw (c.put_row-next.ensures.numbers_after, length-sets) c.loop-j.invariant.2,
      put-length A L T c.loop-j.next _ e c.put_row-next.ensures.value ∙ c.loop-j.invariant.3,
      put-patterns A L T c.loop-j.new _ c.loop-j.next _ e c.put_row-next.ensures.value c.put_row-next.ensures.after ∙ c.loop-j.invariant.4,
      put-counts A L T c.loop-j.numbers _ c.loop-j.next _ e c.put_row-next.ensures.value c.put_row-next.ensures.numbers_after
          ∙ c.loop-j.invariant.5,
    )

pub returns : goal.returns
unfolding patterns_of counts_of
returns c =
    let e =
    rows_done (c.args.t * c.args.w) c.args.t c.args.patterns.now c.args.counts.now c.args.es.now c.args.gs.now
    c.loop-j.j
    (omega arith)
    in
    record {
      value = sym (add-zero c.loop-j.next) ∙ (rw e at c.loop-j.invariant.3);
      after = rw e at c.loop-j.invariant.4;
      numbers_after = rw e at c.loop-j.invariant.5;
    }
