-- `run_round_end::judge` meets its contract: three lists of rows are written one after the other, at most 64 rows in all.
use mathlib.Core.Path.{◌≡◌, refl, sym, ap, ◌∙◌}
use mathlib.Core.Bool.{true, false}
use mathlib.Core.List.{◌++◌}
use native.Mathlib.Omega.{arith}
use lib.ListN.{length-append}
use lib.Seq.{length-sets}
use Rattle.rounds.specs.Rows.{rows_with}
use Rattle.rounds.specs.Moments.{all_split, judged}
use Rattle.run_round_end.specs.Steps.{sign_rows}
use Rattle.std.specs.Prelude.{Some}
use Rattle.run_round_end.proofs.StepLaws.{extended_is, proper_from, Ready, ready, put-all-patterns, put-all-counts}
use Rattle.run_round_end.proofs.judge.Goals as goal
use Rattle.run_round_end.proofs.judge.Goals.{After-power-w, Else-not-all_split}

splits_holds : (c : Else-not-all_split)
    → all_split (rows_with c.args.patterns.now c.args.counts.now) c.args.es.now c.args.gs.now
    ≡ true
splits_holds c = sym c.all_split.ensures ∙ c.if-not-all_split.false

ready_here : (c : After-power-w)
    → Ready c.power-w.result c.args.patterns.now c.args.counts.now c.args.es.now
    c.args.gs.now
ready_here c =
    ready c.args.i c.power-w.result c.args.patterns.now c.args.counts.now c.args.es.now c.args.gs.now
    c.requires.i_lt_most_polynomials.0
    c.power-w.ensures c.requires.i_lt_most_polynomials.1 c.requires.counts_value.0
    (splits_holds (goal.at.After-power-w c).Else-not-all_split)

pub all_split-requires : goal.all_split-requires
all_split-requires c =
    let p = proper_from c.args.i c.args.patterns.now c.args.counts.now c.requires.i_lt_most_polynomials.1 c.requires.counts_value.0 in
    record {
      counts_len = (c.requires.i_lt_most_polynomials.1, c.requires.i_lt_most_polynomials.2, c.requires.i_lt_most_polynomials.3);
      counts_bound = (p.total, c.requires.counts_value.1, c.requires.counts_value.2);
    }

pub returns-then-not-all_split : goal.returns-then-not-all_split
unfolding judged
returns-then-not-all_split c =
    let e : all_split (rows_with c.args.patterns.now c.args.counts.now) c.args.es.now c.args.gs.now ≡ false =
    sym c.all_split.ensures ∙ c.if-not-all_split.true
    in
    rw e refl

pub put_rows-zero-requires : goal.put_rows-zero-requires
put_rows-zero-requires c =
    let r = ready_here (goal.at.put_rows-zero-requires c).After-power-w in record {
      t_bound = (omega arith, r.base, r.below);
      counts_len = (c.requires.i_lt_most_polynomials.1, c.requires.i_lt_most_polynomials.2, c.requires.i_lt_most_polynomials.3);
      counts_bound = (r.total, r.splits);
      gs_in_bounds = omega (arith, r.room, c.requires.most_points_in_bounds);
      gs_in_bounds_2 = omega (arith, r.room, c.requires.most_points_in_bounds);
    }

pub put_rows-plus-requires : goal.put_rows-plus-requires
put_rows-plus-requires c =
    let r = ready_here (goal.at.put_rows-plus-requires c).After-power-w in
    record {
      t_bound = (omega arith, r.base, r.below);
      counts_len = (c.requires.i_lt_most_polynomials.1, c.requires.i_lt_most_polynomials.2, c.requires.i_lt_most_polynomials.3);
      counts_bound = (r.total, r.splits);
      gs_in_bounds = rw (c.put_rows-zero.ensures.after, length-sets)
          (omega (arith, c.put_rows-zero.ensures.value, r.room, c.requires.most_points_in_bounds));
      gs_in_bounds_2 = rw (c.put_rows-zero.ensures.numbers_after, length-sets)
          (omega (arith, c.put_rows-zero.ensures.value, r.room, c.requires.most_points_in_bounds));
    }

pub put_rows-minus-requires : goal.put_rows-minus-requires
put_rows-minus-requires c =
    let r = ready_here (goal.at.put_rows-minus-requires c).After-power-w in
    record {
      t_bound = (omega arith, r.base, r.below);
      counts_len = (c.requires.i_lt_most_polynomials.1, c.requires.i_lt_most_polynomials.2, c.requires.i_lt_most_polynomials.3);
      counts_bound = (r.total, r.splits);
      gs_in_bounds = rw (c.put_rows-plus.ensures.after, length-sets, c.put_rows-zero.ensures.after, length-sets)
          (omega (arith, c.put_rows-zero.ensures.value, c.put_rows-plus.ensures.value, r.room, c.requires.most_points_in_bounds));
      gs_in_bounds_2 = rw (c.put_rows-plus.ensures.numbers_after, length-sets, c.put_rows-zero.ensures.numbers_after, length-sets)
          (omega (arith, c.put_rows-zero.ensures.value, c.put_rows-plus.ensures.value, r.room, c.requires.most_points_in_bounds));
    }

pub returns : goal.returns
unfolding judged
returns c =
    let r = ready_here (goal.at.returns c).After-power-w in
    let R = rows_with c.args.patterns.now c.args.counts.now in
    let es = c.args.es.now in
    let gs = c.args.gs.now in
    let b = c.power-w.result in
    let A = sign_rows b 0 R es gs in
    let D = sign_rows b 1 R es gs in
    let E = sign_rows b 2 R es gs in
    let l = length-append A (D ++ E) in
    let m = length-append D E in
    rw (r.splits, extended_is c.args.i b R es gs c.power-w.ensures) (
      ap Some (omega (arith, c.put_rows-zero.ensures.value, c.put_rows-plus.ensures.value, c.put_rows-minus.ensures.value, l, m)),
      put-all-patterns A D E c.args.new.now _ _ _ _ _ c.put_rows-zero.ensures.value c.put_rows-plus.ensures.value
          c.put_rows-zero.ensures.after c.put_rows-plus.ensures.after c.put_rows-minus.ensures.after
          (omega (arith, l, m, r.room, c.requires.most_points_in_bounds)),
      put-all-counts A D E c.args.numbers.now _ _ _ _ _ c.put_rows-zero.ensures.value c.put_rows-plus.ensures.value
          c.put_rows-zero.ensures.numbers_after c.put_rows-plus.ensures.numbers_after c.put_rows-minus.ensures.numbers_after
          (omega (arith, l, m, r.room, c.requires.most_points_in_bounds)),
    )
