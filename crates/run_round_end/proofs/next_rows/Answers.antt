-- `run_round_end::next_rows` meets its contract.
use mathlib.Core.Path.{◌≡◌, refl, sym, ◌∙◌}
use mathlib.Core.Bool.{true, false}
use mathlib.Core.List.{◌++◌}
use Prim.Native.Nat.{◌*◌, ◌≤◌}
use native.Mathlib.Omega.{arith}
use borrow.Author.Tests.{eq-eqb}
use lib.ListN.{length, length-append}
use lib.Seq.{length-take-le}
use Rattle.rounds.specs.Rows.{rows_with}
use Rattle.rounds.specs.RoundEnd.{proper_rows, round_rows}
use Rattle.run_round_end.proofs.StepLaws.{proper_from, length-rows_with}
use Rattle.run_round_end.proofs.next_rows.Goals as goal
use Rattle.run_round_end.proofs.next_rows.Goals.{Else-not-proper_rows}

proper_holds : (c : Else-not-proper_rows) → proper_rows c.args.i
    (rows_with c.args.patterns.now
    c.args.counts.now) ≡ true
proper_holds c = sym c.proper_rows.ensures ∙ c.if-not-proper_rows.false

few : (c : Else-not-proper_rows) → length c.args.patterns.now ≤ 64
few c =
    (proper_from c.args.i c.args.patterns.now c.args.counts.now c.requires.i_lt_most_polynomials.1 (proper_holds c)).few

pub returns-then-not-proper_rows : goal.returns-then-not-proper_rows
unfolding round_rows
returns-then-not-proper_rows c =
    let e : proper_rows c.args.i (rows_with c.args.patterns.now c.args.counts.now)
    ≡ false = sym c.proper_rows.ensures ∙ c.if-not-proper_rows.true in
    rw e refl

pub slice_bounds-es-end : goal.slice_bounds-es-end
slice_bounds-es-end c = few c

pub slice_bounds-by_moments-end : goal.slice_bounds-by_moments-end
slice_bounds-by_moments-end c = sym (length-take-le _ _ (few (goal.at.slice_bounds-by_moments-end c).Else-not-proper_rows))

pub slice_bounds-gs-end : goal.slice_bounds-gs-end
slice_bounds-gs-end c = few (goal.at.slice_bounds-gs-end c).Else-not-proper_rows

pub slice_bounds-by_moments-end-2 : goal.slice_bounds-by_moments-end-2
slice_bounds-by_moments-end-2 c = sym (length-take-le _ _ (few (goal.at.slice_bounds-by_moments-end-2 c).Else-not-proper_rows))

pub by_moments-requires : goal.by_moments-requires
by_moments-requires c =
    let h = few (goal.at.by_moments-requires c).Else-not-proper_rows in record {
      i_lt_most_polynomials = c.requires.i_lt_most_polynomials;
      within = (c.requires.within.0, c.requires.within.1, length-take-le _ _ h, length-take-le _ _ h);
      counts_value = (proper_holds (goal.at.by_moments-requires c).Else-not-proper_rows, c.requires.within.2, c.requires.within.3);
    }

pub returns : goal.returns
unfolding round_rows
returns c =
    let x = c.args.x.now in
    let y = c.args.y.now in
    let R = rows_with c.args.patterns.now c.args.counts.now in
    let e : length (x ++ y) ≡ 2 * length R =
    omega (
      arith,
      length-append x y,
      length-rows_with c.args.patterns.now c.args.counts.now c.requires.i_lt_most_polynomials.1,
      c.requires.i_lt_most_polynomials,
    ) in
    rw (proper_holds (goal.at.returns c).Else-not-proper_rows, eq-eqb _ _ e)
    c.by_moments.ensures
