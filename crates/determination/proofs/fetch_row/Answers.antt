-- `determination::fetch_row` meets its contract.
use mathlib.Core.Path.{◌≡◌, sym, ◌∙◌}
use mathlib.Core.Bool.{true}
use Prim.Native.Nat.{◌<◌}
use native.Mathlib.Omega.{arith}
use Rattle.run_record.specs.Record.{is_done}
use Rattle.determination.proofs.Lengths.{lengths}
use Rattle.run_record.proofs.Records.{done-phase}
use Rattle.determination.proofs.Serves.{fetch-late, fetch-past, fetch-at}
use Rattle.determination.proofs.fetch_row.Goals as goal
use Rattle.determination.proofs.fetch_row.Goals.{Else-not-done, Else-rows-p}

-- the run is done
done_is : (c : Else-not-done) → is_done c.args.run ≡ true
done_is c = sym c.done.ensures ∙ c.if-not-done.false

few : (c : Else-rows-p) → c.args.p < 64
few c = omega (arith, (done-phase c.args.run (done_is (goal.at.Else-rows-p c).Else-not-done)).1, c.if-rows-p.false)

pub returns-then-not-done : goal.returns-then-not-done
returns-then-not-done c =
    let a = c.args in
    fetch-late a.run a.p (sym c.done.ensures ∙ c.if-not-done.true)

pub returns-then-rows-p : goal.returns-then-rows-p
returns-then-rows-p c =
    let n = lengths c.args.run c.well_formed.0 in
    fetch-past c.args.run (done_is (goal.at.returns-then-rows-p c).Else-not-done) n.patterns n.counts c.args.p c.if-rows-p.true

pub offset_bounds-run-p : goal.offset_bounds-run-p
offset_bounds-run-p c = omega (arith, few c)

pub bounds-run-p : goal.bounds-run-p
bounds-run-p c = omega (arith, few c)

pub offset_bounds-run-p-2 : goal.offset_bounds-run-p-2
offset_bounds-run-p-2 c = omega (arith, few (goal.at.offset_bounds-run-p-2 c).Else-rows-p)

pub bounds-run-p-2 : goal.bounds-run-p-2
bounds-run-p-2 c = omega (arith, few (goal.at.bounds-run-p-2 c).Else-rows-p)

pub returns : goal.returns
returns c =
    let n = lengths c.args.run c.well_formed.0 in
    fetch-at c.args.run (done_is (goal.at.returns c).Else-not-done) n.patterns n.counts c.args.p c.if-rows-p.false
