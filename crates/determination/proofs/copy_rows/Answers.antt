-- `determination::copy_rows` meets its contract.
use mathlib.Core.Path.{◌≡◌, sym, ◌∙◌}
use mathlib.Core.Bool.{true}
use native.Mathlib.Omega.{arith}
use Rattle.run_record.specs.Record.{is_done}
use Rattle.determination.proofs.Lengths.{lengths}
use Rattle.run_record.proofs.Records.{done-phase}
use Rattle.determination.proofs.Serves.{copy-late, copy-short-patterns, copy-short-counts, copy-all}
use Rattle.determination.proofs.copy_rows.Goals as goal
use Rattle.determination.proofs.copy_rows.Goals.{Else-not-done}

-- the run is done
done_is : (c : Else-not-done) → is_done c.args.run ≡ true
done_is c = sym c.done.ensures ∙ c.if-not-done.false

pub returns-then-not-done : goal.returns-then-not-done
returns-then-not-done c =
    copy-late c.args.run c.args.patterns.now c.args.counts.now
    (sym c.done.ensures ∙ c.if-not-done.true)

pub returns-then-patterns-rows : goal.returns-then-patterns-rows
returns-then-patterns-rows c =
    let n = lengths c.args.run c.well_formed.0 in
    copy-short-patterns c.args.run (done_is (goal.at.returns-then-patterns-rows c).Else-not-done) n.patterns n.counts c.args.patterns.now
    c.args.counts.now
    c.if-patterns-rows.true

pub returns-then-counts-rows : goal.returns-then-counts-rows
returns-then-counts-rows c =
    let n = lengths c.args.run c.well_formed.0 in
    copy-short-counts c.args.run (done_is (goal.at.returns-then-counts-rows c).Else-not-done) n.patterns n.counts c.args.patterns.now
    c.args.counts.now c.if-patterns-rows.false c.if-counts-rows.true

pub copy_front-requires : goal.copy_front-requires
copy_front-requires c =
    let n = lengths c.args.run c.well_formed.0 in
    let f = (done-phase c.args.run (done_is (goal.at.copy_front-requires c).Else-not-done)).1 in
    (omega arith, omega (arith, c.if-patterns-rows.false))

pub returns : goal.returns
returns c =
    let n = lengths c.args.run c.well_formed.0 in
    let d = done_is (goal.at.returns c).Else-not-done in
    let e₁ = c.copy_front.ensures in
    let e₂ = c.copy_front-2.ensures in
    rw (e₁, e₂) (copy-all c.args.run d n.patterns n.counts c.args.patterns.now c.args.counts.now
    c.if-patterns-rows.false c.if-counts-rows.false)
