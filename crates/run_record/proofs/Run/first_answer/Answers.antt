-- `Run::first_answer` meets its contract.
use mathlib.Core.Path.{◌≡◌, sym, ◌∙◌}
use native.Mathlib.Omega.{arith}
use borrow.Author.Tests.{ne_eqb}
use lib.IntN.{pos, nat_abs}
use lib.Signed.{◌≤ℤ◌}
use mir.Syntax.{w64}
use mir.ValLaws.{to_z-of_z}
use Rattle.integers.proofs.Parts.{int}
use Rattle.rounds.specs.RoundEnd.{round_rows}
use Rattle.rounds.specs.Rows.{row_if, rows_with}
use Rattle.run_record.specs.Record.{running_state}
use Rattle.runs.proofs.Held.{rising-one, below_one}
use Rattle.run_record.proofs.Records.{sound-limits, sound-asked, running_phase_lem, running-sound, done_open, ask_open}
use Rattle.run_record.proofs.Rounds.{first-front, first-row}
use Rattle.runs.specs.Run.{close as close_of, first_answer as first_of}
use Rattle.runs.proofs.Steps.{first_below, first_above, first_some}
use Rattle.run_record.proofs.Run.first_answer.Goals as goal
use Rattle.run_record.proofs.Run.first_answer.Goals.{then-a-lt0-via-then-a-lt0, then-a-lt0-via-else-a-lt0+then-n-gt-MOST_POINTS}

pub close-requires : goal.close-requires
close-requires c = sound-asked c.args.self.now (running-sound c.args.self.now c.requires.0)

-- below 0 or above 64: closed by 8
pub returns-then-a-lt0 : goal.returns-then-a-lt0
returns-then-a-lt0 c =
    let r = running_state c.args.self.now in
    let e = to_z-of_z w64 c.args.a c.ranges.a in
    let m = rw e at c.unsigned_abs-n.ensures.value in
    let f : first_of round_rows r c.args.a ≡ close_of round_rows r 8 =
    elim c.then-a-lt0.branch [
      | then-a-lt0-via-then-a-lt0 w ↦ first_below round_rows r c.args.a (omega (int, w.if-a-lt0.true))
      | then-a-lt0-via-else-a-lt0+then-n-gt-MOST_POINTS w ↦
          first_above round_rows r c.args.a (omega (int, w.if-a-lt0.false)) (omega (arith, w.if-n-gt-MOST_POINTS.true, m))
    ] in
    let k = c.close.ensures in
    (k.0 ∙ sym f, λ j _. k.1)

pub finish-requires : goal.finish-requires
finish-requires c = (sound-asked c.args.self.now (running-sound c.args.self.now c.requires.0), omega arith)

pub returns-then-n-eq0 : goal.returns-then-n-eq0
unfolding row_if rows_with
returns-then-n-eq0 c =
    let e = to_z-of_z w64 c.args.a c.ranges.a in
    let g : pos 0 ≤ℤ c.args.a = omega (int, c.if-a-lt0.false) in
    let m = rw e at c.unsigned_abs-n.ensures.value in
    let z : nat_abs c.args.a ≡ 0 = omega (arith, c.if-n-eq0.true) in
    let f = first_some round_rows (running_state c.args.self.now) c.args.a g (omega arith) in
    let k = c.finish.ensures in
    (rw (f, z) k, done_open _ _ _ k)

pub begin-requires-clause-phase_value : goal.begin-requires-clause-phase_value
begin-requires-clause-phase_value c =
    let r = c.args.self.now in
    let l = sound-limits r (running-sound r c.requires.0) in
    let z = l.at_first c.requires.1 in (
      running_phase_lem r c.requires.0,
      omega arith,
      l.most,
      omega (arith, c.if-n-gt-MOST_POINTS.false),
      omega (arith, c.requires.1),
    )

pub begin-requires-clause-rising : goal.begin-requires-clause-rising
begin-requires-clause-rising c =
    let f = first-front c.args.self.now.patterns 0 (omega arith) in
    (omega arith, omega arith, rw f rising-one, rw f below_one)

pub returns : goal.returns
returns c =
    let r = c.args.self.now in
    let e = to_z-of_z w64 c.args.a c.ranges.a in
    let g : pos 0 ≤ℤ c.args.a = omega (int, c.if-a-lt0.false) in
    let m = rw e at c.unsigned_abs-n.ensures.value in
    let f = first_some round_rows (running_state r) c.args.a g (omega (arith, c.if-n-gt-MOST_POINTS.false)) in
    let z = ne_eqb (nat_abs c.args.a) 0 (λ y. c.if-n-eq0.false (m ∙ y)) in
    let w = first-row r.patterns r.counts c.unsigned_abs-n.result (omega arith) (omega arith) c.if-n-eq0.false in
    let k = c.begin.ensures in
    (rw (f, z, ← m) (rw w at k), ask_open _ _ _ _ k)
