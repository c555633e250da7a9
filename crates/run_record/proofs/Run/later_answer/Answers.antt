-- `Run::later_answer` meets its contract.
use mathlib.Core.Path.{◌≡◌, sym, ◌∙◌}
use Prim.Native.Nat.{◌-◌, ◌+◌}
use native.Mathlib.Omega.{arith}
use lib.ListN.{length}
use lib.Seq.{length-take-le}
use mir.Syntax.{w64}
use mir.ValLaws.{to_z-of_z}
use Rattle.rounds.specs.RoundEnd.{round_rows}
use Rattle.run_record.specs.Record.{running_state, with_answer}
use Rattle.run_record.proofs.Records.{Later, later_from, ask_open}
use Rattle.run_record.proofs.Rounds.{stored_length}
use Rattle.runs.proofs.Steps.{later_on}
use Rattle.run_record.proofs.Run.later_answer.Goals as goal
use Rattle.run_record.proofs.Run.later_answer.Goals.{Start}

later : (c : Start) → Later c.args.self.now
later c = later_from _ c.requires.0 c.requires.1

-- the lengths of the round's products and of its answers with one more
products_length : (c : Start) → length (running_state c.args.self.now).products ≡ c.args.self.now.rows
products_length c = let k = later c in length-take-le c.args.self.now.rows c.args.self.now.products (omega arith)

answers_length : (c : Start) → length (with_answer c.args.self.now c.args.a) ≡ c.args.self.now.answered + 1
answers_length c =
    let k = later c in
    stored_length c.args.self.now.answers c.args.self.now.answered c.args.a (omega arith)

pub close-requires : goal.close-requires
close-requires c = (later (goal.at.close-requires c).Start).least_asked

pub overflow_add-k : goal.overflow_add-k
overflow_add-k c =
    let k = later (goal.at.overflow_add-k c).Start in
    omega arith

pub overflow_mul-rows : goal.overflow_mul-rows
overflow_mul-rows c =
    let k = later (goal.at.overflow_mul-rows c).Start in
    omega arith

pub returns-then-k-rows : goal.returns-then-k-rows
returns-then-k-rows c =
    let m = rw (to_z-of_z w64 c.args.a c.ranges.a) at c.unsigned_abs.ensures.value in
    let f = later_on round_rows (running_state c.args.self.now) (c.args.self.now.round - 1) c.args.a
    (omega (arith, c.if-n-unsigned_abs.false))
    (omega (
      arith,
      products_length (goal.at.returns-then-k-rows c).Start,
      answers_length (goal.at.returns-then-k-rows c).Start,
      c.if-k-rows.true,
    )) in
    let k = rw (to_z-of_z w64 c.args.a c.ranges.a) at c.ask_next.ensures in
    (k ∙ sym f, ask_open _ _ _ _ k)

pub end_round-requires : goal.end_round-requires
end_round-requires c =
    let k = later (goal.at.end_round-requires c).Start in
    let m = rw (to_z-of_z w64 c.args.a c.ranges.a) at c.unsigned_abs.ensures.value in (
      c.requires.0,
      c.requires.1,
      omega (arith, c.if-k-rows.false),
      rw (to_z-of_z w64 c.args.a c.ranges.a) (omega (arith, c.if-n-unsigned_abs.false)),
    )
