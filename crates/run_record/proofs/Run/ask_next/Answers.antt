-- `Run::ask_next` meets its contract: the new record stands for what the rules give.
use native.Mathlib.Omega.{arith}
use mir.Syntax.{w8, w64}
use mir.ValLaws.{to_z-of_z}
use Rattle.run_record.proofs.Records.{Later, later_from, running-sound, sound_below}
use Rattle.run_record.proofs.Rounds.{went_on, narrow}
use Rattle.run_record.proofs.Run.ask_next.Goals as goal
use Rattle.run_record.proofs.Run.ask_next.Goals.{Start}

later : (c : Start) → Later c.args.self.now
later c = later_from c.args.self.now c.requires.0 c.requires.1

pub overflow_cast-self : goal.overflow_cast-self
overflow_cast-self c =
    let k = later (goal.at.overflow_cast-self c).Start in
    rw (to_z-of_z w64 c.args.a c.ranges.a) (narrow c.args.a (omega (arith, c.requires.3)))

pub bounds-self-k : goal.bounds-self-k
bounds-self-k c =
    let k = later (goal.at.bounds-self-k c).Start in
    omega arith

pub overflow_add-self : goal.overflow_add-self
overflow_add-self c =
    let k = later (goal.at.overflow_add-self c).Start in
    omega arith

pub overflow_add-self-2 : goal.overflow_add-self-2
overflow_add-self-2 c =
    let k = later (goal.at.overflow_add-self-2 c).Start in
    omega arith

pub overflow_add-k : goal.overflow_add-k
overflow_add-k c =
    let k = later (goal.at.overflow_add-k c).Start in
    omega arith

pub round_product-requires : goal.round_product-requires
round_product-requires c =
    let r = c.args.self.now in
    let k = later (goal.at.round_product-requires c).Start in (
      omega (arith, c.requires.1),
      omega arith,
      sound_below r (running-sound r c.requires.0) c.requires.1,
      c.requires.2,
    )

pub returns : goal.returns
returns c =
    let r = c.args.self.now in
    let k = later (goal.at.returns c).Start in
    let f = narrow c.args.a (omega (arith, c.requires.3)) in
    rw (to_z-of_z w64 c.args.a c.ranges.a, to_z-of_z w8 c.args.a f)
    (went_on r c.args.a (omega arith) c.requires.0 c.requires.1 c.requires.2 c.round_product.result.0 c.round_product.ensures)
