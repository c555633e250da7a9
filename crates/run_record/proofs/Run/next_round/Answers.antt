-- `Run::next_round` meets its contract.
use native.Mathlib.Omega.{arith}
use Rattle.run_record.proofs.Records.{later_from, running_phase_lem}
use Rattle.run_record.proofs.Run.next_round.Goals as goal

pub finish-requires : goal.finish-requires
finish-requires c =
    let k = later_from c.args.self.now c.requires.going.0 c.requires.going.1 in
    (k.least_asked, c.requires.going.3)

pub begin-requires-clause-phase_value : goal.begin-requires-clause-phase_value
begin-requires-clause-phase_value c =
    let k = later_from c.args.self.now c.requires.going.0 c.requires.going.1 in
    let d = c.if-round-self.false in (
      running_phase_lem c.args.self.now c.requires.going.0,
      omega arith,
      k.most,
      k.few_points,
      omega arith,
    )
