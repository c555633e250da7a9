-- `Run::is_sound` meets its contract.
use mathlib.Core.Bool.{true}
use mathlib.Core.Path.{◌≡◌, sym, ◌∙◌}
use native.Mathlib.Omega.{arith}
use borrow.Author.Tests.{eq-eqb}
use Rattle.run_parts.specs.Parts.{in_limits}
use Rattle.run_record.proofs.Records.{Limits, limits_from, test_limits, test_first, test_later}
use Rattle.run_record.proofs.Run.is_sound.Goals as goal
use Rattle.run_record.proofs.Run.is_sound.Goals.{Else-not-in_limits}

-- the numbers passed their test
passed : (c : Else-not-in_limits) → let r = c.args.self.now in in_limits r.polynomials r.asked r.round r.n r.rows r.answered ≡ true
passed c = sym c.in_limits.ensures ∙ c.if-not-in_limits.false

limits : (c : Else-not-in_limits) → let r = c.args.self.now in Limits r.polynomials r.asked r.round r.n r.rows r.answered
limits c = limits_from _ _ _ _ _ _ (passed c)

pub returns-then-not-in_limits : goal.returns-then-not-in_limits
returns-then-not-in_limits c = test_limits c.args.self.now (sym c.in_limits.ensures ∙ c.if-not-in_limits.true)

pub returns-then-round-eq0 : goal.returns-then-round-eq0
returns-then-round-eq0 c =
    eq-eqb c.args.self.now.round 0 c.if-round-eq0.true
    ∙ test_first c.args.self.now (passed (goal.at.returns-then-round-eq0 c).Else-not-in_limits) c.if-round-eq0.true

pub power-requires : goal.power-requires
power-requires c =
    let l = limits (goal.at.power-requires c).Else-not-in_limits in
    omega arith

pub shared_ref_as_front-below : goal.shared_ref_as_front-below
shared_ref_as_front-below c =
    let l = limits (goal.at.shared_ref_as_front-below c).Else-not-in_limits in
    omega arith

pub returns-else-round-eq0 : goal.returns-else-round-eq0
returns-else-round-eq0 c =
    let w = c.power.ensures in
    c.below.ensures ∙ rw w (test_later c.args.self.now (passed (goal.at.returns-else-round-eq0 c).Else-not-in_limits) c.if-round-eq0.false)
