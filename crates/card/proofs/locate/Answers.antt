-- `card::locate` meets its contract.
use mathlib.Core.Path.{◌≡◌, refl, ap, ◌∙◌}
use mathlib.Core.List.{List}
use Prim.Native.Nat.{ℕ}
use native.Mathlib.Omega.{arith}
use Rattle.std.proofs.Common.{Ok}
use Rattle.refusals.proofs.Refusals.{passed_none, passed_on, gone_on, passed_up}
use Rattle.layout.specs.Format.{offset}
use Rattle.card.specs.Kinds.{body_size}
use Rattle.card.specs.declared.Stretch.{Stretch}
use Rattle.card.specs.Answers.{place, stretch}
use Rattle.card.proofs.Positions.{held}
use Rattle.card.proofs.locate.Goals as goal

pub returns-in_err-check_position : goal.returns-in_err-check_position
unfolding stretch
returns-in_err-check_position c = passed_up _ c.from_residual.ensures.1 ∙ passed_on _ c.in_err-check_position.ensures _

pub offset-start-requires : goal.offset-start-requires
offset-start-requires c = let h = held _ _ (passed_none _ c.in_ok-check_position.ensures) in omega arith

pub body_size-requires : goal.body_size-requires
body_size-requires c = omega (arith, (held _ _ (passed_none _ c.in_ok-check_position.ensures)).place.begins)

same_place : (c : List ℕ) (j at len : ℕ) → at ≡ offset c j → len ≡ body_size c at
    → ◌≡◌ {A = Stretch} (record { start = at; len = len }) (place c j)
same_place c j at len e f = rw (f, e) refl

pub returns : goal.returns
unfolding stretch
returns c = ap Ok (same_place c.args.card.now c.args.j _ _ c.offset-start.ensures c.body_size.ensures)
    ∙ gone_on _ c.in_ok-check_position.ensures (Ok (place c.args.card.now c.args.j))
