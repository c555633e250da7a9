-- `card::read` meets its contract.
use mathlib.Core.Path.{◌≡◌, refl, ap, ◌∙◌}
use mathlib.Core.List.{List}
use Prim.Native.Nat.{ℕ}
use native.Mathlib.Omega.{arith}
use Rattle.std.proofs.Common.{Ok}
use Rattle.refusals.proofs.Refusals.{passed_none, passed_on, gone_on, passed_up}
use Rattle.layout.specs.Format.{polynomials, point_count}
use Rattle.card.specs.declared.Shape.{Shape}
use Rattle.card.specs.Answers.{shape, reading}
use Rattle.card.proofs.Sound.{sound_headed}
use Rattle.card.proofs.read.Goals as goal

pub returns-in_err-check_card : goal.returns-in_err-check_card
unfolding reading
returns-in_err-check_card c = passed_up _ c.from_residual.ensures.1 ∙ passed_on _ c.in_err-check_card.ensures _

pub bounds-card-1 : goal.bounds-card-1
bounds-card-1 c = let h = sound_headed _ (passed_none _ c.in_ok-check_card.ensures) in omega arith

pub bounds-card-2 : goal.bounds-card-2
bounds-card-2 c = let h = sound_headed _ (passed_none _ c.in_ok-check_card.ensures) in omega arith

same_shape : (c : List ℕ) (s n : ℕ) → s ≡ polynomials c → n ≡ point_count c
    → ◌≡◌ {A = Shape} (record { polynomials = s; points = n }) (shape c)
same_shape c s n e f = rw (e, f) refl

pub returns : goal.returns
unfolding reading
returns c = ap Ok (same_shape c.args.card.now _ _ c.from.ensures c.from-2.ensures)
    ∙ gone_on _ c.in_ok-check_card.ensures (Ok (shape c.args.card.now))
