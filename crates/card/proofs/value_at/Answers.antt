-- `card::value_at` meets its contract.
use mathlib.Core.Path.{◌≡◌, sym, ap, ◌∙◌}
use mathlib.Core.List.{List}
use Prim.Native.Nat.{ℕ}
use borrow.Author.Rules.{sfits_of}
use lib.IntN.{ℤ}
use mir.Syntax.{w64}
use mir.Val.{SFits, to_z, of_z}
use mir.Facts.{to_z-of_z}
use Rattle.std.proofs.Common.{Ok, Err, Result}
use Rattle.refusals.specs.Refusals.{checked}
use Rattle.refusals.specs.declared.Refusal.{Refusal}
use Rattle.refusals.proofs.Refusals.{passed_none, passed_on, gone_on, passed_up}
use Rattle.layout.specs.Format.{offset}
use Rattle.plane.specs.Contents.{value_at}
use Rattle.card.specs.Card.{place_refusal}
use Rattle.card.specs.Claim.{Near}
use Rattle.card.specs.Answers.{value_at_answer}
use Rattle.card.proofs.Positions.{Held, placed}
use Rattle.card.proofs.value_at.Goals as goal

-- ---- x and y are passed on as they came, to the check that gave r
module _ (c : List ℕ) (j : ℕ) (x y : ℤ) (f : SFits w64 x) (g : SFits w64 y) (r : Result (Unit {0}) Refusal)
    (e : r ≡ checked (place_refusal c j (to_z w64 (of_z w64 x), to_z w64 (of_z w64 y)))) where
  check : r ≡ checked (place_refusal c j (x, y))
  check = rw (to_z-of_z f, to_z-of_z g) at e

  refused : {m : Refusal} → Err m ≡ r → Err m ≡ value_at_answer c j (x, y)
  unfolding value_at_answer
  refused h = passed_on _ (h ∙ check) _

  module _ {u : Unit {0}} (h : Ok u ≡ r) where
    held : Held c j × Near (x, y)
    held = placed c j (x, y) (passed_none _ (h ∙ check))

    held_near : Near (to_z w64 (of_z w64 x), to_z w64 (of_z w64 y))
    held_near = rw (to_z-of_z f, to_z-of_z g) held.1

    shown : (v : ℤ) → v ≡ value_at c (offset c j) (to_z w64 (of_z w64 x), to_z w64 (of_z w64 y)) → Ok v ≡ value_at_answer c j (x, y)
    unfolding value_at_answer
    shown v d = ap Ok (rw (to_z-of_z f, to_z-of_z g) at d) ∙ gone_on _ (h ∙ check) _

pub returns-in_err-check_place : goal.returns-in_err-check_place
returns-in_err-check_place c =
    passed_up _ c.from_residual.ensures.1
    ∙ refused _ _ _ _ c.ranges.x c.ranges.y _ c.check_place.ensures (sym c.in_err-check_place.was)

pub evaluate-requires : goal.evaluate-requires
evaluate-requires c =
    let w = sym c.in_ok-check_place.was in
    let h = held _ _ _ _ c.ranges.x c.ranges.y _ c.check_place.ensures w in
    (h.0.card, h.0.below, held_near _ _ _ _ c.ranges.x c.ranges.y _ c.check_place.ensures w)

pub returns : goal.returns
returns c =
    shown _ _ _ _ c.ranges.x c.ranges.y _ c.check_place.ensures (sym c.in_ok-check_place.was) _
    (to_z-of_z {w = w64} (sfits_of c.evaluate.type_inv) ∙ c.evaluate.ensures)
