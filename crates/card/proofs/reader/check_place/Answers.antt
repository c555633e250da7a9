-- `card::reader::check_place` meets its contract.
use mathlib.Core.Path.{◌≡◌, ap, ◌∙◌}
use Prim.Native.Nat.{ℕ}
use native.Mathlib.Omega.{arith}
use lib.IntN.{ℤ, nat_abs}
use mir.Syntax.{w64}
use mir.Val.{SFits, to_z, of_z}
use mir.Facts.{to_z-of_z}
use Rattle.std.proofs.Common.{Ok}
use Rattle.refusals.specs.Refusals.{checked}
use Rattle.refusals.proofs.Refusals.{passed_none, passed_on_first, passed_up}
use Rattle.card.specs.Card.{place_refusal}
use Rattle.card.proofs.Positions.{place_far_x, place_far_y, place_held}
use Rattle.card.proofs.reader.check_place.Goals as goal
use Rattle.card.proofs.reader.check_place.Goals.{then-unsigned_abs-gt-FARTHEST-via-then-unsigned_abs-gt-FARTHEST as by-x}
use Rattle.card.proofs.reader.check_place.Goals.{
  then-unsigned_abs-gt-FARTHEST-via-else-unsigned_abs-gt-FARTHEST+then-unsigned_abs-gt-FARTHEST-2 as by-y,
}

pub returns-in_err-check_position : goal.returns-in_err-check_position
unfolding place_refusal
returns-in_err-check_position c =
    passed_up _ c.from_residual.ensures.1 ∙ passed_on_first _ _ c.in_err-check_position.ensures (Ok tt)

-- a magnitude, of a number that is passed on as it came
is : (x : ℤ) (m : ℕ) → SFits w64 x → m ≡ nat_abs (to_z w64 (of_z w64 x)) → m ≡ nat_abs x
is x m f e = e ∙ ap nat_abs (to_z-of_z f)

pub returns-then-unsigned_abs-gt-FARTHEST : goal.returns-then-unsigned_abs-gt-FARTHEST
returns-then-unsigned_abs-gt-FARTHEST c =
    let p = passed_none _ c.in_ok-check_position.ensures in
    let x = is _ _ c.ranges.x c.unsigned_abs.ensures.value in
    let far : 6 ≡ place_refusal c.args.card.now c.args.j (c.args.x, c.args.y) = elim c.then-unsigned_abs-gt-FARTHEST.branch [
      | by-x w ↦ place_far_x _ _ _ p (omega arith)
      | by-y w ↦
          let y = is _ _ c.ranges.y w.unsigned_abs-else-unsigned_abs-gt-FARTHEST.ensures.value in
          place_far_y _ _ _ p (omega arith) (omega arith)
    ] in
    ap checked far

pub returns : goal.returns
returns c =
    let x = is _ _ c.ranges.x c.unsigned_abs.ensures.value in
    let y = is _ _ c.ranges.y c.unsigned_abs-else-unsigned_abs-gt-FARTHEST.ensures.value in
    ap checked (place_held _ _ _ (passed_none _ c.in_ok-check_position.ensures) (omega arith) (omega arith))
