-- `card_signs::sign` meets its contract.
use mathlib.Core.Path.{◌≡◌, sym, ap, ◌∙◌}
use mathlib.Core.Bool.{true, false}
use mathlib.Core.List.{List}
use Prim.Native.Nat.{ℕ, ◌+◌, ◌*◌, ◌≤◌, ◌<◌}
use borrow.Author.Rules.{sfits_of}
use lib.IntN.{ℤ, nat_abs}
use lib.ListN.{length}
use mir.Syntax.{w64}
use mir.Val.{SFits, to_z, of_z}
use mir.Facts.{to_z-of_z}
use Rattle.refusals.specs.Limits.{most_coefficient}
use Rattle.integers.specs.Sums.{Within}
use Rattle.signs.specs.Signs.{sign_digit}
use Rattle.polynomials.specs.Values.{evaluate}
use Rattle.layout.specs.Format.{polynomials, point_count, offset, points_at, point}
use Rattle.plane.specs.Format.{is_plane}
use Rattle.plane.specs.Body.{PlaneBody}
use Rattle.plane.specs.Values.{plane_value}
use Rattle.plane.specs.Contents.{value_at, card_point}
use Rattle.card.specs.Sound.{Sound}
use Rattle.card_signs.specs.Coefficients.{line_coefficients}
use Rattle.card_signs.proofs.Signs as signs
use Rattle.card_signs.proofs.sign.Goals as goal
use Rattle.card_signs.proofs.sign.Goals.{Else-is_plane, Start, Then-is_plane}

-- polynomial j at point k of a sound card, whose points begin at byte `from`
record Place (c : List ℕ) (j from k : ℕ) : Type 0 where
  pub sound : Sound c
  pub below : j < polynomials c
  pub begins : from ≡ points_at c
  pub there : k < point_count c

-- ---- in the plane, where the machine holds u and v for X and Y
module _ (c : List ℕ) (j from k : ℕ) (P : Place c j from k) (t : is_plane c ≡ true) where
  far_byte : from + (2 * k + 1) < length c
  far_byte = rw P.begins (signs.plane-place c P.sound j P.below t k P.there)

  module _ (u v : ℤ) (f : SFits w64 u) (g : SFits w64 v) (x : u ≡ point c from (2 * k)) (y : v ≡ point c from (2 * k + 1)) where
    near_x : nat_abs (to_z w64 (of_z w64 u)) ≤ 100
    near_x = rw (to_z-of_z f, x, P.begins) (signs.plane_near c P.sound j P.below t k P.there).0

    near_y : nat_abs (to_z w64 (of_z w64 v)) ≤ 100
    near_y = rw (to_z-of_z g, y, P.begins) (signs.plane_near c P.sound j P.below t k P.there).1

    module _ (at : ℕ) (e : at ≡ offset c j) where
      body : PlaneBody c at
      body = rw e (signs.plane-body c P.sound j P.below t)

      plane_digit : (d : ℕ) → d ≡ sign_digit (plane_value c at (to_z w64 (of_z w64 u), to_z w64 (of_z w64 v)))
          → d ≡ sign_digit (value_at c (offset c j) (card_point c k))
      plane_digit d h =
          (rw (to_z-of_z f, to_z-of_z g, x, y, P.begins, e) at h)
          ∙ ap sign_digit (signs.plane_at c P.sound j P.below t k P.there)

-- ---- on the line, where the machine holds u for the point
module _ (c : List ℕ) (j from k : ℕ) (P : Place c j from k) (t : is_plane c ≡ false) where
  near_byte : from + k < length c
  near_byte = rw P.begins (signs.line-place c P.sound j P.below t k P.there)

  module _ (p : List ℤ) (q : p ≡ line_coefficients c j) where
    within : Within most_coefficient p
    within = rw q (signs.line-within c P.sound j P.below t)

    module _ (u : ℤ) (f : SFits w64 u) (x : u ≡ point c from k) where
      near : nat_abs (to_z w64 (of_z w64 u)) ≤ 128
      near = rw (to_z-of_z f, x, P.begins) (signs.line_near c P.sound j P.below t k P.there)

      line_digit : (d : ℕ) → d ≡ sign_digit (evaluate p (to_z w64 (of_z w64 u))) → d ≡ sign_digit (value_at c (offset c j) (card_point c k))
      line_digit d h =
          (rw (to_z-of_z f, x, P.begins, q) at h) ∙ ap sign_digit (signs.line_at c P.sound j P.below t k P.there)

place : (c : Start) → Place c.args.card.now c.args.j c.args.from c.args.k
place c = record { sound = c.requires.0; below = c.requires.1; begins = c.requires.3; there = c.requires.4 }

in_plane : (c : Then-is_plane) → is_plane c.args.card.now ≡ true
in_plane c = sym c.is_plane.ensures ∙ c.if-is_plane.true

pub returns-then-is_plane : goal.returns-then-is_plane
returns-then-is_plane c =
    let P = place (goal.at.returns-then-is_plane c).Start in
    let t = in_plane (goal.at.returns-then-is_plane c).Then-is_plane in
    plane_digit _ _ _ _ P t _ _ (sfits_of c.point-x.type_inv) (sfits_of c.point-y.type_inv) c.point-x.ensures c.point-y.ensures _
    c.offset.ensures _
    c.sign.ensures

on_line : (c : Else-is_plane) → is_plane c.args.card.now ≡ false
on_line c = sym c.is_plane.ensures ∙ c.if-is_plane.false

pub sign-requires-2 : goal.sign-requires-2
sign-requires-2 c = (
  within _ _ _ _ (place (goal.at.sign-requires-2 c).Start) (on_line (goal.at.sign-requires-2 c).Else-is_plane) _ c.requires.2,
  near _ _ _ _ (place (goal.at.sign-requires-2 c).Start) (on_line (goal.at.sign-requires-2 c).Else-is_plane) _ c.requires.2 _
      (sfits_of c.point.type_inv) c.point.ensures,
)

pub returns : goal.returns
returns c =
    line_digit _ _ _ _ (place (goal.at.returns c).Start) (on_line (goal.at.returns c).Else-is_plane) _ c.requires.2 _
    (sfits_of c.point.type_inv)
    c.point.ensures _ c.sign-2.ensures
