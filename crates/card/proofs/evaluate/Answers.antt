-- `card::evaluate` meets its contract.
use mathlib.Core.Path.{◌≡◌, sym, ◌∙◌}
use mathlib.Core.Bool.{true, false}
use mathlib.Core.List.{List}
use Prim.Native.Nat.{ℕ, ◌≤◌, ◌<◌}
use native.Mathlib.Omega.{arith}
use borrow.Author.Rules.{sfits_of}
use lib.IntN.{ℤ, nat_abs}
use mir.Syntax.{w64}
use mir.Val.{SFits, to_z, of_z}
use mir.Facts.{to_z-of_z}
use Rattle.refusals.specs.Limits.{most_coefficient}
use Rattle.integers.specs.Sums.{Within}
use Rattle.polynomials.specs.Values.{evaluate}
use Rattle.layout.specs.Format.{byte, polynomials, offset}
use Rattle.layout.specs.Body.{Whole}
use Rattle.layout.specs.Values.{coefficients}
use Rattle.plane.specs.Format.{is_plane}
use Rattle.plane.specs.Body.{PlaneBody}
use Rattle.plane.specs.Values.{plane_value}
use Rattle.plane.specs.Contents.{value_at}
use Rattle.plane.proofs.Contents.{line-value, plane-value}
use Rattle.card.specs.Sound.{Sound}
use Rattle.card.proofs.ByKind.{kind-plane, kind-line}
use Rattle.card.proofs.Positions.{body-place, body-within, line-value-at}
use Rattle.card.proofs.evaluate.Goals as goal

-- a number that is passed on as it came is as near
near : (x : ℤ) (m : ℕ) → SFits w64 x → nat_abs x ≤ m → nat_abs (to_z w64 (of_z w64 x)) ≤ m
near x m f h = rw (to_z-of_z f) h

-- ---- the polynomial at position j, which begins at byte `at`
module _ (c : List ℕ) (S : Sound c) (j at : ℕ) (h : j < polynomials c) (e : at ≡ offset c j) (x y : ℤ) (f : SFits w64 x) (g : SFits w64 y)
  where
    module _ (t : is_plane c ≡ true) where
      plane_at : PlaneBody c at
      plane_at = rw e ((S.body j h).plane (kind-plane c t))

      in_plane : (v : ℤ) → v ≡ plane_value c at (to_z w64 (of_z w64 x), to_z w64 (of_z w64 y)) → v ≡ value_at c (offset c j) (x, y)
      in_plane v d = d ∙ rw (to_z-of_z f, to_z-of_z g, e) (sym (plane-value c (kind-plane c t) (offset c j) (x, y)))

    module _ (t : is_plane c ≡ false) where
      line : byte c 0 ≡ 1
      line = kind-line c S.kind t

      whole_at : Whole c at
      whole_at = rw e (body-place c S line j h)

      within : (p : List ℤ) → p ≡ coefficients c at → Within most_coefficient p
      within p d = rw (d, e) (body-within c S line j h)

      on_line : (p : List ℤ) → p ≡ coefficients c at → (v : ℤ) → v ≡ evaluate p (to_z w64 (of_z w64 x)) → v ≡ value_at c (offset c j) (x, y)
      on_line p d v k =
          k ∙ rw (to_z-of_z f, d, e) (line-value-at c S line j h x ∙ sym (line-value c line (offset c j) (x, y)))

pub returns-then-is_plane : goal.returns-then-is_plane
returns-then-is_plane c =
    to_z-of_z {w = w64} (sfits_of c.evaluate.type_inv)
    ∙ in_plane _ c.requires.0 c.args.j _ c.requires.1 c.offset-at.ensures _ _ c.ranges.x c.ranges.y
    (sym c.is_plane.ensures ∙ c.if-is_plane.true) _ c.evaluate.ensures

pub evaluate-requires-2 : goal.evaluate-requires-2
evaluate-requires-2 c = (
  within _ c.requires.0 c.args.j _ c.requires.1 c.offset-at.ensures _ _ c.ranges.x c.ranges.y
      (sym c.is_plane.ensures ∙ c.if-is_plane.false) _ c.coefficients-p.ensures,
  near _ 128 c.ranges.x (omega (arith, c.requires.2.0)),
)

pub returns : goal.returns
returns c =
    to_z-of_z {w = w64} (sfits_of c.evaluate-2.type_inv)
    ∙ on_line _ c.requires.0 c.args.j _ c.requires.1 c.offset-at.ensures _ _ c.ranges.x c.ranges.y
    (sym c.is_plane.ensures ∙ c.if-is_plane.false) _
    c.coefficients-p.ensures _ c.evaluate-2.ensures
