-- The contents of a card by its kind, and its points: as they stand on the card, and each once.
use mathlib.Core.Path.{◌≡◌, refl, sym, ap, ap₂, fun_ext, ◌∙◌}
use mathlib.Core.Bool.{Bool, true, false, ◌&&◌, false≢true}
use mathlib.Core.List.{List, map, map-map}
use Prim.Native.Nat.{ℕ, ◌≤◌}
use native.Mathlib.Omega.{arith}
use lib.IntN.{ℤ, pos}
use lib.ListN.{length, length-map}
use Rattle.signs.specs.Lists.{up_to}
use Rattle.integers.specs.Same.{same}
use Rattle.integers.proofs.Same.{same_self, same_means}
use Rattle.integers.proofs.Tests.{eqb_same, eqb_other}
use Rattle.contents.specs.Distinct.{Equality, NoneTwice, EachOnce, on_points}
use Rattle.contents.proofs.Distinct.{distinct-once, distinct_stays, distinct_fewer}
use Rattle.layout.specs.Format.{byte, point_count, points_at, point_of}
use Rattle.layout.specs.Values.{value}
use Rattle.layout.specs.Contents.{line_contents}
use Rattle.layout.proofs.Contents.{up_to-long}
use Rattle.plane.specs.Format.{is_plane, Point, plane_point}
use Rattle.plane.specs.Values.{plane_value}
use Rattle.plane.specs.Contents.{value_at, card_point, standing_of, same_point, contents_of}

module _ (c : List ℕ) where
  -- ---- by byte 0: 1 for points on the line, and 2 for points in the plane

  on_line : byte c 0 ≡ 1 → is_plane c ≡ false
  on_line e = rw e (eqb_other 1 2 (λ h. omega arith))

  in_plane : byte c 0 ≡ 2 → is_plane c ≡ true
  in_plane e = rw e (eqb_same 2)

  pub line-value : byte c 0 ≡ 1 → (at : ℕ) (p : Point) → value_at c at p ≡ value c at p.0
  unfolding value_at
  line-value e at p = rw (on_line e)

  pub plane-value : byte c 0 ≡ 2 → (at : ℕ) (p : Point) → value_at c at p ≡ plane_value c at p
  unfolding value_at
  plane-value e at p = rw (in_plane e)

  pub line-point : byte c 0 ≡ 1 → (k : ℕ) → card_point c k ≡ (point_of c k, pos 0)
  unfolding card_point
  line-point e k = rw (on_line e)

  pub plane-point : byte c 0 ≡ 2 → (k : ℕ) → card_point c k ≡ plane_point c (points_at c) k
  unfolding card_point
  plane-point e k = rw (in_plane e)

  -- ---- the points as they stand on the card

  pub standing_long : length (standing_of c).points ≡ point_count c
  standing_long = length-map (up_to (point_count c)) (card_point c) ∙ up_to-long (point_count c)

  -- a card of points on the line: its points are those of the line, on the X axis
  pub on_axis : byte c 0 ≡ 1 → (standing_of c).points ≡ map (λ (x : ℤ). (x, pos 0)) (line_contents c).points
  on_axis e =
      ap (λ (f : ℕ → Point). map f (up_to (point_count c))) (fun_ext (line-point e))
      ∙ sym (map-map (λ (x : ℤ). (x, pos 0)) (point_of c) (up_to (point_count c)))

-- ---- the points, each once

both : (a b : Bool) → a && b ≡ true → (a ≡ true) × (b ≡ true)
both true b e = (refl, e)
both false b e = absurd (false≢true e)

-- the test tells whether two points are equal, in X and in Y
pub point_equality : Equality same_point
unfolding same_point
point_equality =
    record {
      equal = λ p q e.
          let (a, b) = both (same p.0 q.0) (same p.1 q.1) e in
          ap₂ (λ (x y : ℤ). (x, y)) (same_means p.0 q.0 a) (same_means p.1 q.1 b);
      self = λ p. rw (same_self p.0, same_self p.1) refl;
    }

module _ (c : List ℕ) where
  -- no point twice, and the points that stand on the card
  pub points-once : EachOnce (standing_of c).points (contents_of c).points
  points-once = distinct-once same_point point_equality (standing_of c).points

  -- at most n
  pub points-few : length (contents_of c).points ≤ point_count c
  points-few = omega (arith, distinct_fewer same_point point_equality (standing_of c).points, standing_long c)

  -- a card whose points all differ has its contents as they stand on it
  pub points_differ : NoneTwice (standing_of c).points → contents_of c ≡ standing_of c
  points_differ h = ap (on_points (standing_of c)) (distinct_stays same_point point_equality (standing_of c).points h)
