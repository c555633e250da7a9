-- The points of a card of points in the plane, case by case.
--
--   Near p         == X and Y of the point p are from −100 to 100
--   place p        == the place of the point p in the order of points: 256 X + Y
--   scaled u v     == 256 times the X that the bits of u hold, as the code computes it
--   placed u v     == the place of a point, as the code computes it
--   Held u v p     == u and v are X and Y of the point p, which is Near
--   Low c at k low == low is the place of the point before point k, or below that of every point where k is 0
use mathlib.Core.Path.{◌≡◌, refl, ◌∙◌}
use mathlib.Core.Bool.{Bool, true, false, not, ◌||◌, ◌&&◌}
use mathlib.Core.Logic.{◌⊎◌, inl, inr}
use mathlib.Core.List.{List}
use Prim.Native.Nat.{ℕ, zero, suc, ◌+◌, ◌*◌, ◌≤◌, ◌<◌}
use native.Mathlib.Omega.{arith}
use native.Mathlib.Numerals.{add-one}
use borrow.Author.Tests.{eq-eqb, ne_eqb, le-ltb, ltb-false}
use lib.IntN.{ℤ, pos, negsuc, nat_abs, ◌+ℤ◌, ◌*ℤ◌}
use lib.ListN.{length}
use lib.Signed.{lt_z}
use mir.Syntax.{w64}
use mir.Val.{SFits, to_z, of_z}
use mir.Facts.{to_z-of_z}
use Rattle.integers.specs.Search.{any_below, outside}
use Rattle.integers.proofs.I64.{fits_abs}
use Rattle.integers.proofs.Parts.{int, sum, times, parts}
use Rattle.integers.proofs.Search.{or_left, or_right, or_false, left_false, right_false, some_true, some_false, none_below}
use Rattle.integers.proofs.Tests.{bool_cases}
use Rattle.refusals.specs.Numbers.{◌when◌}
use Rattle.layout.specs.Format.{point_count}
use Rattle.plane.specs.Format.{Point, plane_point}
use Rattle.plane_checks.specs.Checks.{below, plane_falling, wrong_plane_point, plane_points_refusal}
use Rattle.plane_checks.specs.Claim.{InOrder, PlanePoints}

abbrev pub Near : Point → Type 0
Near p = (nat_abs p.0 ≤ 100) × (nat_abs p.1 ≤ 100)

abbrev pub place : Point → ℤ
place p = pos 256 *ℤ p.0 +ℤ p.1

abbrev pub Low : List ℕ → ℕ → ℕ → ℤ → Type 0
Low c at zero low = low ≡ negsuc 25855
Low c at (suc k) low = (low ≡ place (plane_point c at k)) × Near (plane_point c at k)

-- ---- the order of points: a test of two points, and what it says
module _ (x y x' y' : ℤ) (h : nat_abs y ≤ 100) (h' : nat_abs y' ≤ 100) where
  abbrev first_lower : Bool
  first_lower = lt_z x x' || (not (lt_z x' x) && lt_z y y')

  lower_of : lt_z (pos 256 *ℤ x +ℤ y) (pos 256 *ℤ x' +ℤ y') ≡ true → first_lower ≡ true
  lower_of l = go (bool_cases (lt_z x x'))
    where
      go : (lt_z x x' ≡ true) ⊎ (lt_z x x' ≡ false) → first_lower ≡ true
      go (inl e) = or_left _ _ e
      go (inr e) =
          let f : lt_z x' x ≡ false =
          omega (int, times 256 x, times 256 x', sum (pos 256 *ℤ x) y, sum (pos 256 *ℤ x') y', parts y, parts y') in
          let g : lt_z y y' ≡ true =
          omega (int, times 256 x, times 256 x', sum (pos 256 *ℤ x) y, sum (pos 256 *ℤ x') y', parts y, parts y') in
          rw (e, f, g) refl

  not_lower_of : lt_z (pos 256 *ℤ x +ℤ y) (pos 256 *ℤ x' +ℤ y') ≡ false → first_lower ≡ false
  not_lower_of l = or_false _ _ first (go (bool_cases (lt_z x' x)))
    where
      first : lt_z x x' ≡ false
      first = omega (int, times 256 x, times 256 x', sum (pos 256 *ℤ x) y, sum (pos 256 *ℤ x') y', parts y, parts y')

      go : (lt_z x' x ≡ true) ⊎ (lt_z x' x ≡ false) → not (lt_z x' x) && lt_z y y' ≡ false
      go (inl e) = rw e refl
      go (inr e) =
          let g : lt_z y y' ≡ false =
          omega (int, times 256 x, times 256 x', sum (pos 256 *ℤ x) y, sum (pos 256 *ℤ x') y', parts y, parts y') in
          rw (e, g) refl

module _ (p q : Point) where
  -- p is below q where its place is
  lower : Near p → Near q → lt_z (place p) (place q) ≡ true → below p q ≡ true
  lower h k l = lower_of p.0 p.1 q.0 q.1 h.1 k.1 l

  not_lower : Near p → Near q → lt_z (place p) (place q) ≡ false → below p q ≡ false
  not_lower h k l = not_lower_of p.0 p.1 q.0 q.1 h.1 k.1 l

  order_of : below p q ≡ false → InOrder q p
  order_of e = go (bool_cases (lt_z q.0 p.0))
    where
      go : (lt_z q.0 p.0 ≡ true) ⊎ (lt_z q.0 p.0 ≡ false) → InOrder q p
      go (inl t) = inl (omega int)
      go (inr t) =
          let f = left_false (lt_z p.0 q.0) _ e in
          let g : lt_z p.1 q.1 ≡ false = rw t at (right_false (lt_z p.0 q.0) _ e) in
          inr (omega int, omega int)

  not_below : InOrder q p → below p q ≡ false
  not_below (inl l) =
      let f : lt_z p.0 q.0 ≡ false = omega int in
      let g : lt_z q.0 p.0 ≡ true = omega int in
      rw (f, g) refl
  not_below (inr (s, l)) =
      let f : lt_z p.0 q.0 ≡ false = omega int in
      let g : lt_z q.0 p.0 ≡ false = omega int in
      let h : lt_z p.1 q.1 ≡ false = omega int in
      rw (f, g, h) refl

-- ---- a point p and its place as the code holds them: u and v are what two calls gave
abbrev scaled : ℤ → ℤ → ℤ
scaled u v = pos 256 *ℤ to_z w64 (of_z w64 u)

abbrev placed : ℤ → ℤ → ℤ
placed u v = to_z w64 (of_z w64 (scaled u v)) +ℤ to_z w64 (of_z w64 v)

module _ (x y : ℤ) (h : nat_abs x ≤ 100) (k : nat_abs y ≤ 100) where
  scaled_small : nat_abs (pos 256 *ℤ x) ≤ 25600
  scaled_small = omega (int, times 256 x, parts x, parts (pos 256 *ℤ x))

  placed-small : nat_abs (pos 256 *ℤ x +ℤ y) ≤ 25700
  placed-small = omega (int, times 256 x, parts x, parts y, sum (pos 256 *ℤ x) y, parts (pos 256 *ℤ x +ℤ y))

place-small : (p : Point) → Near p → nat_abs (place p) ≤ 25700
place-small p h = placed-small p.0 p.1 h.0 h.1

pub record Held (u v : ℤ) (p : Point) : Type 0 where
  pub fits_x : SFits w64 u
  pub fits_y : SFits w64 v
  pub is_x : u ≡ p.0
  pub is_y : v ≡ p.1
  pub near : Near p

module _ {u v : ℤ} {p : Point} (h : Held u v p) where
  pub scaled_fits : SFits w64 (scaled u v)
  scaled_fits = rw (to_z-of_z h.fits_x, h.is_x) (fits_abs _ (omega (arith, scaled_small p.0 p.1 h.near.0 h.near.1)))

  computed : placed u v ≡ place p
  computed = rw (to_z-of_z scaled_fits, to_z-of_z h.fits_x, to_z-of_z h.fits_y, h.is_x, h.is_y) refl

  pub place-fits : SFits w64 (placed u v)
  place-fits = rw computed (fits_abs _ (omega (arith, place-small p h.near)))

  pub place_is : to_z w64 (of_z w64 (placed u v)) ≡ place p
  place_is = to_z-of_z place-fits ∙ computed

module _ (c : List ℕ) (at : ℕ) where
  -- ---- one point
  pub low_next : (k : ℕ) (p : ℤ) → p ≡ place (plane_point c at k) → Near (plane_point c at k) → Low c at (k + 1) p
  low_next k p e h = rw (add-one k) (e, h)

  pub far_x : (k : ℕ) → outside 100 (plane_point c at k).0 ≡ true → wrong_plane_point c at k ≡ true
  far_x k e = or_left _ _ e

  pub far_y : (k : ℕ) → outside 100 (plane_point c at k).1 ≡ true → wrong_plane_point c at k ≡ true
  far_y k e = or_right (outside 100 (plane_point c at k).0) _ (or_left _ _ e)

  near_right : (k : ℕ) → Near (plane_point c at k) → plane_falling c at k ≡ false → wrong_plane_point c at k ≡ false
  near_right k h f = or_false _ _ (le-ltb 100 _ h.0) (or_false _ _ (le-ltb 100 _ h.1) f)

  -- its place, and that of the one before it
  module _ (p low : ℤ) where
    pub falls : (k : ℕ) → p ≡ place (plane_point c at k) → Near (plane_point c at k) → Low c at k low → lt_z p low ≡ true
        → wrong_plane_point c at k ≡ true
    falls zero e h l t = absurd (omega (int, parts (place (plane_point c at 0)), place-small (plane_point c at 0) h))
    falls (suc k) e h l t =
        or_right (outside 100 (plane_point c at (suc k)).0) _ (or_right (outside 100 (plane_point c at (suc k)).1) _
        (lower (plane_point c at (suc k)) (plane_point c at k) h l.1 (rw (e, l.0) at t)))

    pub right : (k : ℕ) → p ≡ place (plane_point c at k) → Near (plane_point c at k) → Low c at k low → lt_z p low ≡ false
        → wrong_plane_point c at k ≡ false
    right k e h l t = near_right k h (in_order k e h l t)
      where
        in_order : (k : ℕ) → p ≡ place (plane_point c at k) → Near (plane_point c at k) → Low c at k low → lt_z p low ≡ false
            → plane_falling c at k ≡ false
        in_order zero e h l t = refl
        in_order (suc k) e h l t = not_lower (plane_point c at (suc k)) (plane_point c at k) h l.1 (rw (e, l.0) at t)

  -- ---- all points
  pub points_of : length c ≡ at + 2 * point_count c → any_below (wrong_plane_point c at) (point_count c) ≡ false → PlanePoints c at
  points_of full e =
      record {
        ends = full;
        limits = λ k h. (
          ltb-false 100 _ (left_false (outside 100 (plane_point c at k).0) _ (one k h)),
          ltb-false 100 _ (left_false (outside 100 (plane_point c at k).1) (plane_falling c at k) (rest k h)),
        );
        rising = λ k h. order_of (plane_point c at (suc k)) (plane_point c at k)
            (right_false (outside 100 (plane_point c at (suc k)).1) _ (rest (suc k) h));
      }
    where
      one : (k : ℕ) → k < point_count c → wrong_plane_point c at k ≡ false
      one k h = some_false (wrong_plane_point c at) (point_count c) e k h

      rest : (k : ℕ) → k < point_count c → outside 100 (plane_point c at k).1 || plane_falling c at k ≡ false
      rest k h = right_false (outside 100 (plane_point c at k).0) _ (one k h)

  pub none_wrong : PlanePoints c at → any_below (wrong_plane_point c at) (point_count c) ≡ false
  none_wrong p = none_below (wrong_plane_point c at) (point_count c) (λ k h. near_right k (p.limits k h) (order k h))
    where
      order : (k : ℕ) → k < point_count c → plane_falling c at k ≡ false
      order zero h = refl
      order (suc k) h = not_below (plane_point c at (suc k)) (plane_point c at k) (p.rising k h)

  -- ---- the number that refuses
  module _ (full : length c ≡ at + 2 * point_count c) where
    full-rest : plane_points_refusal c at ≡ (6 when any_below (wrong_plane_point c at) (point_count c))
    unfolding plane_points_refusal
    full-rest = simp (eq-eqb (length c) (at + 2 * point_count c) (omega arith))

    pub bad_points : any_below (wrong_plane_point c at) (point_count c) ≡ true → plane_points_refusal c at ≡ 6
    bad_points e = full-rest ∙ rw e refl

    pub bad_point : (k : ℕ) → k < point_count c → wrong_plane_point c at k ≡ true → plane_points_refusal c at ≡ 6
    bad_point k h e = bad_points (some_true (wrong_plane_point c at) (point_count c) k h e)

    pub good-points : any_below (wrong_plane_point c at) (point_count c) ≡ false → plane_points_refusal c at ≡ 0
    good-points e = full-rest ∙ rw e refl

  pub plane_not_full : (length c ≡ at + 2 * point_count c → ⊥) → plane_points_refusal c at ≡ 1
  unfolding plane_points_refusal
  plane_not_full h = simp (ne_eqb (length c) (at + 2 * point_count c) (λ e. h (omega arith)))
