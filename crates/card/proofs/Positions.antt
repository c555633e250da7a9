-- A position of a polynomial on a card, and answers by the number that refuses.
--
--   Held c j    == the card c is sound and has a polynomial at position j
--   Taken c s n == the card c is sound, with s polynomials and n points
use mathlib.Core.Path.{◌≡◌, refl, sym, ap, ◌∙◌}
use mathlib.Core.List.{List}
use Prim.Native.Nat.{ℕ, zero, suc, ◌+◌, ◌*◌, ◌≤◌, ◌<◌}
use native.Mathlib.Omega.{arith}
use mathlib.Core.Bool.{not, ◌||◌}
use borrow.Author.Tests.{le-leb, lt-leb, leb-false, le-ltb, lt-ltb, ltb-false}
use lib.Dec.{leb, ltb, eqb}
use lib.IntN.{ℤ, nat_abs}
use lib.ListN.{length}
use Rattle.integers.specs.Sums.{Within}
use Rattle.layout.specs.Format.{byte, polynomials, point_count, offset, points_at, point_of}
use Rattle.card.specs.Card.{header_refusal, bodies_refusal, refusal, position_refusal, kind_refusal, place_refusal}
use Rattle.refusals.specs.Limits.{most_coefficient}
use Rattle.layout.specs.Body.{Whole}
use Rattle.polynomials.specs.Values.{evaluate}
use Rattle.layout.specs.Values.{coefficients, value}
use Rattle.layout.proofs.CoefficientLists.{coefficients-within, evaluate-coefficients}
use Rattle.integers.specs.Search.{outside}
use Rattle.integers.proofs.Search.{left_false, right_false}
use Rattle.plane.specs.Format.{Point, plane_point}
use Rattle.card.specs.Sound.{Sound}
use Rattle.card.specs.Claim.{Near}
use Rattle.card.specs.Answers.{shape, reading}
use Rattle.refusals.specs.Numbers.{◌when◌, unless}
use Rattle.std.proofs.Common.{Ok}
use Rattle.card.specs.declared.Shape.{Shape}
use Rattle.refusals.specs.Refusals.{refusing}
use Rattle.refusals.proofs.Causes.{first_none, then_none, first_some, then_some, holds_not, is_equal}
use Rattle.card.proofs.Header.{Headed, too_short}
use Rattle.card.proofs.ByKind.{Fits, fits, unrefused_body}
use Rattle.card.proofs.Sound.{sound, sound_headed}

pub record Held (c : List ℕ) (j : ℕ) : Type 0 where
  pub header : Headed c
  pub card : Sound c
  pub below : j < polynomials c
  pub place : Fits c (offset c j)

module _ (c : List ℕ) (j : ℕ) where
  pub position-card : (refusal c ≡ 0 → ⊥) → refusal c ≡ position_refusal c j
  unfolding position_refusal
  position-card h = first_some (refusal c) _ h

  pub position_past : refusal c ≡ 0 → polynomials c ≤ j → 14 ≡ position_refusal c j
  unfolding position_refusal
  position_past e h = rw e (sym (simp (le-leb (polynomials c) j h)))

  pub position-held : refusal c ≡ 0 → j < polynomials c → 0 ≡ position_refusal c j
  unfolding position_refusal
  position-held e h = rw e (sym (simp (lt-leb (polynomials c) j h)))

  pub held : position_refusal c j ≡ 0 → Held c j
  unfolding position_refusal
  held e =
      let r = first_none (refusal c) _ e in
      let s = sound c r in
      let l = leb-false (polynomials c) j (holds_not 13 (leb (polynomials c) j) (then_none (refusal c) _ e)) in
      record {
        header = sound_headed c r;
        card = s;
        below = l;
        place = fits c (offset c j) (unrefused_body c (offset c j) s.kind (s.body j l));
      }

-- ---- a card of points on the line is wanted
pub of_line : (c : List ℕ) → kind_refusal c ≡ 0 → byte c 0 ≡ 1
unfolding kind_refusal
of_line c e = is_equal (byte c 0) 1 (holds_not 1 (not (eqb (byte c 0) 1)) (then_none (1 when ltb (length c) 4) _ e))

-- ---- a point beside a position
module _ (c : List ℕ) (j : ℕ) (p : Point) where
  pub place-card : (position_refusal c j ≡ 0 → ⊥) → position_refusal c j ≡ place_refusal c j p
  unfolding place_refusal
  place-card h = first_some (position_refusal c j) _ h

  module _ (e : position_refusal c j ≡ 0) where
    pub place_far_x : 100 < nat_abs p.0 → 6 ≡ place_refusal c j p
    unfolding place_refusal
    place_far_x h = rw e (sym (simp (lt-ltb 100 (nat_abs p.0) h)))

    module _ (x : nat_abs p.0 ≤ 100) where
      pub place_far_y : 100 < nat_abs p.1 → 6 ≡ place_refusal c j p
      unfolding place_refusal
      place_far_y h = rw e (sym (simp (le-ltb 100 (nat_abs p.0) x, lt-ltb 100 (nat_abs p.1) h)))

      pub place_held : nat_abs p.1 ≤ 100 → 0 ≡ place_refusal c j p
      unfolding place_refusal
      place_held y = rw e (sym (simp (le-ltb 100 (nat_abs p.0) x, le-ltb 100 (nat_abs p.1) y)))

  pub placed : place_refusal c j p ≡ 0 → Held c j × Near p
  unfolding place_refusal
  placed e =
      let far = holds_not 5 (outside 100 p.0 || outside 100 p.1) (then_none (position_refusal c j) _ e) in (
        held c j (first_none (position_refusal c j) _ e),
        (ltb-false 100 _ (left_false _ (outside 100 p.1) far), ltb-false 100 _ (right_false (outside 100 p.0) _ far)),
      )

pub refused-header : (c : List ℕ) → (header_refusal c ≡ 0 → ⊥) → header_refusal c ≡ refusal c
unfolding refusal
refused-header c h = first_some (header_refusal c) _ h

pub refused-short : (c : List ℕ) → length c < 4 → refusal c ≡ 1
refused-short c h = sym (refused-header c (λ z. let e = too_short c h in omega arith)) ∙ too_short c h

pub refused-bodies : (c : List ℕ) → header_refusal c ≡ 0 → bodies_refusal c (polynomials c) 0 (4 + 2 * (polynomials c + 1)) ≡ refusal c
unfolding refusal
refused-bodies c e = then_some (header_refusal c) _ e

-- ---- a card that is read
pub record Taken (c : List ℕ) (s n : ℕ) : Type 0 where
  pub card : Sound c
  pub s_is : s ≡ polynomials c
  pub n_is : n ≡ point_count c

pub taken : (c : List ℕ) (h : Shape) → reading c ≡ Ok h → Taken c h.polynomials h.points
unfolding reading
taken c h = go (refusal c) refl
  where
    go : (m : ℕ) → refusal c ≡ m → unless m refusing (Ok (shape c)) ≡ Ok h → Taken c h.polynomials h.points
    go zero r e = record { card = sound c r; s_is = ap Shape.polynomials same; n_is = ap Shape.points same }
      where
        same : h ≡ shape c
        same = cc
    go (suc m) r e = cc

-- ---- what the calls of `layout` and `plane` ask of a sound card
module _ (c : List ℕ) (s : Sound c) where
  pub body-fits : (j : ℕ) → j < polynomials c → Fits c (offset c j)
  body-fits j h = fits c (offset c j) (unrefused_body c (offset c j) s.kind (s.body j h))

  pub offset-place : (j : ℕ) → j ≤ polynomials c → 6 + 2 * j ≤ length c
  offset-place j h = omega (arith, (body-fits 0 s.s_least).begins, s.begins)

  -- ---- on the line
  module _ (line : byte c 0 ≡ 1) where
    pub point-place : (k : ℕ) → k < point_count c → points_at c + k < length c
    point-place k h = omega (arith, (s.points.line line).ends)

    pub point-within : (k : ℕ) → k < point_count c → nat_abs (point_of c k) ≤ 128
    point-within k h = omega (arith, (s.points.line line).limits k h)

    pub body-place : (j : ℕ) → j < polynomials c → Whole c (offset c j)
    body-place j h = ((s.body j h).line line).small.whole

    pub body-within : (j : ℕ) → j < polynomials c → Within most_coefficient (coefficients c (offset c j))
    body-within j h = coefficients-within c (offset c j) ((s.body j h).line line).small

    -- the value of polynomial j at x, by the coefficients taken off the card
    pub line-value-at : (j : ℕ) → j < polynomials c → (x : ℤ) → evaluate (coefficients c (offset c j)) x ≡ value c (offset c j) x
    line-value-at j h x = evaluate-coefficients c (offset c j) x (body-place j h).low

  -- ---- in the plane
  module _ (plane : byte c 0 ≡ 2) where
    pub plane-point-place : (k : ℕ) → k < point_count c → points_at c + (2 * k + 1) < length c
    plane-point-place k h = omega (arith, (s.points.plane plane).ends)

    pub plane-point_near : (k : ℕ) → k < point_count c → Near (plane_point c (points_at c) k)
    plane-point_near k h = (s.points.plane plane).limits k h
