-- Which number refuses a polynomial in X and Y or points of the plane, in words of its own (document 02, wish 6: "18, t above 9, where 16
-- stands for the line; then a body cut short by 1; then 18 again for powers too high, terms not rising or a coefficient of 0 anywhere in
-- the body; then coefficient limits by 5").
--
--   ManyTerms c at     == the body that begins at byte `at` has its first byte on the card c, and more than 9 terms
--   Cut c at           == it has at most 9 terms, and does not lie on the card
--   Refuses c at m     == the number m, or 0, refuses that polynomial exactly for its cause
--   InOrder p q        == the point p is not above the point q, by X, then by Y
--   PlanePoints c at   == n points of the plane from byte `at` to the end of the card c, X and Y from −100 to 100, none above the next
--   PointsRefuse c at m == the number m, or 0, refuses these points exactly for its cause
use Rattle.std.specs.Prelude.{◌≡◌, ◌↔◌, ◌⊎◌, List, [], ◌∷◌, ℕ, suc, ◌+◌, ◌*◌, ◌≤◌, ◌<◌, nat_abs, length, ◌≤ℤ◌, ◌<ℤ◌}
use Rattle.refusals.specs.Numbers.{Among}
use Rattle.layout.specs.Format.{point_count}
use Rattle.plane.specs.Format.{Point, term_count, plane_size, plane_point}
use Rattle.plane.specs.Body.{WholePlane, Terms, PlaneBody}

-- ---- one polynomial
abbrev pub ManyTerms : List ℕ → ℕ → Type 0
ManyTerms c at = (at < length c) × (9 < term_count c at)

abbrev pub Cut : List ℕ → ℕ → Type 0
Cut c at = (length c ≤ at) ⊎ ((term_count c at ≤ 9) × (length c < at + plane_size c at))

pub record Refuses (c : List ℕ) (at m : ℕ) : Type 0 where
  pub is_1 : (m ≡ 1) ↔ Cut c at
  pub is_18 : (m ≡ 18) ↔ (ManyTerms c at ⊎ (WholePlane c at × (Terms c at → ⊥)))
  pub is_5 : (m ≡ 5) ↔ (Terms c at × (PlaneBody c at → ⊥))
  pub is_0 : (m ≡ 0) ↔ PlaneBody c at
  pub no_other : Among (0 ∷ 1 ∷ 5 ∷ 18 ∷ []) m

-- ---- the points
abbrev pub InOrder : Point → Point → Type 0
InOrder p q = (p.0 <ℤ q.0) ⊎ ((p.0 ≡ q.0) × (p.1 ≤ℤ q.1))

pub record PlanePoints (c : List ℕ) (at : ℕ) : Type 0 where
  pub ends : length c ≡ at + 2 * point_count c
  pub limits : (k : ℕ) → k < point_count c → (nat_abs (plane_point c at k).0 ≤ 100) × (nat_abs (plane_point c at k).1 ≤ 100)
  pub rising : (k : ℕ) → suc k < point_count c → InOrder (plane_point c at k) (plane_point c at (suc k))

pub record PointsRefuse (c : List ℕ) (at m : ℕ) : Type 0 where
  pub is_1 : (m ≡ 1) ↔ (length c ≡ at + 2 * point_count c → ⊥)
  pub is_6 : (m ≡ 6) ↔ ((length c ≡ at + 2 * point_count c) × (PlanePoints c at → ⊥))
  pub is_0 : (m ≡ 0) ↔ PlanePoints c at
  pub no_other : Among (0 ∷ 1 ∷ 6 ∷ []) m
