-- Polynomials in X and Y and cards, by computing the definitions.
--
--   largest == nine terms with the coefficient 1,000,000: all of degree 6, and two of degree 5
--   bodies  == two bodies, of 0 at byte 0 and of 2·X·Y² − 3·X³ at byte 1
--   plane   == a card with 2·X·Y² − 3·X³ at (−2, 5), (5, −2)
--   line    == a card with X − 2 at −3
--   again   == a card with X at −1, 0, 0, 0, 1 and 1
--   twice   == a card with X and Y at (2, 1), (2, 1), (2, 3) and (4, 3)
use mathlib.Core.Path.{◌≡◌, refl}
use mathlib.Core.List.{List, [], ◌∷◌}
use mathlib.Core.Logic.{inl, inr}
use Prim.Native.Nat.{ℕ, zero, suc, ◌+◌, ◌≤◌, ◌<◌}
use native.Mathlib.Omega.{arith}
use lib.IntN.{pos, negsuc}
use Rattle.integers.proofs.Parts.{int}
use Rattle.integers.specs.Sums.{sum_to}
use Rattle.integers.specs.Powers.{power}
use Rattle.signs.specs.Lists.{up_to}
use Rattle.contents.specs.Distinct.{without, distinct}
use Rattle.layout.specs.Format.{two's, offset, word}
use Rattle.layout.specs.Values.{value}
use Rattle.plane.specs.Format.{Point, x_power, y_power, term_coefficient}
use Rattle.plane.specs.Body.{Before, PlaneBody}
use Rattle.plane.specs.Values.{plane_value}
use Rattle.plane.specs.Contents.{value_at, card_point, same_point, contents_of}

abbrev largest : List ℕ
largest =
    9 ∷ 0 ∷ 5 ∷ 0 ∷ 15 ∷ 66 ∷ 64 ∷ 0 ∷ 6 ∷ 0 ∷ 15 ∷ 66 ∷ 64 ∷ 1 ∷ 4 ∷ 0 ∷ 15 ∷ 66 ∷ 64
    ∷ 1 ∷ 5 ∷ 0 ∷ 15 ∷ 66 ∷ 64 ∷ 2 ∷ 4 ∷ 0 ∷ 15 ∷ 66 ∷ 64 ∷ 3 ∷ 3 ∷ 0 ∷ 15 ∷ 66 ∷ 64
    ∷ 4 ∷ 2 ∷ 0 ∷ 15 ∷ 66 ∷ 64 ∷ 5 ∷ 1 ∷ 0 ∷ 15 ∷ 66 ∷ 64 ∷ 6 ∷ 0 ∷ 0 ∷ 15 ∷ 66 ∷ 64 ∷ []

abbrev bodies : List ℕ
bodies = 0 ∷ 2 ∷ 1 ∷ 2 ∷ 0 ∷ 0 ∷ 0 ∷ 2 ∷ 3 ∷ 0 ∷ 255 ∷ 255 ∷ 255 ∷ 253 ∷ []

abbrev plane : List ℕ
plane =
    2 ∷ 1 ∷ 2 ∷ 0 ∷ 0 ∷ 8 ∷ 0 ∷ 21
    ∷ 2 ∷ 1 ∷ 2 ∷ 0 ∷ 0 ∷ 0 ∷ 2 ∷ 3 ∷ 0 ∷ 255 ∷ 255 ∷ 255 ∷ 253 ∷ 254 ∷ 5 ∷ 5 ∷ 254 ∷ []

abbrev line : List ℕ
line = 1 ∷ 1 ∷ 1 ∷ 0 ∷ 0 ∷ 8 ∷ 0 ∷ 17 ∷ 1 ∷ 255 ∷ 255 ∷ 255 ∷ 254 ∷ 0 ∷ 0 ∷ 0 ∷ 1 ∷ 253 ∷ []

abbrev pub again : List ℕ
again = 1 ∷ 1 ∷ 6 ∷ 0 ∷ 0 ∷ 8 ∷ 0 ∷ 17 ∷ 1 ∷ 0 ∷ 0 ∷ 0 ∷ 0 ∷ 0 ∷ 0 ∷ 0 ∷ 1 ∷ 255 ∷ 0 ∷ 0 ∷ 0 ∷ 1 ∷ 1 ∷ []

abbrev pub twice : List ℕ
twice =
    2 ∷ 2 ∷ 4 ∷ 0 ∷ 0 ∷ 10 ∷ 0 ∷ 17 ∷ 0 ∷ 24 ∷ 1 ∷ 1 ∷ 0 ∷ 0 ∷ 0 ∷ 0 ∷ 1 ∷ 1 ∷ 0 ∷ 1 ∷ 0 ∷ 0 ∷ 0 ∷ 1
    ∷ 2 ∷ 1 ∷ 2 ∷ 1 ∷ 2 ∷ 3 ∷ 4 ∷ 3 ∷ []

-- ---- values

-- the largest value of a polynomial, reached; X and Y are both 100, or both −100 where the terms of degree 5 turn their sign
largest-value : (plane_value largest 0 (pos 100, pos 100) ≡ pos 7020000000000000000)
    × (plane_value largest 0 (negsuc 99, negsuc 99) ≡ pos 6980000000000000000)
unfolding plane_value sum_to power two's word
largest-value = (refl, refl)

-- 0 everywhere
zero-value : (p : Point) → plane_value bodies 0 p ≡ pos 0
unfolding plane_value sum_to
zero-value p = refl

-- X and Y have each their own place
mixed_value : (plane_value bodies 1 (negsuc 1, pos 5) ≡ negsuc 75) × (plane_value bodies 1 (pos 5, negsuc 1) ≡ negsuc 334)
unfolding plane_value sum_to power two's word
mixed_value = (refl, refl)

-- at (1, 0) the power 0 of Y is 1
origin_value : (plane_value bodies 1 (pos 0, pos 0) ≡ pos 0) × (plane_value bodies 1 (pos 1, pos 0) ≡ negsuc 2)
unfolding plane_value sum_to power two's word
origin_value = (refl, refl)

-- ---- the largest value is that of a sound body

nine : (P : ℕ → Type 0) → P 0 × P 1 × P 2 × P 3 × P 4 × P 5 × P 6 × P 7 × P 8 → (i : ℕ) → i < 9 → P i
nine P t zero h = t.0
nine P t (suc zero) h = t.1
nine P t (suc (suc zero)) h = t.2
nine P t (suc (suc (suc zero))) h = t.3
nine P t (suc (suc (suc (suc zero)))) h = t.4
nine P t (suc (suc (suc (suc (suc zero))))) h = t.5
nine P t (suc (suc (suc (suc (suc (suc zero)))))) h = t.6
nine P t (suc (suc (suc (suc (suc (suc (suc zero))))))) h = t.7
nine P t (suc (suc (suc (suc (suc (suc (suc (suc zero)))))))) h = t.8
nine P t (suc (suc (suc (suc (suc (suc (suc (suc (suc i))))))))) h = absurd (omega arith)

abbrev Term : ℕ → Type 0
Term i = (x_power largest 0 i + y_power largest 0 i ≤ 6) × (term_coefficient largest 0 i ≡ pos 1000000)

terms : (i : ℕ) → i < 9 → Term i
unfolding two's word
terms =
    nine Term (
      (omega arith, refl),
      (omega arith, refl),
      (omega arith, refl),
      (omega arith, refl),
      (omega arith, refl),
      (omega arith, refl),
      (omega arith, refl),
      (omega arith, refl),
      (omega arith, refl),
    )

abbrev Rises : ℕ → Type 0
Rises i = suc i < 9 → Before (x_power largest 0 i) (y_power largest 0 i) (x_power largest 0 (suc i)) (y_power largest 0 (suc i))

rises : (i : ℕ) → i < 9 → Rises i
rises =
    nine Rises (
      λ h. inr (refl, omega arith),
      λ h. inl (omega arith),
      λ h. inr (refl, omega arith),
      λ h. inl (omega arith),
      λ h. inl (omega arith),
      λ h. inl (omega arith),
      λ h. inl (omega arith),
      λ h. inl (omega arith),
      λ h. absurd (omega arith),
    )

largest-sound : PlaneBody largest 0
largest-sound = record {
  terms = record {
    whole = record { begins = omega arith; few = omega arith; ends = omega arith };
    low = λ i h. (terms i h).0;
    some = λ i h e. omega (int, e, (terms i h).1);
    rising = λ i h. rises i (omega arith) h;
  };
  small = λ i h. rw (terms i h).1 (omega arith);
}

-- ---- cards

plane-points : (contents_of plane).points ≡ ((negsuc 1, pos 5) ∷ (pos 5, negsuc 1) ∷ [])
unfolding up_to card_point offset two's distinct without same_point
plane-points = refl

plane-values : ((contents_of plane).value 0 (negsuc 1, pos 5) ≡ negsuc 75) × ((contents_of plane).value 0 (pos 5, negsuc 1) ≡ negsuc 334)
unfolding value_at plane_value sum_to power offset two's word
plane-values = (refl, refl)

-- a point of the line is on the X axis, and a polynomial in X does not see Y
line-points : (contents_of line).points ≡ ((negsuc 2, pos 0) ∷ [])
unfolding up_to card_point offset two's distinct without
line-points = refl

line-values : ((contents_of line).value 0 (negsuc 2, pos 0) ≡ negsuc 4) × ((contents_of line).value 0 (negsuc 2, pos 7) ≡ negsuc 4)
unfolding value_at value sum_to power offset two's word
line-values = (refl, refl)

-- a point that stands two or three times on a card is one of its points once, beside others with its X
again-points : (contents_of again).points ≡ ((negsuc 0, pos 0) ∷ (pos 0, pos 0) ∷ (pos 1, pos 0) ∷ [])
unfolding up_to card_point offset two's distinct without same_point
again-points = refl

twice_points : (contents_of twice).points ≡ ((pos 2, pos 1) ∷ (pos 2, pos 3) ∷ (pos 4, pos 3) ∷ [])
unfolding up_to card_point offset two's distinct without same_point
twice_points = refl
