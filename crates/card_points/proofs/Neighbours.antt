-- Whether a point of a sound card is the one before it, by their bytes.
use mathlib.Core.Path.{◌≡◌, refl, sym, ap₂, subst, ◌∙◌}
use mathlib.Core.Logic.{◌⊎◌, inl, inr, ⊎_elim}
use mathlib.Core.Bool.{Bool, true, false, not, ◌&&◌}
use mathlib.Core.List.{List}
use Prim.Native.Nat.{ℕ, suc, ◌+◌, ◌*◌, ◌-◌, ◌<◌, ◌≤◌}
use native.Mathlib.Omega.{arith}
use lib.Dec.{eqb}
use lib.IntN.{pos}
use Rattle.integers.specs.Same.{same}
use Rattle.integers.proofs.Parts.{int, dif}
use Rattle.integers.proofs.Same.{same_self, same_means}
use Rattle.integers.proofs.Tests.{bool_cases, eq_cases}
use Rattle.layout.specs.Format.{byte, points_at, point_of, two's}
use Rattle.layout.proofs.Twos.{below_or, twos-low, twos_high}
use Rattle.plane.specs.Contents.{same_point}
use Rattle.plane.proofs.Contents.{line-point, plane-point}
use Rattle.card_points.specs.Places.{repeats}

-- a byte stands for a number of its own
twos-one : (a b : ℕ) → a < 256 → b < 256 → two's 128 a ≡ two's 128 b → a ≡ b
twos-one a b f g e = go (below_or a 128) (below_or b 128)
  where
    go : (a < 128) ⊎ (128 ≤ a) → (b < 128) ⊎ (128 ≤ b) → a ≡ b
    go (inl x) (inl y) = omega (int, sym (twos-low 128 a x) ∙ e ∙ twos-low 128 b y)
    go (inl x) (inr y) = omega (int, sym (twos-low 128 a x) ∙ e ∙ twos_high 128 b y, dif (pos b) (pos 256))
    go (inr x) (inl y) = omega (int, sym (twos_high 128 a x) ∙ e ∙ twos-low 128 b y, dif (pos a) (pos 256))
    go (inr x) (inr y) = omega (int, sym (twos_high 128 a x) ∙ e ∙ twos_high 128 b y, dif (pos a) (pos 256), dif (pos b) (pos 256))

-- whether the bytes i and j of the card c stand for one number
abbrev alike : List ℕ → ℕ → ℕ → Bool
alike c i j = same (two's 128 (byte c i)) (two's 128 (byte c j))

module _ (c : List ℕ) (i j : ℕ) where
  bytes_same : byte c j ≡ byte c i → alike c i j ≡ true
  bytes_same e = rw e (same_self (two's 128 (byte c i)))

  bytes_other : byte c i < 256 → byte c j < 256 → (byte c j ≡ byte c i → ⊥) → alike c i j ≡ false
  bytes_other f g n =
      ⊎_elim (λ t. absurd (n (sym (twos-one (byte c i) (byte c j) f g (same_means _ _ t))))) (λ t. t) (bool_cases (alike c i j))

  alike_is : byte c i < 256 → byte c j < 256 → alike c i j ≡ eqb (byte c j) (byte c i)
  alike_is f g = ⊎_elim (λ w. bytes_same w.0 ∙ sym w.1) (λ w. bytes_other f g w.0 ∙ sym w.1) (eq_cases (byte c j) (byte c i))

-- ---- both tests of a point

and_true : (s : Bool) → s && true ≡ s
and_true true = refl
and_true false = refl

-- the test that a point is not the one before it
abbrev new : List ℕ → ℕ → Bool
new c k = not (repeats c k)

-- a point after the first: that at place k, whose bytes are compared with those of the point before it
module _ (c : List ℕ) (from k : ℕ) (e : from ≡ points_at c) (some : 0 < k) where
  after : (P : ℕ → Type 0) → P (suc (k - 1)) → P k
  after P = subst P (omega arith)

  -- ---- on the line
  module _ (line : byte c 0 ≡ 1) where
    line-repeats : repeats c k ≡ alike c (from + k - 1) (from + k)
    unfolding repeats same_point
    line-repeats =
        after (λ i. repeats c i ≡ alike c (from + k - 1) (from + k))
        (rw (line-point c line (k - 1), line-point c line (suc (k - 1)), and_true (same (point_of c (k - 1)) (point_of c (suc (k - 1)))))
        (ap₂ (alike c) (omega arith) (omega arith)))

    pub line-new : byte c (from + k - 1) < 256 → byte c (from + k) < 256 → not (eqb (byte c (from + k)) (byte c (from + k - 1))) ≡ new c k
    line-new f g = rw (line-repeats, alike_is c (from + k - 1) (from + k) f g) refl

  -- ---- in the plane
  module _ (plane : byte c 0 ≡ 2) where
    abbrev at : ℕ
    at = from + 2 * k

    plane-repeats : repeats c k ≡ alike c (at - 2) at && alike c (at - 1) (at + 1)
    unfolding repeats same_point
    plane-repeats =
        after (λ i. repeats c i ≡ alike c (at - 2) at && alike c (at - 1) (at + 1))
        (rw (plane-point c plane (k - 1), plane-point c plane (suc (k - 1)))
        (ap₂ ◌&&◌ (ap₂ (alike c) (omega arith) (omega arith)) (ap₂ (alike c) (omega arith) (omega arith))))

    pub plane_new_x : byte c (at - 2) < 256 → byte c at < 256 → (byte c at ≡ byte c (at - 2) → ⊥) → true ≡ new c k
    plane_new_x f g n = rw (plane-repeats, bytes_other c (at - 2) at f g n) refl

    pub plane_new_y : byte c at ≡ byte c (at - 2) → byte c (at - 1) < 256 → byte c (at + 1) < 256
        → not (eqb (byte c (at + 1)) (byte c (at - 1))) ≡ new c k
    plane_new_y h f g = rw (plane-repeats, bytes_same c (at - 2) at h, alike_is c (at - 1) (at + 1) f g) refl

-- the first point is a new one
pub first_new : (c : List ℕ) (k : ℕ) → k ≡ 0 → true ≡ new c k
unfolding repeats
first_new c k e = rw e refl
