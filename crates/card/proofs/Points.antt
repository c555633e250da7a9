-- The points of a card, case by case.
--
--   wrong c at k   == point k is outside its limits or falling
--   Low c at k low == low is the point before point k, or the least that a point may be, with 128 added
use mathlib.Core.Path.{◌≡◌, refl}
use mathlib.Core.Bool.{Bool, true, false, not, ◌||◌}
use mathlib.Core.Logic.{◌⊎◌, inl, inr, ⊎_elim}
use mathlib.Core.List.{List}
use Prim.Native.Nat.{ℕ, zero, suc, ◌+◌, ◌≤◌, ◌<◌}
use native.Mathlib.Omega.{arith}
use native.Mathlib.Numerals.{add-one}
use borrow.Author.Tests.{eq-eqb, ne_eqb, ltb-false}
use lib.Dec.{eqb}
use lib.IntN.{ℤ, pos, ◌+ℤ◌}
use lib.ListN.{length}
use Rattle.integers.proofs.Parts.{int, sum, parts, side}
use Rattle.layout.specs.Format.{point_count, point}
use Rattle.integers.specs.Search.{any_below, outside}
use Rattle.card.specs.Card.{falling, points_refusal}
use Rattle.refusals.specs.Numbers.{◌when◌}
use Rattle.refusals.proofs.Causes.{first_none, then_none, holds_not, is_equal}
use Rattle.integers.proofs.Search.{or_left, or_right, or_false, left_false, right_false, some_true, some_false, none_below}
use Rattle.card.specs.Kinds.{LinePoints}

abbrev pub wrong : List ℕ → ℕ → ℕ → Bool
wrong c at k = outside 100 (point c at k) || falling c at k

abbrev pub Low : List ℕ → ℕ → ℕ → ℕ → Type 0
Low c at zero low = low ≡ 28
Low c at (suc k) low = (pos low ≡ point c at k +ℤ pos 128) × (28 ≤ low)

module _ (c : List ℕ) (at : ℕ) where
  pub low_next : (k p : ℕ) → pos p ≡ point c at k +ℤ pos 128 → 28 ≤ p → Low c at (k + 1) p
  low_next k p e h = rw (add-one k) (e, h)

  pub low_least : (k low : ℕ) → Low c at k low → 28 ≤ low
  low_least zero low l = omega arith
  low_least (suc k) low l = l.1

  -- a point, which is p with 128 added: too high, below the one before it, or neither
  module _ (k p : ℕ) (is : pos p ≡ point c at k +ℤ pos 128) where
    too_far : (p < 28) ⊎ (228 < p) → outside 100 (point c at k) ≡ true
    too_far = ⊎_elim (λ h. omega (int, sum (point c at k) (pos 128), parts (point c at k)))
        (λ h. omega (int, sum (point c at k) (pos 128), parts (point c at k)))

    pub too_high : 228 < p → wrong c at k ≡ true
    too_high h = or_left _ _ (too_far (inr h))

    within : 28 ≤ p → p ≤ 228 → outside 100 (point c at k) ≡ false
    within l h = omega (int, sum (point c at k) (pos 128), parts (point c at k), side (point c at k))

  pub falls : (k p low : ℕ) → pos p ≡ point c at k +ℤ pos 128 → Low c at k low → p < low → wrong c at k ≡ true
  falls zero p low is l h = or_left _ _ (too_far 0 p is (inl (omega arith)))
  falls (suc k) p low is l h =
      let e : falling c at (suc k) ≡ true =
      omega (int, sum (point c at (suc k)) (pos 128), sum (point c at k) (pos 128), l.0) in
      or_right (outside 100 (point c at (suc k))) _ e

  pub right : (k p low : ℕ) → pos p ≡ point c at k +ℤ pos 128 → Low c at k low → low ≤ p → p ≤ 228 → wrong c at k ≡ false
  right zero p low is l h m = or_false _ _ (within 0 p is (omega arith) m) refl
  right (suc k) p low is l h m =
      let e : falling c at (suc k) ≡ false =
      omega (int, sum (point c at (suc k)) (pos 128), sum (point c at k) (pos 128), l.0) in
      or_false _ _ (within (suc k) p is (omega (arith, l.1)) m) e

  -- the last answer
  module _ (full : length c ≡ at + point_count c) where
    pub bad_point : (k : ℕ) → k < point_count c → wrong c at k ≡ true → points_refusal c at ≡ 6
    unfolding points_refusal
    bad_point k h e = simp (eq-eqb (length c) (at + point_count c) full, some_true (wrong c at) (point_count c) k h e)

    pub good-points : any_below (wrong c at) (point_count c) ≡ false → points_refusal c at ≡ 0
    unfolding points_refusal
    good-points e = simp (eq-eqb (length c) (at + point_count c) full, e)

  pub not_full : (length c ≡ at + point_count c → ⊥) → points_refusal c at ≡ 1
  unfolding points_refusal
  not_full h = simp (ne_eqb (length c) (at + point_count c) h)

  -- ---- points that no number refuses, and sound ones
  full : points_refusal c at ≡ 0 → length c ≡ at + point_count c
  unfolding points_refusal
  full e = is_equal _ _ (holds_not 0 (not (eqb (length c) (at + point_count c))) (first_none _ _ e))

  none_wrong : points_refusal c at ≡ 0 → (k : ℕ) → k < point_count c → wrong c at k ≡ false
  unfolding points_refusal
  none_wrong e k h =
      some_false (wrong c at) (point_count c)
      (holds_not 5 (any_below (wrong c at) (point_count c)) (then_none (1 when not (eqb (length c) (at + point_count c))) _ e)) k h

  not_wrong : (k : ℕ) → outside 100 (point c at k) ≡ false → falling c at k ≡ false → wrong c at k ≡ false
  not_wrong k p q = or_false _ _ p q

  pub line-points : points_refusal c at ≡ 0 → LinePoints c at
  line-points e =
      record {
        ends = full e;
        limits = λ k g. ltb-false 100 _ (left_false _ (falling c at k) (none_wrong e k g));
        rising = λ k g. let f : falling c at (suc k) ≡ false =
            right_false (outside 100 (point c at (suc k))) _ (none_wrong e (suc k) g) in
            omega int;
      }

  pub unrefused_points : LinePoints c at → points_refusal c at ≡ 0
  unrefused_points p = good-points p.ends (none_below (wrong c at) (point_count c) fine)
    where
      fine : (k : ℕ) → k < point_count c → wrong c at k ≡ false
      fine zero g = not_wrong zero (let m = p.limits zero g in omega int) refl
      fine (suc k) g = not_wrong (suc k) (let m = p.limits (suc k) g in omega int) (let m = p.rising k g in omega int)
