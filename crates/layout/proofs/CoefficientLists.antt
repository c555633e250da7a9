-- The coefficients of a polynomial in a list of seven, 0 above its degree: the list as it is filled, its value, its bound.
use mathlib.Core.Path.{◌≡◌, refl, sym, ap, ◌∙◌}
use mathlib.Core.Logic.{◌⊎◌, inl, inr, ⊎_elim}
use mathlib.Core.List.{List, [], ◌∷◌}
use Prim.Native.Nat.{ℕ, zero, suc, ◌+◌, ◌-◌, ◌≤◌, ◌<◌, zero-le}
use native.Mathlib.Omega.{arith}
use borrow.Author.Tests.{lt-ltb, le-ltb}
use lib.IntN.{ℤ, pos, nat_abs, ◌*ℤ◌, zero-*ℤ, +ℤ_idr}
use lib.ListN.{length, get_or, set, get_or-eq_default}
use lib.Seq.{get_or-set_same, get_or-set_other, ext_get_or}
use Rattle.integers.specs.Sums.{sum_to, Within}
use Rattle.integers.proofs.Sums.{sum_to_ext}
use Rattle.integers.proofs.Tests.{eq_cases}
use Rattle.integers.specs.Powers.{power}
use Rattle.refusals.specs.Limits.{most_coefficient}
use Rattle.layout.specs.Format.{degree, coefficient}
use Rattle.layout.specs.Body.{Small}
use Rattle.polynomials.specs.Values.{evaluate}
use Rattle.layout.specs.Values.{coefficient_below, coefficients, value}
use Rattle.layout.proofs.Twos.{below_or}

abbrev pub zeros : List ℤ
zeros = pos 0 ∷ pos 0 ∷ pos 0 ∷ pos 0 ∷ pos 0 ∷ pos 0 ∷ pos 0 ∷ []

module _ (c : List ℕ) (at : ℕ) where
  pub from_zero : (k : ℕ) → get_or zeros k (pos 0) ≡ coefficient_below c at 0 k
  from_zero k = all k ∙ sym (rw (le-ltb k 0 zero-le))
    where
      all : (k : ℕ) → get_or zeros k (pos 0) ≡ pos 0
      all zero = refl
      all (suc zero) = refl
      all (suc (suc zero)) = refl
      all (suc (suc (suc zero))) = refl
      all (suc (suc (suc (suc zero)))) = refl
      all (suc (suc (suc (suc (suc zero))))) = refl
      all (suc (suc (suc (suc (suc (suc zero)))))) = refl
      all (suc (suc (suc (suc (suc (suc (suc k))))))) = refl

  pub up_to_low : (m k : ℕ) → k < m → coefficient_below c at m k ≡ coefficient c at k
  up_to_low m k h = rw (lt-ltb k m h)

  pub up_to_high : (m k : ℕ) → m ≤ k → coefficient_below c at m k ≡ pos 0
  up_to_high m k h = rw (le-ltb k m h)

  -- one more coefficient, v, is stored
  pub stored : (p : List ℤ) (i : ℕ) (v : ℤ) → v ≡ coefficient c at i → i < length p
      → ((k : ℕ) → get_or p k (pos 0) ≡ coefficient_below c at i k)
      → (k : ℕ) → get_or (set p i v) k (pos 0) ≡ coefficient_below c at (i + 1) k
  stored p i v e l h k =
      ⊎_elim (λ w. rw w.0 (get_or-set_same p i v (pos 0) l ∙ e ∙ sym (up_to_low (i + 1) i (omega arith))))
      (λ w. get_or-set_other p i k v (pos 0) w.0 ∙ h k ∙ other w.0 (below_or k i))
      (eq_cases k i)
    where
      other : (k ≡ i → ⊥) → (k < i) ⊎ (i ≤ k) → coefficient_below c at i k ≡ coefficient_below c at (i + 1) k
      other n (inl b) = up_to_low i k b ∙ sym (up_to_low (i + 1) k (omega arith))
      other n (inr b) = up_to_high i k b ∙ sym (up_to_high (i + 1) k (omega arith))

  -- ---- the whole list
  first_seven : (k : ℕ) → k < 7 → get_or (coefficients c at) k (pos 0) ≡ coefficient_below c at (degree c at + 1) k
  unfolding coefficients
  first_seven zero h = refl
  first_seven (suc zero) h = refl
  first_seven (suc (suc zero)) h = refl
  first_seven (suc (suc (suc zero))) h = refl
  first_seven (suc (suc (suc (suc zero)))) h = refl
  first_seven (suc (suc (suc (suc (suc zero))))) h = refl
  first_seven (suc (suc (suc (suc (suc (suc zero)))))) h = refl
  first_seven (suc (suc (suc (suc (suc (suc (suc k))))))) h = absurd (omega arith)

  seven : length (coefficients c at) ≡ 7
  unfolding coefficients
  seven = refl

  pub filled : (p : List ℤ) → length p ≡ 7 → ((k : ℕ) → get_or p k (pos 0) ≡ coefficient_below c at (degree c at + 1) k)
      → p ≡ coefficients c at
  filled p l h =
      ext_get_or (pos 0) p (coefficients c at) (l ∙ sym seven) (λ k b. h k ∙ sym (first_seven k (omega arith)))

  all_seven : degree c at ≤ 6 → (k : ℕ) → get_or (coefficients c at) k (pos 0) ≡ coefficient_below c at (degree c at + 1) k
  all_seven d k = ⊎_elim (first_seven k) (λ h. past k h ∙ sym (up_to_high (degree c at + 1) k (omega arith))) (below_or k 7)
    where
      past : (k : ℕ) → 7 ≤ k → get_or (coefficients c at) k (pos 0) ≡ pos 0
      past k h = get_or-eq_default (coefficients c at) (pos 0) (rw seven h)

  -- ---- its bound
  pub coefficients-within : Small c at → Within most_coefficient (coefficients c at)
  coefficients-within s = record { at = λ k. rw (all_seven s.whole.low k) (each k (below_or k (degree c at + 1))) }
    where
      each : (k : ℕ) → (k < degree c at + 1) ⊎ (degree c at + 1 ≤ k) → nat_abs (coefficient_below c at (degree c at + 1) k) ≤ 1000000
      each k (inl h) = rw (up_to_low (degree c at + 1) k h) (s.small k (omega arith))
      each k (inr h) = rw (up_to_high (degree c at + 1) k h) zero-le

  -- ---- its value: what stands above the degree adds nothing
  tail : (f : ℕ → ℤ) (m t : ℕ) → ((k : ℕ) → m ≤ k → f k ≡ pos 0) → sum_to f (m + t) ≡ sum_to f m
  unfolding sum_to
  tail f m zero h = let e : m + 0 ≡ m = omega arith in rw e
  tail f m (suc t) h =
      let e : m + suc t ≡ suc (m + t) = omega arith in
      rw (e, tail f m t h, h (m + t) (omega arith)) (+ℤ_idr (sum_to f m))

  pub evaluate-coefficients : (x : ℤ) → degree c at ≤ 6 → evaluate (coefficients c at) x ≡ value c at x
  unfolding evaluate value
  evaluate-coefficients x d =
      let a = coefficient_below c at (degree c at + 1) in
      let t : 7 ≡ degree c at + 1 + (6 - degree c at) = omega arith in
      ap (sum_to (λ i. get_or (coefficients c at) i (pos 0) *ℤ power x i)) t
      ∙ sum_to_ext _ (λ i. a i *ℤ power x i) _ (λ k h. ap (λ (z : ℤ). z *ℤ power x k) (all_seven d k))
      ∙ tail (λ i. a i *ℤ power x i) (degree c at + 1) (6 - degree c at)
      (λ k h. rw (up_to_high (degree c at + 1) k h) (zero-*ℤ (power x k)))
      ∙ sum_to_ext _ _ (degree c at + 1) (λ k h. ap (λ (z : ℤ). z *ℤ power x k) (up_to_low (degree c at + 1) k h))
