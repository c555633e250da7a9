-- Horner's rule: a polynomial's value from the top coefficient down, and a bound on what stands on the way.
--
--   from a x i m == the sum of a (i + k) times x^k over the m numbers k from 0: what Horner's rule has once it has taken a i, m
--                   coefficients in all
--   top m        == a bound on it where each coefficient is within 1,000,000 and x within 128
use mathlib.Core.Path.{◌≡◌, refl, ap, ◌∙◌}
use Prim.Native.Nat.{ℕ, zero, suc, ◌+◌, ◌*◌, ◌≤◌, ◌<◌, zero-le}
use native.Mathlib.Nat.{le_of_suc-le-suc}
use native.Mathlib.Omega.{arith}
use lib.IntN.{ℤ, pos, nat_abs, ◌+ℤ◌, ◌*ℤ◌}
use Rattle.integers.specs.Sums.{sum_to}
use Rattle.integers.proofs.Abs.{abs_sum, abs-*-le}
use Rattle.integers.proofs.Ring.{ringℤ}
use Rattle.integers.proofs.Sums.{sum_to_ext}
use Rattle.integers.specs.Powers.{power}

unfoldable pub from : (ℕ → ℤ) → ℤ → ℕ → ℕ → ℤ
from a x i m = sum_to (λ k. a (i + k) *ℤ power x k) m

abbrev pub top : ℕ → ℕ
top zero = 0
top (suc m) = top m * 128 + 1000000

pub top-le : (m n : ℕ) → m ≤ n → top m ≤ top n
top-le zero n h = zero-le
top-le (suc m) zero h = absurd (omega arith)
top-le (suc m) (suc n) h = let ih = top-le m n (le_of_suc-le-suc h) in omega arith

factor : (h x a b p : ℤ) → (h *ℤ x +ℤ a) +ℤ b *ℤ (x *ℤ p) ≡ (h +ℤ b *ℤ p) *ℤ x +ℤ a
factor h x a b p = simp ringℤ

module _ (a : ℕ → ℤ) (x : ℤ) where
  pub from_none : (i : ℕ) → from a x i 0 ≡ pos 0
  unfolding from sum_to
  from_none i = refl

  -- one more coefficient, below those taken
  pub from_more : (m i : ℕ) → from a x i (suc m) ≡ from a x (suc i) m *ℤ x +ℤ a i
  unfolding from sum_to power
  from_more zero i = let e : i + 0 ≡ i = omega arith in rw e (simp ringℤ)
  from_more (suc m) i =
      let e : i + suc m ≡ suc i + m = omega arith in
      ap (λ (z : ℤ). z +ℤ a (i + suc m) *ℤ power x (suc m)) (from_more m i)
      ∙ rw e (factor (from a x (suc i) m) x (a i) (a (suc i + m)) (power x m))

  -- all of them: the value
  pub from_all : (m : ℕ) → from a x 0 m ≡ sum_to (λ k. a k *ℤ power x k) m
  unfolding from
  from_all m = sum_to_ext _ _ m (λ k h. let e : 0 + k ≡ k = omega arith in rw e)

  module _ (b : nat_abs x ≤ 128) where
    pub from_times : (m i : ℕ) → nat_abs (from a x i m) ≤ top m → nat_abs (from a x i m *ℤ x) ≤ top m * 128
    from_times m i h = abs-*-le (from a x i m) x h b

    pub from_top : (m i : ℕ) → ((k : ℕ) → i ≤ k → k < i + m → nat_abs (a k) ≤ 1000000) → nat_abs (from a x i m) ≤ top m
    from_top zero i s = rw (from_none i) zero-le
    from_top (suc m) i s =
        let ih = from_top m (suc i) (λ k l h. s k (omega arith) (omega arith)) in
        rw (from_more m i)
        (omega (arith, from_times m (suc i) ih, abs_sum (from a x (suc i) m *ℤ x) (a i), s i (omega arith) (omega arith)))
