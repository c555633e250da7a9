-- Bounds on the way to a value: on the powers of a coordinate, on a term and on the sum of the terms.
--
--   top_term d == the most that a term of degree d may be
use mathlib.Core.Logic.{◌⊎◌, inl, inr}
use mathlib.Core.List.{List}
use Prim.Native.Nat.{ℕ, zero, suc, ◌+◌, ◌*◌, ◌^◌, ◌/◌, ◌≤◌, ◌<◌}
use native.Mathlib.Nat.{pow-suc, pow-le-pow_right}
use native.Mathlib.Omega.{arith}
use lib.Pow.{pow-add}
use lib.IntN.{ℤ, pos, nat_abs, ◌*ℤ◌}
use mir.Syntax.{w64}
use mir.Val.{SFits}
use Rattle.integers.specs.Powers.{power}
use Rattle.integers.specs.Sums.{sum_to}
use Rattle.integers.proofs.Abs.{abs_sum, abs-*-le}
use Rattle.integers.proofs.Sums.{sum_to_none}
use Rattle.integers.proofs.I64.{fits_abs}
use Rattle.refusals.specs.Limits.{most_degree, most_terms, most_coefficient, most_point}
use Rattle.layout.proofs.Twos.{below_or}
use Rattle.plane.specs.Format.{Point, term_count, x_power, y_power, term_coefficient}
use Rattle.plane.specs.Body.{Before, PlaneBody}
use Rattle.plane.specs.Values.{term_value, plane_value}

-- ---- powers

hundred_le : {m n : ℕ} → m ≤ n → 100 ^ m ≤ 100 ^ n
hundred_le h = pow-le-pow_right (omega arith) h

module _ (x : ℤ) (b : nat_abs x ≤ most_point) where
  power-within : (k : ℕ) → nat_abs (power x k) ≤ 100 ^ k
  unfolding power
  power-within zero = omega arith
  power-within (suc k) = let h = abs-*-le x (power x k) b (power-within k) in omega (arith, h, pow-suc 100 k)

  pub power-fits : (k : ℕ) → k ≤ most_degree → SFits w64 (power x k)
  power-fits k h = fits_abs _ (omega (arith, power-within k, hundred_le h))

-- ---- a term with the coefficient k and the powers a and b, and what stands before its power of Y

abbrev top_term : ℕ → ℕ
top_term d = most_coefficient * 100 ^ d

module _ (k x : ℤ) (a : ℕ) (u : nat_abs x ≤ most_point) (w : nat_abs k ≤ most_coefficient) where
  front-within : nat_abs (k *ℤ power x a) ≤ top_term a
  front-within = abs-*-le k (power x a) w (power-within x u a)

  pub front_fits : a ≤ most_degree → SFits w64 (k *ℤ power x a)
  front_fits h = fits_abs _ (omega (arith, front-within, hundred_le h))

  term_within : (y : ℤ) (b : ℕ) → nat_abs y ≤ most_point → nat_abs (k *ℤ power x a *ℤ power y b) ≤ top_term (a + b)
  term_within y b v =
      let h = abs-*-le (k *ℤ power x a) (power y b) front-within (power-within y v b) in
      omega (arith, h, pow-add 100 a b)

-- ---- the sum of the first n terms of a sound body

module _ (c : List ℕ) (at : ℕ) (s : PlaneBody c at) (p : Point) (u : nat_abs p.0 ≤ most_point) (v : nat_abs p.1 ≤ most_point) where
  -- a term by its degree
  term_value-within : (i : ℕ) → i < term_count c at → nat_abs (term_value c at p i) ≤ top_term (x_power c at i + y_power c at i)
  term_value-within i h = term_within (term_coefficient c at i) p.0 (x_power c at i) u (s.small i h) p.1 (y_power c at i) v

  pub term_value-most : (i : ℕ) → i < term_count c at → nat_abs (term_value c at p i) ≤ 10 ^ 18
  term_value-most i h = omega (arith, term_value-within i h, hundred_le (s.terms.low i h))

  pub terms-within : (n : ℕ) → n ≤ term_count c at → nat_abs (sum_to (term_value c at p) n) ≤ n * 10 ^ 18
  unfolding sum_to
  terms-within zero h = omega arith
  terms-within (suc n) h =
      let ih = terms-within n (omega arith) in
      omega (arith, abs_sum (sum_to (term_value c at p) n) (term_value c at p n), term_value-most n h)

  pub value-within : nat_abs (plane_value c at p) ≤ 9 * 10 ^ 18
  unfolding plane_value
  value-within = omega (arith, terms-within (term_count c at) (omega arith), s.terms.whole.few)

  -- ---- the largest value: a term of degree below 6 is at most 10 ^ 16, and terms of degree 6 have different powers of X

  -- 1 for a term of degree 6, and 0 for one below
  abbrev six : ℕ → ℕ
  six i = (x_power c at i + y_power c at i) / 6

  by_degree : (i : ℕ) → i < term_count c at → nat_abs (term_value c at p i) ≤ 10 ^ 16 + six i * (99 * 10 ^ 16)
  by_degree i h = go (below_or (x_power c at i + y_power c at i) 6)
    where
      go : (x_power c at i + y_power c at i < 6) ⊎ (6 ≤ x_power c at i + y_power c at i)
          → nat_abs (term_value c at p i) ≤ 10 ^ 16 + six i * (99 * 10 ^ 16)
      go (inl l) = let g : x_power c at i + y_power c at i ≤ 5 = omega arith in omega (arith, term_value-within i h, hundred_le g)
      go (inr l) = omega (arith, term_value-most i h, s.terms.low i h)

  rises : (i : ℕ) → suc i < term_count c at → x_power c at i + six i ≤ x_power c at (suc i)
  rises i h = go (s.terms.rising i h)
    where
      go : Before (x_power c at i) (y_power c at i) (x_power c at (suc i)) (y_power c at (suc i)) → x_power c at i + six i ≤ x_power c at
          (suc i)
      go (inl l) = omega (arith, s.terms.low i (omega arith))
      go (inr (e, l)) = omega (arith, e, l, s.terms.low (suc i) h)

  -- the terms to term n: as many of them have degree 6 as its power of X allows
  terms-most : (n : ℕ) → n < term_count c at
      → nat_abs (sum_to (term_value c at p) (suc n)) ≤ suc n * 10 ^ 16 + (x_power c at n + six n) * (99 * 10 ^ 16)
  unfolding sum_to
  terms-most zero h = omega (arith, abs_sum (pos 0) (term_value c at p 0), by_degree 0 h)
  terms-most (suc n) h =
      let ih = terms-most n (omega arith) in
      omega (arith, abs_sum (sum_to (term_value c at p) (suc n)) (term_value c at p (suc n)), by_degree (suc n) h, rises n h)

  -- seven terms of degree 6 and two below: `largest` in `Examples` has this value
  pub value-most : nat_abs (plane_value c at p) ≤ 7020000000000000000
  unfolding plane_value
  value-most = go (term_count c at) (omega arith) s.terms.whole.few
    where
      go : (n : ℕ) → n ≤ term_count c at → n ≤ most_terms → nat_abs (sum_to (term_value c at p) n) ≤ 7020000000000000000
      go zero h f = rw (sum_to_none (term_value c at p)) (omega arith)
      go (suc n) h f = omega (arith, terms-most n h, s.terms.low n h)
