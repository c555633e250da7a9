-- The query of contents is the query of the list of its points' patterns: these are as many as the points, each below 3^s, and the sign of
-- a product's value at a point is the product's sign on the point's pattern. For points of any type.
use mathlib.Core.Path.{◌≡◌, refl, sym, ap, ap₂, ◌∙◌}
use mathlib.Core.List.{List, [], ◌∷◌, map}
use Prim.Native.Nat.{ℕ, zero, suc, ◌+◌, ◌*◌, ◌/◌, ◌%◌, ◌^◌, ◌<◌, ◌≤◌}
use native.Mathlib.Omega.{arith}
use native.Mathlib.Nat.{pow-suc, zero-div, zero-mod}
use lib.IntN.{ℤ, pos, negsuc, nat_abs, ◌+ℤ◌, ◌*ℤ◌}
use lib.ListN.{length, length-map}
use Rattle.integers.specs.Sign.{sgn_ℤ}
use Rattle.integers.specs.Sums.{sum_ℤ}
use Rattle.integers.proofs.Sign.{sgn-*}
use Rattle.integers.proofs.Abs.{abs_sum}
use Rattle.integers.proofs.Sums.{sum-map_ext}
use Rattle.signs.specs.Lists.{Below}
use Rattle.integers.specs.Powers.{power}
use Rattle.signs.specs.Signs.{sign, query, sign_digit}
use Rattle.signs.proofs.Digits.{top, low}
use Rattle.signs.proofs.SignDigits.{digit-sign, digit-small}
use Rattle.contents.specs.Contents.{Contents, product_to, pattern_to, values_at, product_value, query_in, pattern_at, patterns_in}

-- ---- one point

module _ (v : ℕ → ℤ) where
  pub pattern_below : (s : ℕ) → pattern_to v s < 3 ^ s
  unfolding pattern_to
  pattern_below zero = omega arith
  pattern_below (suc s) = go (sign_digit (v s)) (digit-small (v s)) (pattern_below s)
    where
      go : (d : ℕ) → d < 3 → pattern_to v s < 3 ^ s → pattern_to v s + d * 3 ^ s < 3 ^ suc s
      go zero h b = omega (arith, pow-suc 3 s)
      go (suc zero) h b = omega (arith, pow-suc 3 s)
      go (suc (suc zero)) h b = omega (arith, pow-suc 3 s)
      go (suc (suc (suc d))) h b = absurd (omega arith)

-- the sign of a power is the power of the sign
pub sgn_power : (z : ℤ) (n : ℕ) → sgn_ℤ (power z n) ≡ power (sgn_ℤ z) n
unfolding power
sgn_power z zero = refl
sgn_power z (suc n) = sgn-* z (power z n) ∙ ap (λ (x : ℤ). sgn_ℤ z *ℤ x) (sgn_power z n)

-- the sign of a product's value is the product's sign on the pattern
pub sgn_product : (v : ℕ → ℤ) (s α : ℕ) → sgn_ℤ (product_to v s α) ≡ sign s α (pattern_to v s)
unfolding product_to sign pattern_to
sgn_product v zero α = refl
sgn_product v (suc s) α =
    let b = pattern_below v s in
    sgn-* (power (v s) (α / 3 ^ s)) (product_to v s (α % 3 ^ s))
    ∙ ap₂ ◌*ℤ◌ (sgn_power (v s) (α / 3 ^ s) ∙ ap (λ (x : ℤ). power x (α / 3 ^ s)) (sym (digit-sign (v s)))) (sgn_product v s (α % 3 ^ s))
    ∙ sym (rw (top s (sign_digit (v s)) b, low s (sign_digit (v s)) b) refl)

-- ---- all points

module _ {X : Type 0} (f : X → ℕ) where
  pub map_below : (b : ℕ) → ((x : X) → f x < b) → (l : List X) → Below b (map f l)
  unfolding Below
  map_below b h [] = tt
  map_below b h (x ∷ l) = (h x, map_below b h l)

  map-query : (s α : ℕ) (l : List X) → sum_ℤ (map (λ x. sign s α (f x)) l) ≡ query s (map f l) α
  unfolding sum_ℤ query
  map-query s α [] = refl
  map-query s α (x ∷ l) = ap (λ (z : ℤ). sign s α (f x) +ℤ z) (map-query s α l)

module _ {X : Type 0} (K : Contents X) where
  pub patterns-long : length (patterns_in K) ≡ length K.points
  unfolding patterns_in
  patterns-long = length-map K.points (pattern_at K)

  pub patterns-below : Below (3 ^ K.s) (patterns_in K)
  unfolding patterns_in
  patterns-below = map_below (pattern_at K) (3 ^ K.s) (λ x. pattern_below (values_at K x) K.s) K.points

  -- THE LAW: the query of contents is the query of its points' patterns
  pub query-patterns : (α : ℕ) → query_in K α ≡ query K.s (patterns_in K) α
  unfolding query_in patterns_in
  query-patterns α =
      sum-map_ext (λ x. sgn_ℤ (product_value K α x)) (λ x. sign K.s α (pattern_at K x))
      (λ x. sgn_product (values_at K x) K.s α) K.points
      ∙ map-query (pattern_at K) K.s α K.points

-- ---- the size of a query

pub product_none : (v : ℕ → ℤ) (s : ℕ) → product_to v s 0 ≡ pos 1
unfolding product_to power
product_none v zero = refl
product_none v (suc s) = rw (zero-div (3 ^ s), zero-mod (3 ^ s), product_none v s) refl

sgn_small : (z : ℤ) → nat_abs (sgn_ℤ z) ≤ 1
sgn_small (pos zero) = omega arith
sgn_small (pos (suc n)) = omega arith
sgn_small (negsuc n) = omega arith

module _ {X : Type 0} where
  sum-signs : (f : X → ℤ) (l : List X) → nat_abs (sum_ℤ (map (λ x. sgn_ℤ (f x)) l)) ≤ length l
  unfolding sum_ℤ
  sum-signs f [] = omega arith
  sum-signs f (x ∷ l) = omega (arith, abs_sum (sgn_ℤ (f x)) (sum_ℤ (map (λ y. sgn_ℤ (f y)) l)), sgn_small (f x), sum-signs f l)

  sum_ones : (l : List X) → sum_ℤ (map (λ x. pos 1) l) ≡ pos (length l)
  unfolding sum_ℤ
  sum_ones [] = refl
  sum_ones (x ∷ l) = rw (sum_ones l) (ap pos (omega arith))

module _ {X : Type 0} (K : Contents X) where
  -- from minus to plus the number of points, which is the query of product 0
  pub query-within : (α : ℕ) → nat_abs (query_in K α) ≤ length K.points
  unfolding query_in
  query-within α = sum-signs (product_value K α) K.points

  pub query_none : query_in K 0 ≡ pos (length K.points)
  unfolding query_in
  query_none =
      sum-map_ext (λ x. sgn_ℤ (product_value K 0 x)) (λ x. pos 1) (λ x. ap sgn_ℤ (product_none (values_at K x) K.s)) K.points
      ∙ sum_ones K.points
