-- The order of patterns and products (000, section 3.2; document 01: "Numeric order is 000's lexicographic order"). That the smaller number
-- is the earlier one in it is `numeric_order` of proofs/NumericOrder.antt.
--
--   power_at j n           == the power of P(j+1) in the product n: digit j of n, from 0
--   sign_at j n            == the sign of P(j+1) in the pattern n, as an integer
--   x ≺ y                 == 000's order of signs: 0 before 1 before −1
--   Lexicographic s b x y == x comes before y: at one of the s polynomials x is before y by b, and at all later ones they are the same
--   NumericOrder s        == a number of s polynomials is the sum of digit times 3^j; among their products, and among their patterns, the
--                            smaller number comes before the greater, and no other: products by their powers, patterns by their signs
use Rattle.std.specs.Prelude.{◌≡◌, ◌↔◌, ℕ, ◌*◌, ◌^◌, ◌/◌, ◌%◌, ◌<◌, ℤ, pos, negsuc}
use Rattle.signs.specs.Lists.{total}
use Rattle.signs.specs.Signs.{sign_of}

unfoldable pub power_at : ℕ → ℕ → ℕ
power_at j n = n / 3 ^ j % 3

unfoldable pub sign_at : ℕ → ℕ → ℤ
sign_at j n = sign_of (n / 3 ^ j % 3)

infix 10 ◌≺◌
pub data ◌≺◌ : ℤ → ℤ → Type 0 where
  zero_plus : pos 0 ≺ pos 1
  zero_minus : pos 0 ≺ negsuc 0
  plus_minus : pos 1 ≺ negsuc 0

pub record Lexicographic {A : Type 0} (s : ℕ) (Before : A → A → Type 0) (x y : ℕ → A) : Type 0 where
  pub place : ℕ
  pub inside : place < s
  pub before : Before (x place) (y place)
  pub same_later : (j : ℕ) → place < j → j < s → x j ≡ y j

pub record NumericOrder (s : ℕ) : Type 0 where
  pub sum_of_digits : (n : ℕ) → n < 3 ^ s → total (λ j. power_at j n * 3 ^ j) s ≡ n
  pub of_products : (α β : ℕ) → α < 3 ^ s → β < 3 ^ s → (α < β) ↔ Lexicographic s ◌<◌ (λ j. power_at j α) (λ j. power_at j β)
  pub of_patterns : (σ τ : ℕ) → σ < 3 ^ s → τ < 3 ^ s → (σ < τ) ↔ Lexicographic s ◌≺◌ (λ j. sign_at j σ) (λ j. sign_at j τ)
