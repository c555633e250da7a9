-- What remains of the numbers asked, where some of the patterns' numbers are known: definitions of inner functions.
--
--   residuals i l v A x      == the numbers x asked of the products A of i polynomials, less their queries where the patterns l count v
--   other0 x, either0 x y    == the test that x is not 0, and that one of x and y is not
--   is_small x                == the test that x is in −64 .. 64
--   bit_sum a₁ a₂ o t v       == the sum of the numbers v, each times the sign of the product with the digits a₁, a₂ on the pattern with
--                               digits in o, t
--   digit_sum i α o t v       == the sum of the numbers v, each times the sign of the product α of i polynomials on the pattern with digits
--                               in o, t
--   Subtracted i a o t v x r == r is x less the `digit_sum` of each product of a
--   Gathered i l v n o t u   == the first n of o, t, u hold the digits of patterns of l with their numbers of v, whose `digit_sum` is the
--                               query
--   SubtractedBoth i a o t u v x y r s m
--                            == m is Some where the numbers x with u, and y with v, less the `digit_sum` of each product of a, are in
--                               −64 .. 64, and then r and s are they; else None
--   ResidualsBoth i l v w A x y r s m
--                            == m is Some where the residuals of x with v, and of y with w, are in −64 .. 64, and then r and s are they;
--                            else None
use Rattle.std.specs.Prelude.{◌≡◌, Bool, ◌||◌, Option, Some, None, List, [], ◌∷◌, ℕ, ◌+◌, ◌^◌, ◌<◌, ◌≤◌, leb, ltb, ℤ, pos, nat_abs, ◌+ℤ◌}
use Rattle.std.specs.Prelude.{◌-ℤ◌}
use Rattle.std.specs.Prelude.{◌*ℤ◌, length, get_or, take}
use Rattle.refusals.specs.Limits.{most_points}
use Rattle.integers.specs.Sums.{Within}
use Rattle.signs.specs.Signs.{weighted}
use Rattle.signs.specs.Bits.{digit_set, sign_bits}
use Rattle.solver_moments.specs.Moments.{most_moment}

unfoldable pub residuals : ℕ → List ℕ → List ℤ → List ℕ → List ℤ → List ℤ
residuals i l v [] x = []
residuals i l v (α ∷ A) [] = []
residuals i l v (α ∷ A) (y ∷ x) = (y -ℤ weighted i l v α) ∷ residuals i l v A x

abbrev pub other0 : ℤ → Bool
other0 x = ltb 0 (nat_abs x)

unfoldable pub either0 : ℤ → ℤ → Bool
either0 x y = other0 x || other0 y

abbrev pub is_small : ℤ → Bool
is_small x = leb (nat_abs x) most_points

unfoldable pub bit_sum : (a₁ a₂ : ℕ) → List ℕ → List ℕ → List ℤ → ℤ
bit_sum a₁ a₂ [] t v = pos 0
bit_sum a₁ a₂ (p ∷ o) [] v = pos 0
bit_sum a₁ a₂ (p ∷ o) (q ∷ t) [] = pos 0
bit_sum a₁ a₂ (p ∷ o) (q ∷ t) (x ∷ v) = (sign_bits a₁ a₂ p q *ℤ x) +ℤ bit_sum a₁ a₂ o t v

abbrev pub digit_sum : ℕ → ℕ → List ℕ → List ℕ → List ℤ → ℤ
digit_sum i α o t v = bit_sum (digit_set 1 i α) (digit_set 2 i α) o t v

pub record Subtracted (i : ℕ) (a o t : List ℕ) (v x r : List ℤ) : Type 0 where
  pub at : (k : ℕ) → k < length a → get_or r k (pos 0) ≡ get_or x k (pos 0) -ℤ digit_sum i (get_or a k 0) o t v

pub record Gathered (i : ℕ) (l : List ℕ) (v : List ℤ) (n : ℕ) (o t : List ℕ) (u : List ℤ) : Type 0 where
  pub few : n ≤ length l
  pub sums : (α : ℕ) → α < 3 ^ i → digit_sum i α (take n o) (take n t) (take n u) ≡ weighted i l v α
  pub small : (j : ℕ) → j < n → nat_abs (get_or u j (pos 0)) ≤ most_moment

abbrev pub SubtractedBoth : ℕ → (a o t : List ℕ) → (u v x y r s : List ℤ) → Option (Unit {0}) → Type 0
SubtractedBoth i a o t u v x y r s (Some _) = Subtracted i a o t u x r × Subtracted i a o t v y s × Within most_points r
    × Within most_points s
SubtractedBoth i a o t u v x y r s None =
    (r' s' : List ℤ) → Subtracted i a o t u x r' → Subtracted i a o t v y s' → Within most_points r' → Within most_points s' → ⊥

abbrev pub ResidualsBoth : ℕ → List ℕ → (v w : List ℤ) → List ℕ → (x y r s : List ℤ) → Option (Unit {0}) → Type 0
ResidualsBoth i l v w A x y r s (Some _) =
    (r ≡ residuals i l v A x) × (s ≡ residuals i l w A y) × Within most_points r × Within most_points s
ResidualsBoth i l v w A x y r s None = Within most_points (residuals i l v A x) → Within most_points (residuals i l w A y) → ⊥
