-- Sums of integers.
--
--   sum_ℤ xs     == the sum of the integers xs
--   sum_abs xs   == the sum of their absolute values
--   Within b xs == each is between −b and b
--   sum_to f n   == f 0 + .. + f (n − 1)
use Rattle.std.specs.Prelude.{List, [], ◌∷◌, ℕ, zero, suc, ◌+◌, ◌≤◌, ℤ, pos, nat_abs, ◌+ℤ◌, get_or}

unfoldable pub sum_ℤ : List ℤ → ℤ
sum_ℤ [] = pos 0
sum_ℤ (x ∷ xs) = x +ℤ sum_ℤ xs

unfoldable pub sum_abs : List ℤ → ℕ
sum_abs [] = 0
sum_abs (x ∷ xs) = nat_abs x + sum_abs xs

-- past the end `get_or` gives 0, so no index is left out
pub record Within (b : ℕ) (xs : List ℤ) : Type 0 where
  pub at : (k : ℕ) → nat_abs (get_or xs k (pos 0)) ≤ b

unfoldable pub sum_to : (ℕ → ℤ) → ℕ → ℤ
sum_to f zero = pos 0
sum_to f (suc n) = sum_to f n +ℤ f n
