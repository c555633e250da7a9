-- Sign conditions, products of powers and Tarski queries (document 01, "Patterns and products").
--
-- A pattern number and a product number of s polynomials are numbers below 3^s. Digit j (from 0) of a pattern is the sign of P(j+1):
-- 0 for 0, 1 for +, 2 for −; of a product it is the power of P(j+1). The top digit is that of the last polynomial.
--
--   sign_of d         == the sign that the digit d of a pattern stands for, as an integer
--   sign s α σ       == the sign of the product α on the pattern σ: the product of sign^power over the s polynomials,
--                       power 0 of any sign being 1
--   query s E α      == the query of the product α: the sum of its sign over the points' patterns E, repeats counted
--   weighted s L c α == the query of the product α where the pattern L[k] counts c[k] times, a whole number
--   sign_digit z      == the digit of z's sign in a pattern number: 0 for 0, 1 for +, 2 for −
use Rattle.std.specs.Prelude.{List, [], ◌∷◌, ℕ, zero, suc, ◌/◌, ◌%◌, ◌^◌, ℤ, pos, negsuc, ◌+ℤ◌, ◌*ℤ◌}
use Rattle.integers.specs.Powers.{power}

unfoldable pub sign_of : ℕ → ℤ
sign_of zero = pos 0
sign_of (suc zero) = pos 1
sign_of (suc (suc d)) = negsuc 0

unfoldable pub sign : ℕ → ℕ → ℕ → ℤ
sign zero α σ = pos 1
sign (suc s) α σ = power (sign_of (σ / 3 ^ s)) (α / 3 ^ s) *ℤ sign s (α % 3 ^ s) (σ % 3 ^ s)

unfoldable pub query : ℕ → List ℕ → ℕ → ℤ
query s [] α = pos 0
query s (σ ∷ E) α = sign s α σ +ℤ query s E α

unfoldable pub weighted : ℕ → List ℕ → List ℤ → ℕ → ℤ
weighted s [] c α = pos 0
weighted s (σ ∷ L) [] α = pos 0
weighted s (σ ∷ L) (w ∷ c) α = (sign s α σ *ℤ w) +ℤ weighted s L c α

unfoldable pub sign_digit : ℤ → ℕ
sign_digit (pos zero) = 0
sign_digit (pos (suc n)) = 1
sign_digit (negsuc n) = 2
