-- Weighted queries without integers. A weight of a pattern is a difference p − n of two natural numbers, given by two functions.
--
--   fold i k p n  == the last polynomial, P(i+1), summed out with its sign to the power k: what is left counts at each pattern of P1 .. Pi
--   tally s α p n == p counted at the patterns where the sign of the product α is +, and n where it is −: the query of the weight p − n is
--                    tally s α p n − tally s α n p
use Rattle.std.specs.Prelude.{ℕ, zero, suc, ◌+◌, ◌*◌, ◌^◌, ◌/◌, ◌%◌}

unfoldable pub fold : ℕ → ℕ → (ℕ → ℕ) → (ℕ → ℕ) → ℕ → ℕ
fold i zero p n q = p q + p (q + 3 ^ i) + p (q + 2 * 3 ^ i)
fold i (suc zero) p n q = p (q + 3 ^ i) + n (q + 2 * 3 ^ i)
fold i (suc (suc k)) p n q = p (q + 3 ^ i) + p (q + 2 * 3 ^ i)

unfoldable pub tally : ℕ → ℕ → (ℕ → ℕ) → (ℕ → ℕ) → ℕ
tally zero α p n = p 0
tally (suc i) α p n = tally i (α % 3 ^ i) (fold i (α / 3 ^ i) p n) (fold i (α / 3 ^ i) n p)
