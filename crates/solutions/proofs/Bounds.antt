-- How large inner values can be: taking a polynomial off never makes the sum of absolute values larger, and no query is larger than it.
-- So a solver that looks for numbers whose absolute values add up to at most `limit` may refuse (12) as soon as an inner value passes it.
use mathlib.Core.Path.{subst}
use Prim.Native.Nat.{ℕ, zero, suc, ◌+◌, ◌*◌, ◌-◌, ◌^◌, ◌/◌, ◌%◌, ◌≤◌}
use native.Mathlib.Omega.{arith}
use mathlib.Core.List.{List, [], ◌∷◌, map}
use lib.IntN.{ℤ, pos, nat_abs, ◌*ℤ◌}
use lib.ListN.{get_or}
use Rattle.integers.specs.Sums.{sum_abs, Within}
use Rattle.integers.proofs.Abs.{abs_sum, abs-*-le}
use Rattle.signs.specs.Signs.{sign, weighted}
use Rattle.signs.specs.Adapted.{adapted}
use Rattle.signs.proofs.Size.{total, total_mono, total_thirds}
use Rattle.signs.proofs.Tallies.{fold, tally}
use Rattle.solutions.specs.Solution.{limit, Solution}
use Rattle.signs.proofs.Weights.{IsSign, sign-0, sign-+, sign-−, sign-sign}

-- ---- the distance of two numbers: the absolute value of p − n

unfoldable pub dist : ℕ → ℕ → ℕ
dist a b = (a - b) + (b - a)

pub dist_up : (a b : ℕ) → a ≤ b + dist a b
unfolding dist
dist_up a b = omega arith

pub dist_down : (a b : ℕ) → b ≤ a + dist a b
unfolding dist
dist_down a b = omega arith

pub dist_le : (a b c : ℕ) → a ≤ b + c → b ≤ a + c → dist a b ≤ c
unfolding dist
dist_le a b c h k = omega arith

-- ---- the sum of the absolute values of a weight on the patterns of i polynomials

unfoldable pub size : ℕ → (ℕ → ℕ) → (ℕ → ℕ) → ℕ
size i p n = total (λ q. dist (p q) (n q)) (3 ^ i)

pub fold-size : (i k : ℕ) (p n : ℕ → ℕ) → size i (fold i k p n) (fold i k n p) ≤ size (suc i) p n
unfolding size
fold-size i k p n =
    omega (
      arith,
      total_thirds i (λ q. dist (p q) (n q)),
      total_mono (λ q. dist (fold i k p n q) (fold i k n p q))
          (λ q. dist (p q) (n q) + dist (p (q + 3 ^ i)) (n (q + 3 ^ i)) + dist (p (q + 2 * 3 ^ i)) (n (q + 2 * 3 ^ i)))
          (3 ^ i) (λ q h. each k q),
    )
  where
    each : (k q : ℕ) → dist (fold i k p n q) (fold i k n p q) ≤ dist (p q) (n q) + dist (p (q + 3 ^ i)) (n (q + 3 ^ i))
        + dist (p (q + 2 * 3 ^ i)) (n (q + 2 * 3 ^ i))
    each k q = by_power k
      where
        d₀ : ℕ
        d₀ = dist (p q) (n q)

        d₁ : ℕ
        d₁ = dist (p (q + 3 ^ i)) (n (q + 3 ^ i))

        d₂ : ℕ
        d₂ = dist (p (q + 2 * 3 ^ i)) (n (q + 2 * 3 ^ i))

        u₀ : p q ≤ n q + d₀
        u₀ = dist_up (p q) (n q)

        l₀ : n q ≤ p q + d₀
        l₀ = dist_down (p q) (n q)

        u₁ : p (q + 3 ^ i) ≤ n (q + 3 ^ i) + d₁
        u₁ = dist_up (p (q + 3 ^ i)) (n (q + 3 ^ i))

        l₁ : n (q + 3 ^ i) ≤ p (q + 3 ^ i) + d₁
        l₁ = dist_down (p (q + 3 ^ i)) (n (q + 3 ^ i))

        u₂ : p (q + 2 * 3 ^ i) ≤ n (q + 2 * 3 ^ i) + d₂
        u₂ = dist_up (p (q + 2 * 3 ^ i)) (n (q + 2 * 3 ^ i))

        l₂ : n (q + 2 * 3 ^ i) ≤ p (q + 2 * 3 ^ i) + d₂
        l₂ = dist_down (p (q + 2 * 3 ^ i)) (n (q + 2 * 3 ^ i))

        by_power : (j : ℕ) → dist (fold i j p n q) (fold i j n p q) ≤ d₀ + d₁ + d₂
        by_power zero = dist_le _ _ (d₀ + d₁ + d₂) (unfold fold in omega (arith, u₀, u₁, u₂)) (unfold fold in omega (arith, l₀, l₁, l₂))
        by_power (suc zero) = dist_le _ _ (d₀ + d₁ + d₂) (unfold fold in omega (arith, u₁, l₂)) (unfold fold in omega (arith, l₁, u₂))
        by_power (suc (suc j)) = dist_le _ _ (d₀ + d₁ + d₂) (unfold fold in omega (arith, u₁, u₂)) (unfold fold in omega (arith, l₁, l₂))

-- no query is larger than the sum of the absolute values
pub tally-size : (i α : ℕ) (p n : ℕ → ℕ) → dist (tally i α p n) (tally i α n p) ≤ size i p n
tally-size zero α p n = unfold tally size total in omega arith
tally-size (suc i) α p n = step (tally-size i (α % 3 ^ i) (fold i (α / 3 ^ i) p n) (fold i (α / 3 ^ i) n p))
  where
    step : dist (tally i (α % 3 ^ i) (fold i (α / 3 ^ i) p n) (fold i (α / 3 ^ i) n p))
        (tally i (α % 3 ^ i) (fold i (α / 3 ^ i) n p) (fold i (α / 3 ^ i) p n))
        ≤ size i (fold i (α / 3 ^ i) p n) (fold i (α / 3 ^ i) n p)
        → dist (tally (suc i) α p n) (tally (suc i) α n p) ≤ size (suc i) p n
    step h = unfold tally in omega (arith, h, fold-size i (α / 3 ^ i) p n)

-- ---- the same of whole numbers on a list of patterns

sign_small : {x : ℤ} → IsSign x → nat_abs x ≤ 1
sign_small sign-0 = omega arith
sign_small sign-+ = omega arith
sign_small sign-− = omega arith

pub weighted-small : (s α : ℕ) (L : List ℕ) (c : List ℤ) → nat_abs (weighted s L c α) ≤ sum_abs c
unfolding weighted sum_abs
weighted-small s α [] [] = omega arith
weighted-small s α [] (w ∷ c) = omega arith
weighted-small s α (σ ∷ L) [] = omega arith
weighted-small s α (σ ∷ L) (w ∷ c) =
    omega (
      arith,
      abs_sum (sign s α σ *ℤ w) (weighted s L c α),
      abs-*-le (sign s α σ) w {n = nat_abs w} (sign_small (sign-sign s α σ)) (omega arith),
      weighted-small s α L c,
    )

-- each number asked of a solution is at most the limit
all_small : (f : ℕ → ℤ) (n : ℕ) (A : List ℕ) → ((α : ℕ) → nat_abs (f α) ≤ n) → Within n (map f A)
all_small f n A h = record { at = go A }
  where
    go : (A : List ℕ) (k : ℕ) → nat_abs (get_or (map f A) k (pos 0)) ≤ n
    go [] zero = omega arith
    go [] (suc k) = omega arith
    go (α ∷ A) zero = h α
    go (α ∷ A) (suc k) = go A k

pub solution_small : (s : ℕ) (L : List ℕ) (ds ws : List ℤ) → Solution s L ds ws → Within limit ds
solution_small s L ds ws S =
    subst (Within limit) S.give (all_small (weighted s L ws) limit (adapted s L) (λ α. omega (arith, weighted-small s α L ws, S.small)))
