-- Numbers below 3^(i+1) by their top digit.
use mathlib.Core.Path.{◌≡◌, refl}
use mathlib.Core.Logic.{◌⊎◌, inl, inr}
use Prim.Native.Nat.{ℕ, suc, ◌+◌, ◌*◌, ◌^◌, ◌/◌, ◌%◌, ◌-◌, ◌<◌}
use native.Mathlib.Omega.{arith}
use native.Mathlib.Decide.{dec_lt}
use lib.Arith.{digits_div, digits_mod}

-- a number by its top digit
pub top : (i k : ℕ) {a : ℕ} → a < 3 ^ i → (a + k * 3 ^ i) / 3 ^ i ≡ k
top i k {a} h = rw (omega_comm) (digits_div k h)
  where
    omega_comm : a + k * 3 ^ i ≡ k * 3 ^ i + a
    omega_comm = omega arith

pub low : (i k : ℕ) {a : ℕ} → a < 3 ^ i → (a + k * 3 ^ i) % 3 ^ i ≡ a
low i k {a} h = rw (omega_comm) (digits_mod k h)
  where
    omega_comm : a + k * 3 ^ i ≡ k * 3 ^ i + a
    omega_comm = omega arith

-- a number below 3^(i+1) is r, r + 3^i or r + 2·3^i, with r below 3^i
pub split : (i q : ℕ) → q < 3 ^ suc i → (r : ℕ) × (r < 3 ^ i) × ((q ≡ r) ⊎ ((q ≡ r + 3 ^ i) ⊎ (q ≡ r + 2 * 3 ^ i)))
split i q h = go (dec_lt q (3 ^ i)) (dec_lt q (2 * 3 ^ i))
  where
    go : Dec (q < 3 ^ i) → Dec (q < 2 * 3 ^ i) → (r : ℕ) × (r < 3 ^ i) × ((q ≡ r) ⊎ ((q ≡ r + 3 ^ i) ⊎ (q ≡ r + 2 * 3 ^ i)))
    go (yes a) b = (q, a, inl refl)
    go (no a) (yes b) = (q - 3 ^ i, omega arith, inr (inl (omega arith)))
    go (no a) (no b) = (q - 2 * 3 ^ i, omega arith, inr (inr (omega arith)))

-- a number below 3^(i+1) by its top digit d
pub digits : (i q : ℕ) → q < 3 ^ suc i → (r d : ℕ) × (r < 3 ^ i) × (d < 3) × (q ≡ r + d * 3 ^ i)
digits i q h = go (split i q h)
  where
    go : (r : ℕ) × (r < 3 ^ i) × ((q ≡ r) ⊎ ((q ≡ r + 3 ^ i) ⊎ (q ≡ r + 2 * 3 ^ i)))
        → (r d : ℕ) × (r < 3 ^ i) × (d < 3) × (q ≡ r + d * 3 ^ i)
    go (r, b, inl e) = (r, 0, b, omega arith, omega arith)
    go (r, b, inr (inl e)) = (r, 1, b, omega arith, omega arith)
    go (r, b, inr (inr e)) = (r, 2, b, omega arith, omega arith)
