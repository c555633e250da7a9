-- The digits of a number as sets of polynomials, and the sign of a product on a pattern by them.
use mathlib.Core.Path.{◌≡◌, refl, sym, ap, ◌∙◌}
use mathlib.Core.Bool.{Bool, true, false, cond, ◌&&◌}
use Prim.Native.Nat.{ℕ, zero, suc, ◌+◌, ◌*◌, ◌-◌, ◌/◌, ◌%◌, ◌^◌, ◌<◌, ◌≤◌}
use native.Mathlib.Omega.{arith}
use native.Mathlib.Nat.{zero-add, one-mul, pow-suc, div-eq_of_lt, mod-eq_of_lt, pow-le-pow_right}
use native.Mathlib.Decide.{ℕ_discrete}
use lib.Arith.{digits_div, digits_mod}
use lib.Bits.{bit_and, bit_or, and_block, or_block, and_lt, or_lt}
use lib.Count.{ones, ones_cat}
use lib.Dec.{eqb}
use lib.IntN.{ℤ, pos, negsuc, neg_ℤ, ◌*ℤ◌, zero-*ℤ}
use Rattle.integers.proofs.Tests.{eqb_same, eqb_other}
use Rattle.integers.proofs.Diff.{one-*ℤ, minus-*ℤ}
use Rattle.integers.specs.Powers.{power}
use Rattle.signs.specs.Signs.{sign_of, sign}
use Rattle.signs.specs.Bits.{bit_of, digit_set, sign_bits}
use Rattle.signs.proofs.Digits.{top, low, digits}

pub bit_le : (x y : ℕ) → bit_of x y ≤ 1
bit_le x y = go (eqb x y)
  where
    go : (b : Bool) → cond b 1 0 ≤ 1
    go true = omega arith
    go false = omega arith

-- s digits are s bits
pub places-lt : (d s n : ℕ) → digit_set d s n < 2 ^ s
unfolding digit_set
places-lt d zero n = omega arith
places-lt d (suc s) n = go (eqb (n / 3 ^ s) d) (places-lt d s (n % 3 ^ s))
  where
    go : (b : Bool) → digit_set d s (n % 3 ^ s) < 2 ^ s → cond b 1 0 * 2 ^ s + digit_set d s (n % 3 ^ s) < 2 ^ suc s
    go true h = omega (arith, pow-suc 2 s)
    go false h = omega (arith, pow-suc 2 s)

-- ---- one digit more, from the top

-- the digit q is taken off, and r is left
pub digit-taken : (d j n q r x : ℕ) → n / 3 ^ j ≡ q → n % 3 ^ j ≡ r
    → x + bit_of q d * 2 ^ j + digit_set d j r ≡ x + digit_set d (suc j) n
unfolding digit_set
digit-taken d j n q r x e f = rw (e, f) (omega arith)

-- bit j alone
pub bit_alone : (j : ℕ) → j < 8 → 1 * 2 ^ j % 65536 ≡ 2 ^ j
bit_alone j h = rw (one-mul (2 ^ j)) (mod-eq_of_lt (omega (arith, pow-le-pow_right {n = 2} (omega arith) {i = j} {j = 8} (omega arith))))

-- a digit past the last is 0, and in no set
one_more : (d i n : ℕ) → n < 3 ^ i → digit_set (suc d) (suc i) n ≡ digit_set (suc d) i n
unfolding digit_set
one_more d i n l = rw (div-eq_of_lt l, mod-eq_of_lt l, eqb_other 0 (suc d) (λ e. omega arith)) (omega arith)

pub more_places : (d k s n : ℕ) → n < 3 ^ s → digit_set (suc d) (k + s) n ≡ digit_set (suc d) s n
more_places d zero s n h = ap (λ (i : ℕ). digit_set (suc d) i n) (zero-add s)
more_places d (suc k) s n h =
    let l : n < 3 ^ (k + s) = omega (arith, pow-le-pow_right {n = 3} (omega arith) {i = s} {j = k + s} (omega arith)) in
    let e : suc k + s ≡ suc (k + s) = omega arith in
    ap (λ (i : ℕ). digit_set (suc d) i n) e ∙ one_more d (k + s) n l ∙ more_places d k s n h

-- ---- the sign by bits

-- the sign where every power has its sign, and p polynomials with the power 1 have the sign −
abbrev turned : Bool → ℕ → ℤ
turned c p = cond c (cond (eqb (p % 2) 0) (pos 1) (negsuc 0)) (pos 0)

turned_more : (c : Bool) (p : ℕ) → turned c (1 + p) ≡ neg_ℤ (turned c p)
turned_more false p = refl
turned_more true p = go (ℕ_discrete (p % 2) 0)
  where
    go : Dec (p % 2 ≡ 0) → cond (eqb ((1 + p) % 2) 0) (pos 1) (negsuc 0) ≡ neg_ℤ (cond (eqb (p % 2) 0) (pos 1) (negsuc 0))
    go (yes e) = rw (eqb_other ((1 + p) % 2) 0 (λ f. omega arith), e) refl
    go (no e) = let f : (1 + p) % 2 ≡ 0 = omega arith in rw (f, eqb_other (p % 2) 0 e) refl

-- one polynomial more, with the power k and the sign t
digit-sign : (k t : ℕ) → k < 3 → t < 3 → (c : Bool) (p : ℕ)
    → turned (eqb (bit_and (bit_or (bit_of k 1) (bit_of k 2)) (bit_or (bit_of t 1) (bit_of t 2))) (bit_or (bit_of k 1) (bit_of k 2)) && c)
    (ones (bit_and (bit_of k 1) (bit_of t 2)) + p)
    ≡ power (sign_of t) k *ℤ turned c p
unfolding power sign_of ones
digit-sign zero t hk ht c p = rw zero-add (sym (one-*ℤ (turned c p)))
digit-sign (suc zero) zero hk ht c p = sym (zero-*ℤ (turned c p))
digit-sign (suc zero) (suc zero) hk ht c p = rw zero-add (sym (one-*ℤ (turned c p)))
digit-sign (suc zero) (suc (suc zero)) hk ht c p = turned_more c p ∙ sym (minus-*ℤ (turned c p))
digit-sign (suc zero) (suc (suc (suc t))) hk ht c p = absurd (omega arith)
digit-sign (suc (suc zero)) zero hk ht c p = sym (zero-*ℤ (turned c p))
digit-sign (suc (suc zero)) (suc zero) hk ht c p = rw zero-add (sym (one-*ℤ (turned c p)))
digit-sign (suc (suc zero)) (suc (suc zero)) hk ht c p = rw zero-add (sym (one-*ℤ (turned c p)))
digit-sign (suc (suc zero)) (suc (suc (suc t))) hk ht c p = absurd (omega arith)
digit-sign (suc (suc (suc k))) t hk ht c p = absurd (omega arith)

-- two numbers are equal where their high and their low parts are
eqb_block : (k a b r s : ℕ) → r < 2 ^ k → s < 2 ^ k → eqb (a * 2 ^ k + r) (b * 2 ^ k + s) ≡ eqb a b && eqb r s
eqb_block k a b r s hr hs = go (ℕ_discrete a b) (ℕ_discrete r s)
  where
    high : a * 2 ^ k + r ≡ b * 2 ^ k + s → a ≡ b
    high e = sym (digits_div a hr) ∙ ap (λ (n : ℕ). n / 2 ^ k) e ∙ digits_div b hs

    lower : a * 2 ^ k + r ≡ b * 2 ^ k + s → r ≡ s
    lower e = sym (digits_mod a hr) ∙ ap (λ (n : ℕ). n % 2 ^ k) e ∙ digits_mod b hs

    go : Dec (a ≡ b) → Dec (r ≡ s) → eqb (a * 2 ^ k + r) (b * 2 ^ k + s) ≡ eqb a b && eqb r s
    go (yes e) (yes f) = rw (e, f, eqb_same (b * 2 ^ k + s), eqb_same b, eqb_same s) refl
    go (yes e) (no f) = rw (eqb_other (a * 2 ^ k + r) (b * 2 ^ k + s) (λ h. f (lower h)), e, eqb_same b, eqb_other r s f) refl
    go (no e) f = rw (eqb_other (a * 2 ^ k + r) (b * 2 ^ k + s) (λ h. e (high h)), eqb_other a b e) refl

-- the law: by their digits, the sign of the product α on the pattern σ
pub sign_bits_lem : (s α σ : ℕ) → α < 3 ^ s → σ < 3 ^ s
    → sign_bits (digit_set 1 s α) (digit_set 2 s α) (digit_set 1 s σ) (digit_set 2 s σ) ≡ sign s α σ
unfolding sign_bits digit_set sign ones
sign_bits_lem zero α σ a b = refl
sign_bits_lem (suc s) α σ a b =
    let (x, k, hx, hk, e) = digits s α a in
    let (y, t, hy, ht, f) = digits s σ b in
    rw (e, f, top s k hx, low s k hx, top s t hy, low s t hy) (go x k y t hk ht (sign_bits_lem s x y hx hy))
  where
    go : (x k y t : ℕ) → k < 3 → t < 3 → sign_bits (digit_set 1 s x) (digit_set 2 s x) (digit_set 1 s y) (digit_set 2 s y) ≡ sign s x y
        → sign_bits (bit_of k 1 * 2 ^ s + digit_set 1 s x) (bit_of k 2 * 2 ^ s + digit_set 2 s x) (bit_of t 1 * 2 ^ s + digit_set 1 s y)
        (bit_of t 2 * 2 ^ s + digit_set 2 s y)
        ≡ power (sign_of t) k *ℤ sign s x y
    go x k y t hk ht ih =
        let A₁ = digit_set 1 s x in
        let A₂ = digit_set 2 s x in
        let P₁ = digit_set 1 s y in
        let P₂ = digit_set 2 s y in
        let a₁ : digit_set 1 s x < 2 ^ s = places-lt 1 s x in
        let a₂ : digit_set 2 s x < 2 ^ s = places-lt 2 s x in
        let p₁ : digit_set 1 s y < 2 ^ s = places-lt 1 s y in
        let p₂ : digit_set 2 s y < 2 ^ s = places-lt 2 s y in
        let a = or_lt s A₁ A₂ a₁ a₂ in
        let p = or_lt s P₁ P₂ p₁ p₂ in
        let u = bit_or (bit_of k 1) (bit_of k 2) in
        let v = bit_or (bit_of t 1) (bit_of t 2) in
        rw (
          or_block s (bit_of k 1) (bit_of k 2) A₁ A₂ a₁ a₂,
          or_block s (bit_of t 1) (bit_of t 2) P₁ P₂ p₁ p₂,
          and_block s u v (bit_or A₁ A₂) (bit_or P₁ P₂) a p,
          eqb_block s (bit_and u v) u (bit_and (bit_or A₁ A₂) (bit_or P₁ P₂)) (bit_or A₁ A₂) (and_lt s (bit_or A₁ A₂) (bit_or P₁ P₂) a p) a,
          and_block s (bit_of k 1) (bit_of t 2) A₁ P₂ a₁ p₂,
          ones_cat s (bit_and (bit_of k 1) (bit_of t 2)) (bit_and A₁ P₂) (and_lt s A₁ P₂ a₁ p₂),
        )
        (digit-sign k t hk ht (eqb (bit_and (bit_or A₁ A₂) (bit_or P₁ P₂)) (bit_or A₁ A₂)) (ones (bit_and A₁ P₂))
        ∙ ap (λ (z : ℤ). power (sign_of t) k *ℤ z) ih)
