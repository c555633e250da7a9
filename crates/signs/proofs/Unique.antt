-- Theorem: a weight that vanishes outside a list of patterns, and whose queries on the list's adapted list are 0, is 0.
-- The weight is a difference p − n of two functions into ℕ, so "is 0" reads p q ≡ n q, and all arithmetic is omega's.
use mathlib.Core.Path.{◌≡◌, refl, sym, ◌∙◌, subst}
use mathlib.Core.Logic.{◌⊎◌, inl, inr}
use mathlib.Core.List.{List, [], ◌∷◌}
use Prim.Native.Nat.{ℕ, zero, suc, ◌+◌, ◌*◌, ◌^◌, min, ◌<◌}
use native.Mathlib.Omega.{arith}
use Rattle.signs.specs.Lists.{times}
use Rattle.signs.specs.Adapted.{signs_of, restrictions, adapted}
use Rattle.signs.proofs.Lists.{times-nil, times-same, restrictions-out}
use Rattle.signs.proofs.Digits.{split}
use Rattle.signs.proofs.Tallies.{fold, tally, tally-at}
use Rattle.signs.proofs.Blocks.{adapted-0, adapted-1, adapted-2, adapted_below}

-- ---- one pattern of P1 .. Pi with the three signs of P(i+1): t counts in the list, p − n is the weight

-- with at most one sign in the list, and the sum 0, each weight is 0
one-sign : (t₀ t₁ t₂ p₀ p₁ p₂ n₀ n₁ n₂ : ℕ) → (t₀ ≡ 0 → p₀ ≡ n₀) → (t₁ ≡ 0 → p₁ ≡ n₁) → (t₂ ≡ 0 → p₂ ≡ n₂)
    → min 1 t₀ + min 1 t₁ + min 1 t₂ < 2 → p₀ + p₁ + p₂ ≡ n₀ + n₁ + n₂ → (p₁ ≡ n₁) × (p₂ ≡ n₂)
one-sign zero zero t₂ p₀ p₁ p₂ n₀ n₁ n₂ h₀ h₁ h₂ m e = omega (arith, h₀ refl, h₁ refl)
one-sign zero (suc t₁) zero p₀ p₁ p₂ n₀ n₁ n₂ h₀ h₁ h₂ m e = omega (arith, h₀ refl, h₂ refl)
one-sign zero (suc t₁) (suc t₂) p₀ p₁ p₂ n₀ n₁ n₂ h₀ h₁ h₂ m e = absurd (omega arith)
one-sign (suc t₀) zero zero p₀ p₁ p₂ n₀ n₁ n₂ h₀ h₁ h₂ m e = omega (arith, h₁ refl, h₂ refl)
one-sign (suc t₀) zero (suc t₂) p₀ p₁ p₂ n₀ n₁ n₂ h₀ h₁ h₂ m e = absurd (omega arith)
one-sign (suc t₀) (suc t₁) t₂ p₀ p₁ p₂ n₀ n₁ n₂ h₀ h₁ h₂ m e = absurd (omega arith)

-- with at most two signs in the list, and the queries of power 0 and 1 at 0, that of power 2 is 0
two_signs : (t₀ t₁ t₂ p₀ p₁ p₂ n₀ n₁ n₂ : ℕ) → (t₀ ≡ 0 → p₀ ≡ n₀) → (t₁ ≡ 0 → p₁ ≡ n₁) → (t₂ ≡ 0 → p₂ ≡ n₂)
    → min 1 t₀ + min 1 t₁ + min 1 t₂ < 3 → p₀ + p₁ + p₂ ≡ n₀ + n₁ + n₂ → p₁ + n₂ ≡ n₁ + p₂ → p₁ + p₂ ≡ n₁ + n₂
two_signs zero t₁ t₂ p₀ p₁ p₂ n₀ n₁ n₂ h₀ h₁ h₂ m e f = omega (arith, h₀ refl)
two_signs (suc t₀) zero t₂ p₀ p₁ p₂ n₀ n₁ n₂ h₀ h₁ h₂ m e f = omega (arith, h₁ refl)
two_signs (suc t₀) (suc t₁) zero p₀ p₁ p₂ n₀ n₁ n₂ h₀ h₁ h₂ m e f = omega (arith, h₂ refl)
two_signs (suc t₀) (suc t₁) (suc t₂) p₀ p₁ p₂ n₀ n₁ n₂ h₀ h₁ h₂ m e f = absurd (omega arith)

-- ---- uniqueness

-- the step of the induction, from U for one polynomial less
module _ (i : ℕ) (L : List ℕ) (p n : ℕ → ℕ)
    (out : (q : ℕ) → q < 3 ^ suc i → times q L ≡ 0 → p q ≡ n q)
    (same : (α : ℕ) → 0 < times α (adapted (suc i) L) → tally (suc i) α p n ≡ tally (suc i) α n p)
    (ih : (L' : List ℕ) (p' n' : ℕ → ℕ)
    → ((q : ℕ) → q < 3 ^ i → times q L' ≡ 0 → p' q ≡ n' q)
    → ((α : ℕ) → 0 < times α (adapted i L') → tally i α p' n' ≡ tally i α n' p')
    → (q : ℕ) → q < 3 ^ i → p' q ≡ n' q) where
  -- the queries of the block of power k, of the weight with P(i+1) summed out
  block : (k : ℕ) (L' : List ℕ) → ((α : ℕ) → 0 < times α (adapted i L') → 0 < times (α + k * 3 ^ i) (adapted (suc i) L))
      → (α : ℕ) → 0 < times α (adapted i L') → tally i α (fold i k p n) (fold i k n p) ≡ tally i α (fold i k n p) (fold i k p n)
  block k L' up α m =
      let b : α < 3 ^ i = adapted_below i α L' m in
      sym (tally-at i k α p n b) ∙ same (α + k * 3 ^ i) (up α m) ∙ tally-at i k α n p b

  at : (x y : ℕ) → x ≡ y → 0 < times x (adapted (suc i) L) → 0 < times y (adapted (suc i) L)
  at x y e h = subst (λ (z : ℕ). 0 < times z (adapted (suc i) L)) e h

  -- the sum over the three signs is 0
  fold-0 : (q : ℕ) → q < 3 ^ i → p q + p (q + 3 ^ i) + p (q + 2 * 3 ^ i) ≡ n q + n (q + 3 ^ i) + n (q + 2 * 3 ^ i)
  unfolding fold signs_of
  fold-0 =
      ih (restrictions 1 i L) (fold i 0 p n) (fold i 0 n p)
      (λ q h e.
      let m : signs_of i L q < 1 = restrictions-out 1 i L q h e in
      omega (
        arith,
        out q (omega arith) (omega arith),
        out (q + 3 ^ i) (omega arith) (omega arith),
        out (q + 2 * 3 ^ i) (omega arith) (omega arith),
      ))
      (block 0 (restrictions 1 i L) (λ α m. at α (α + 0 * 3 ^ i) (omega arith) (adapted-0 i α L m)))

  -- so the difference of + and − is 0
  fold-1 : (q : ℕ) → q < 3 ^ i → p (q + 3 ^ i) + n (q + 2 * 3 ^ i) ≡ n (q + 3 ^ i) + p (q + 2 * 3 ^ i)
  unfolding fold signs_of
  fold-1 =
      ih (restrictions 2 i L) (fold i 1 p n) (fold i 1 n p)
      (λ q h e.
      let m : signs_of i L q < 2 = restrictions-out 2 i L q h e in
      omega (
        arith,
        one-sign (times q L) (times (q + 3 ^ i) L) (times (q + 2 * 3 ^ i) L) _ _ _ _ _ _
            (out q (omega arith)) (out (q + 3 ^ i) (omega arith)) (out (q + 2 * 3 ^ i) (omega arith)) m (fold-0 q h),
      ))
      (block 1 (restrictions 2 i L) (λ α m. at (α + 3 ^ i) (α + 1 * 3 ^ i) (omega arith) (adapted-1 i α L m)))

  -- and the sum of + and − is 0
  fold-2 : (q : ℕ) → q < 3 ^ i → p (q + 3 ^ i) + p (q + 2 * 3 ^ i) ≡ n (q + 3 ^ i) + n (q + 2 * 3 ^ i)
  unfolding fold signs_of
  fold-2 =
      ih (restrictions 3 i L) (fold i 2 p n) (fold i 2 n p)
      (λ q h e.
      let m : signs_of i L q < 3 = restrictions-out 3 i L q h e in
      two_signs (times q L) (times (q + 3 ^ i) L) (times (q + 2 * 3 ^ i) L) _ _ _ _ _ _
      (out q (omega arith)) (out (q + 3 ^ i) (omega arith)) (out (q + 2 * 3 ^ i) (omega arith)) m (fold-0 q h) (fold-1 q h))
      (block 2 (restrictions 3 i L) (λ α m. adapted-2 i α L m))

  step : (q : ℕ) → q < 3 ^ suc i → p q ≡ n q
  step q h = go (split i q h)
    where
      go : (r : ℕ) × (r < 3 ^ i) × ((q ≡ r) ⊎ ((q ≡ r + 3 ^ i) ⊎ (q ≡ r + 2 * 3 ^ i))) → p q ≡ n q
      go (r, b, inl e) = rw e (omega (arith, fold-0 r b, fold-1 r b, fold-2 r b))
      go (r, b, inr (inl e)) = rw e (omega (arith, fold-0 r b, fold-1 r b, fold-2 r b))
      go (r, b, inr (inr e)) = rw e (omega (arith, fold-0 r b, fold-1 r b, fold-2 r b))

pub unique : (s : ℕ) (L : List ℕ) (p n : ℕ → ℕ)
    → ((q : ℕ) → q < 3 ^ s → times q L ≡ 0 → p q ≡ n q)
    → ((α : ℕ) → 0 < times α (adapted s L) → tally s α p n ≡ tally s α n p)
    → (q : ℕ) → q < 3 ^ s → p q ≡ n q
unfolding adapted tally
unique zero [] p n out same q h = out q h (times-nil q)
unique zero (σ ∷ L) p n out same q h =
    let e : q ≡ 0 = omega arith in
    let m : 0 < times 0 (0 ∷ []) = omega (arith, times-same 0 []) in
    rw e (same 0 m)
unique (suc i) L p n out same q h = step i L p n out same (unique i) q h
