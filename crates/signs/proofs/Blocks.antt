-- The three blocks of an adapted list, one for each power of the last polynomial; its products are below 3^i.
use mathlib.Core.Path.{◌≡◌, ap, ◌∙◌}
use mathlib.Core.Logic.{◌⊎◌, inl, inr}
use mathlib.Core.List.{List, [], ◌∷◌, ◌++◌}
use Prim.Native.Nat.{ℕ, zero, suc, ◌+◌, ◌*◌, ◌^◌, ◌<◌}
use native.Mathlib.Omega.{arith}
use native.Mathlib.Decide.{dec_lt}
use Rattle.signs.specs.Lists.{times, shift}
use Rattle.signs.specs.Adapted.{restrictions, adapted}
use Rattle.signs.proofs.Lists.{times-nil, times-one, times-append, times-shift}
use Rattle.signs.proofs.Lists.{shift_holds}

-- ---- the three blocks of an adapted list

pub adapted-0 : (i α : ℕ) (L : List ℕ) → 0 < times α (adapted i (restrictions 1 i L)) → 0 < times α (adapted (suc i) L)
unfolding adapted
adapted-0 i α L h =
    omega (
      arith,
      times-append α (adapted i (restrictions 1 i L))
          (shift (3 ^ i) (adapted i (restrictions 2 i L)) ++ shift (2 * 3 ^ i) (adapted i (restrictions 3 i L))),
    )

pub adapted-1 : (i α : ℕ) (L : List ℕ) → 0 < times α (adapted i (restrictions 2 i L)) → 0 < times (α + 3 ^ i) (adapted (suc i) L)
unfolding adapted
adapted-1 i α L h =
    omega (
      arith,
      times-append (α + 3 ^ i) (adapted i (restrictions 1 i L))
          (shift (3 ^ i) (adapted i (restrictions 2 i L)) ++ shift (2 * 3 ^ i) (adapted i (restrictions 3 i L))),
      times-append (α + 3 ^ i) (shift (3 ^ i) (adapted i (restrictions 2 i L))) (shift (2 * 3 ^ i) (adapted i (restrictions 3 i L))),
      times-shift (3 ^ i) α (adapted i (restrictions 2 i L)),
    )

pub adapted-2 : (i α : ℕ) (L : List ℕ) → 0 < times α (adapted i (restrictions 3 i L)) → 0 < times (α + 2 * 3 ^ i) (adapted (suc i) L)
unfolding adapted
adapted-2 i α L h =
    omega (
      arith,
      times-append (α + 2 * 3 ^ i) (adapted i (restrictions 1 i L))
          (shift (3 ^ i) (adapted i (restrictions 2 i L)) ++ shift (2 * 3 ^ i) (adapted i (restrictions 3 i L))),
      times-append (α + 2 * 3 ^ i) (shift (3 ^ i) (adapted i (restrictions 2 i L))) (shift (2 * 3 ^ i) (adapted i (restrictions 3 i L))),
      times-shift (2 * 3 ^ i) α (adapted i (restrictions 3 i L)),
    )

-- every element comes from one of the blocks
pub adapted_cases : (i α : ℕ) (L : List ℕ) → 0 < times α (adapted (suc i) L)
    → (0 < times α (adapted i (restrictions 1 i L)))
    ⊎ (((a : ℕ) × (α ≡ a + 3 ^ i) × (0 < times a (adapted i (restrictions 2 i L))))
    ⊎ ((a : ℕ) × (α ≡ a + 2 * 3 ^ i) × (0 < times a (adapted i (restrictions 3 i L)))))
unfolding adapted
adapted_cases i α L h = go (dec_lt 0 (times α A)) (dec_lt 0 (times α B))
  where
    A : List ℕ
    A = adapted i (restrictions 1 i L)

    B : List ℕ
    B = shift (3 ^ i) (adapted i (restrictions 2 i L))

    C : List ℕ
    C = shift (2 * 3 ^ i) (adapted i (restrictions 3 i L))

    sum : times α (adapted (suc i) L) ≡ times α A + (times α B + times α C)
    sum = times-append α A (B ++ C) ∙ ap (λ (x : ℕ). times α A + x) (times-append α B C)

    go : Dec (0 < times α A) → Dec (0 < times α B)
        → (0 < times α A)
        ⊎ (((a : ℕ) × (α ≡ a + 3 ^ i) × (0 < times a (adapted i (restrictions 2 i L))))
        ⊎ ((a : ℕ) × (α ≡ a + 2 * 3 ^ i) × (0 < times a (adapted i (restrictions 3 i L)))))
    go (yes a) b = inl a
    go (no a) (yes b) = inr (inl (shift_holds (3 ^ i) α (adapted i (restrictions 2 i L)) b))
    go (no a) (no b) = inr (inr (shift_holds (2 * 3 ^ i) α (adapted i (restrictions 3 i L)) (omega (arith, sum))))

-- products of an adapted list are products of its polynomials
pub adapted_below : (i α : ℕ) (L : List ℕ) → 0 < times α (adapted i L) → α < 3 ^ i
unfolding adapted
adapted_below zero α [] h = absurd (omega (arith, times-nil α))
adapted_below zero α (σ ∷ L) h = omega (arith, times-one α 0 h)
adapted_below (suc i) α L h = go (adapted_cases i α L h) (λ a l. adapted_below i a l)
  where
    go : (0 < times α (adapted i (restrictions 1 i L)))
        ⊎ (((a : ℕ) × (α ≡ a + 3 ^ i) × (0 < times a (adapted i (restrictions 2 i L))))
        ⊎ ((a : ℕ) × (α ≡ a + 2 * 3 ^ i) × (0 < times a (adapted i (restrictions 3 i L)))))
        → ((a : ℕ) (l : List ℕ) → 0 < times a (adapted i l) → a < 3 ^ i)
        → α < 3 ^ suc i
    go (inl a) ih = omega (arith, ih α (restrictions 1 i L) a)
    go (inr (inl (a, e, m))) ih = omega (arith, ih a (restrictions 2 i L) m)
    go (inr (inr (a, e, m))) ih = omega (arith, ih a (restrictions 3 i L) m)
