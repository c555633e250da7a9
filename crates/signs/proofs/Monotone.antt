-- Theorem: a list with more patterns has an adapted list with more products.
use mathlib.Core.Path.{◌≡◌}
use mathlib.Core.Logic.{◌⊎◌, inl, inr}
use mathlib.Core.List.{List, [], ◌∷◌}
use Prim.Native.Nat.{ℕ, zero, suc, ◌+◌, ◌*◌, ◌^◌, min, ◌<◌, ◌≤◌}
use native.Mathlib.Omega.{arith}
use Rattle.signs.specs.Adapted.{signs_of, restrictions, adapted}
use Rattle.signs.specs.Lists.{times}
use Rattle.signs.proofs.Blocks.{adapted-0, adapted-1, adapted-2, adapted_cases}
use Rattle.signs.proofs.Lists.{times-nil, times-same, restrictions_in, restrictions_holds}

-- what stands in l stands in m
abbrev pub Within : List ℕ → List ℕ → Type 0
Within l m = (q : ℕ) → 0 < times q l → 0 < times q m

min_mono : (a b : ℕ) → (0 < a → 0 < b) → min 1 a ≤ min 1 b
min_mono zero b h = omega arith
min_mono (suc a) b h = omega (arith, h (omega arith))

pub signs_of_mono : (i : ℕ) (L L' : List ℕ) → Within L L' → (q : ℕ) → signs_of i L q ≤ signs_of i L' q
unfolding signs_of
signs_of_mono i L L' w q =
    omega (
      arith,
      min_mono (times q L) (times q L') (w q),
      min_mono (times (q + 3 ^ i) L) (times (q + 3 ^ i) L') (w (q + 3 ^ i)),
      min_mono (times (q + 2 * 3 ^ i) L) (times (q + 2 * 3 ^ i) L') (w (q + 2 * 3 ^ i)),
    )

pub restrictions_mono : (k i : ℕ) (L L' : List ℕ) → Within L L' → Within (restrictions k i L) (restrictions k i L')
restrictions_mono k i L L' w q h =
    let m = restrictions_holds k i L q h in
    restrictions_in k i L' q m.0 (omega (arith, signs_of_mono i L L' w q))

pub adapted_mono : (i : ℕ) (L L' : List ℕ) → Within L L' → Within (adapted i L) (adapted i L')
unfolding adapted
adapted_mono zero [] L' w q h = absurd (omega (arith, times-nil q))
adapted_mono zero (σ ∷ L) [] w q h = absurd (omega (arith, w σ (omega (arith, times-same σ L)), times-nil σ))
adapted_mono zero (σ ∷ L) (σ' ∷ L') w q h = h
adapted_mono (suc i) L L' w q h =
    go (adapted_cases i q L h) (λ k. adapted_mono i (restrictions k i L) (restrictions k i L') (restrictions_mono k i L L' w))
  where
    go : (0 < times q (adapted i (restrictions 1 i L)))
        ⊎ (((a : ℕ) × (q ≡ a + 3 ^ i) × (0 < times a (adapted i (restrictions 2 i L))))
        ⊎ ((a : ℕ) × (q ≡ a + 2 * 3 ^ i) × (0 < times a (adapted i (restrictions 3 i L)))))
        → ((k : ℕ) → Within (adapted i (restrictions k i L)) (adapted i (restrictions k i L')))
        → 0 < times q (adapted (suc i) L')
    go (inl a) ih = adapted-0 i q L' (ih 1 q a)
    go (inr (inl (a, e, m))) ih = rw e (adapted-1 i a L' (ih 2 a m))
    go (inr (inr (a, e, m))) ih = rw e (adapted-2 i a L' (ih 3 a m))
