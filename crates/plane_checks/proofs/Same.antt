-- Two inputs with the same bytes up to byte m, and more: within a body that has room before byte m, the same number refuses both.
use mathlib.Core.Path.{◌≡◌, refl, ap}
use mathlib.Core.List.{List}
use Prim.Native.Nat.{ℕ, zero, suc, ◌+◌, ◌*◌, ◌≤◌, ◌<◌}
use native.Mathlib.Omega.{arith}
use borrow.Author.Tests.{le-ltb, lt-leb, ltb-false}
use lib.Dec.{ltb}
use lib.ListN.{length}
use Rattle.refusals.specs.Numbers.{wrong_terms, ◌when◌}
use Rattle.refusals.specs.Limits.{most_terms, most_coefficient}
use Rattle.refusals.proofs.Causes.{holds_not, next}
use Rattle.integers.specs.Search.{outside}
use Rattle.integers.proofs.Search.{any_same}
use Rattle.layout.specs.Format.{byte, word}
use Rattle.plane.specs.Format.{term_count, plane_size, x_power, y_power, term_coefficient}
use Rattle.plane_checks.specs.Checks.{unordered, wrong_term, plane_refusal}

module _ (c d : List ℕ) (m : ℕ) (long-c : m < length c) (long-d : m < length d) (same : (i : ℕ) → i < m → byte c i ≡ byte d i)
    (at : ℕ) (room : at + 55 ≤ m) where
  same_count : term_count c at ≡ term_count d at
  same_count = same at (omega arith)

  pub same-plane-size : plane_size c at ≡ plane_size d at
  same-plane-size = rw same_count refl

  module _ (i : ℕ) (h : i < most_terms) where
    same-x : x_power c at i ≡ x_power d at i
    same-x = same (at + 1 + 6 * i) (omega arith)

    same-y : y_power c at i ≡ y_power d at i
    same-y = same (at + 2 + 6 * i) (omega arith)

    same-coefficient : term_coefficient c at i ≡ term_coefficient d at i
    unfolding word
    same-coefficient =
        rw (
          same (at + 3 + 6 * i) (omega arith),
          same (at + 3 + 6 * i + 1) (omega arith),
          same (at + 3 + 6 * i + 2) (omega arith),
          same (at + 3 + 6 * i + 3) (omega arith),
        )
        refl

  same_order : (i : ℕ) → i < most_terms → unordered c at i ≡ unordered d at i
  same_order zero h = refl
  same_order (suc i) h =
      rw (same-x (suc i) h, same-x i (omega arith), same-y (suc i) h, same-y i (omega arith)) refl

  same_term : (i : ℕ) → i < most_terms → wrong_term c at i ≡ wrong_term d at i
  same_term i h = rw (same-x i h, same-y i h, same_order i h, same-coefficient i h) refl

  pub same-plane : plane_refusal c at ≡ plane_refusal d at
  unfolding plane_refusal
  same-plane =
      rw (lt-leb (length c) at (omega arith), lt-leb (length d) at (omega arith), same_count)
      (next many many _ _ refl λ e.
      let l : term_count d at ≤ most_terms = ltb-false most_terms (term_count d at) (holds_not 17 (ltb most_terms (term_count d at)) e) in
      rw (
        le-ltb (length c) (at + plane_size d at) (omega arith),
        le-ltb (length d) (at + plane_size d at) (omega arith),
        any_same (wrong_term c at) (wrong_term d at) (term_count d at) (λ i h. same_term i (omega arith)),
        any_same (λ i. outside most_coefficient (term_coefficient c at i)) (λ i. outside most_coefficient (term_coefficient d at i))
            (term_count d at) (λ i h. ap (outside most_coefficient) (same-coefficient i (omega arith))),
      )
      refl)
    where
      many : ℕ
      many = wrong_terms when ltb most_terms (term_count d at)
