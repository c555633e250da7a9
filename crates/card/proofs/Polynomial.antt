-- One polynomial of a card, case by case.
use mathlib.Core.Path.{◌≡◌, sym, ap, ◌∙◌}
use mathlib.Core.Bool.{true, false}
use mathlib.Core.Logic.{◌⊎◌, inl, inr, ⊎_elim}
use mathlib.Core.List.{List}
use Prim.Native.Nat.{ℕ, ◌+◌, ◌≤◌, ◌<◌}
use native.Mathlib.Omega.{arith}
use borrow.Author.Tests.{lt-ltb, le-ltb, le-leb, lt-leb, eq-eqb, ne_eqb, ltb-false, leb-false}
use lib.Dec.{ltb, leb}
use lib.IntN.{pos, nat_abs}
use lib.ListN.{length}
use Rattle.integers.proofs.Abs.{abs_zero}
use Rattle.refusals.specs.Numbers.{◌when◌, ◌▸◌}
use Rattle.layout.specs.Format.{degree, size, coefficient}
use Rattle.integers.specs.Search.{any_below, outside}
use Rattle.card.specs.Card.{coefficients_refusal, polynomial_refusal}
use Rattle.layout.specs.Body.{Whole, Small, Body}
use Rattle.integers.proofs.Search.{some_true, some_false, none_below}
use Rattle.refusals.proofs.Causes.{first_none, then_none, holds_not}
use Rattle.layout.proofs.Twos.{below_or}

module _ (c : List ℕ) (at : ℕ) where
  pub large_coefficient : (i : ℕ) → i ≤ degree c at → outside 1000000 (coefficient c at i) ≡ true → coefficients_refusal c at ≡ 5
  unfolding coefficients_refusal
  large_coefficient i h e =
      simp (some_true (λ k. outside 1000000 (coefficient c at k)) (degree c at + 1) i (omega arith) e)

  module _ (none : any_below (λ k. outside 1000000 (coefficient c at k)) (degree c at + 1) ≡ false) where
    pub zero-top : 0 < degree c at → nat_abs (coefficient c at (degree c at)) ≡ 0 → coefficients_refusal c at ≡ 17
    unfolding coefficients_refusal
    zero-top h e = simp (none, lt-ltb 0 (degree c at) h, eq-eqb _ 0 e)

    pub sound_constant : degree c at ≤ 0 → coefficients_refusal c at ≡ 0
    unfolding coefficients_refusal
    sound_constant h = simp (none, le-ltb 0 (degree c at) h)

    pub sound-coefficients : 0 < degree c at → (nat_abs (coefficient c at (degree c at)) ≡ 0 → ⊥) → coefficients_refusal c at ≡ 0
    unfolding coefficients_refusal
    sound-coefficients h e = simp (none, lt-ltb 0 (degree c at) h, ne_eqb _ 0 e)

  pub no_degree : length c ≤ at → polynomial_refusal c at ≡ 1
  unfolding polynomial_refusal
  no_degree h = simp (le-leb (length c) at h)

  module _ (begins : at < length c) where
    pub large_degree : 6 < degree c at → polynomial_refusal c at ≡ 16
    unfolding polynomial_refusal
    large_degree h = simp (lt-leb (length c) at begins, lt-ltb 6 (degree c at) h)

    module _ (low : degree c at ≤ 6) where
      pub cut_body : length c < at + size c at → polynomial_refusal c at ≡ 1
      unfolding polynomial_refusal
      cut_body h =
          simp (lt-leb (length c) at begins, le-ltb 6 (degree c at) low, lt-ltb (length c) (at + size c at) h)

      pub whole-body : at + size c at ≤ length c → polynomial_refusal c at ≡ coefficients_refusal c at
      unfolding polynomial_refusal
      whole-body h =
          simp (lt-leb (length c) at begins, le-ltb 6 (degree c at) low, le-ltb (length c) (at + size c at) h)

-- ---- coefficients within their limits
module _ (c : List ℕ) (at : ℕ) where
  pub small_of : Whole c at → any_below (λ k. outside 1000000 (coefficient c at k)) (degree c at + 1) ≡ false → Small c at
  small_of w none =
      record {
        whole = w;
        small = λ i h. ltb-false 1000000 _ (some_false (λ k. outside 1000000 (coefficient c at k)) (degree c at + 1) none i (omega arith));
      }

  pub none_large : Small c at → any_below (λ k. outside 1000000 (coefficient c at k)) (degree c at + 1) ≡ false
  none_large m =
      none_below (λ k. outside 1000000 (coefficient c at k)) (degree c at + 1)
      (λ i h. le-ltb 1000000 _ (m.small i (omega arith)))

-- ---- a sound polynomial
module _ (c : List ℕ) (at : ℕ) (e : polynomial_refusal c at ≡ 0) where
  whole-rest : (1 when leb (length c) at ▸ 16 when ltb 6 (degree c at) ▸ 1 when ltb (length c) (at + size c at) ▸ coefficients_refusal c at)
      ≡ 0
  unfolding polynomial_refusal
  whole-rest = e

  pub whole : Whole c at
  whole =
      let e1 = then_none (1 when leb (length c) at) _ whole-rest in
      let e2 = then_none (16 when ltb 6 (degree c at)) _ e1 in
      record {
        begins = leb-false (length c) at (holds_not 0 (leb (length c) at) (first_none _ _ whole-rest));
        low = ltb-false 6 (degree c at) (holds_not 15 (ltb 6 (degree c at)) (first_none _ _ e1));
        ends = ltb-false (length c) (at + size c at) (holds_not 0 (ltb (length c) (at + size c at)) (first_none _ _ e2));
      }

  sound : coefficients_refusal c at ≡ 0
  sound = let w = whole in sym (whole-body c at w.begins w.low w.ends) ∙ e

  none : any_below (λ k. outside 1000000 (coefficient c at k)) (degree c at + 1) ≡ false
  unfolding coefficients_refusal
  none = holds_not 4 (any_below (λ k. outside 1000000 (coefficient c at k)) (degree c at + 1)) (first_none _ _ sound)

  pub small : Small c at
  small = small_of c at whole none

  pub body : Body c at
  body = record { small = small; top = λ z. top-zero z (below_or 0 (degree c at)) }
    where
      top-zero : coefficient c at (degree c at) ≡ pos 0 → (0 < degree c at) ⊎ (degree c at ≤ 0) → degree c at ≡ 0
      top-zero z (inl h) = absurd (omega (arith, zero-top c at none h (ap nat_abs z), sound))
      top-zero z (inr h) = omega arith

-- ---- and no number refuses a sound one
module _ (c : List ℕ) (at : ℕ) (b : Body c at) where
  pub unrefused_polynomial : polynomial_refusal c at ≡ 0
  unrefused_polynomial =
      let w = b.small.whole in
      whole-body c at w.begins w.low w.ends ∙ go (below_or 0 (degree c at))
    where
      go : (0 < degree c at) ⊎ (degree c at ≤ 0) → coefficients_refusal c at ≡ 0
      go (inl h) = sound-coefficients c at (none_large c at b.small) h (λ z. absurd (omega (arith, b.top (abs_zero _ z))))
      go (inr h) = sound_constant c at (none_large c at b.small) h
