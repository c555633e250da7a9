-- The bodies of a card, one polynomial at a time.
use mathlib.Core.Path.{◌≡◌, ◌∙◌}
use mathlib.Core.List.{List}
use Prim.Native.Nat.{ℕ, suc, ◌+◌, ◌-◌, ◌≤◌, ◌<◌}
use native.Mathlib.Numerals.{add-one}
use native.Mathlib.Omega.{arith}
use borrow.Author.Tests.{eq-eqb, ne_eqb}
use Rattle.layout.specs.Format.{offset}
use Rattle.card.specs.Kinds.{body_size}
use Rattle.card.specs.Card.{body_refusal, bodies_refusal, end_refusal}
use Rattle.refusals.proofs.Causes.{first_some}

module _ (c : List ℕ) (s j at : ℕ) where
  pub no_more : s ≤ j → bodies_refusal c (s - j) j at ≡ end_refusal c at
  unfolding bodies_refusal
  no_more h = let e : s - j ≡ 0 = omega arith in rw e

  module _ (more : j < s) where
    one_left : s - j ≡ suc (s - (j + 1))
    one_left = omega arith

    pub bad_body : (body_refusal c at ≡ 0 → ⊥) → body_refusal c at ≡ bodies_refusal c (s - j) j at
    unfolding bodies_refusal
    bad_body h = rw one_left (first_some (body_refusal c at) _ h)

    module _ (good : body_refusal c at ≡ 0) where
      pub bad_next : (offset c (j + 1) ≡ at + body_size c at → ⊥) → bodies_refusal c (s - j) j at ≡ 4
      unfolding bodies_refusal
      bad_next h = rw one_left (rw (good, ← add-one j) (simp (ne_eqb (offset c (j + 1)) (at + body_size c at) h)))

      pub good_next : (next : ℕ) → next ≡ at + body_size c at → offset c (j + 1) ≡ next
          → bodies_refusal c (s - j) j at ≡ bodies_refusal c (s - (j + 1)) (j + 1) next
      unfolding bodies_refusal
      good_next next e h =
          rw (one_left, e) (rw (good, ← add-one j) (simp (eq-eqb (offset c (j + 1)) (at + body_size c at) (h ∙ e))))
