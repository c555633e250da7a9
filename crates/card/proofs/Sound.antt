-- The sound cards are those that no number refuses: `sound` and `unrefused`.
use mathlib.Core.Path.{◌≡◌, sym, subst, ◌∙◌}
use mathlib.Core.Bool.{not}
use mathlib.Core.Logic.{◌⊎◌, ⊎_elim}
use mathlib.Core.List.{List}
use Prim.Native.Nat.{ℕ, zero, suc, ◌+◌, ◌≤◌, ◌<◌}
use native.Mathlib.Omega.{arith}
use borrow.Author.Tests.{eq-eqb}
use lib.Dec.{eqb}
use Rattle.integers.proofs.Tests.{eq_cases}
use Rattle.refusals.specs.Numbers.{◌when◌, ◌▸◌}
use Rattle.refusals.proofs.Causes.{first_none, then_none, holds_not, is_equal}
use Rattle.layout.specs.Format.{polynomials, offset, bodies_at}
use Rattle.card.specs.Kinds.{body_size}
use Rattle.card.specs.Card.{header_refusal, body_refusal, bodies_refusal, end_refusal, refusal}
use Rattle.card.specs.Sound.{Sound}
use Rattle.card.proofs.Header.{Headed, headed, sound-counts, sound-contents}
use Rattle.card.proofs.ByKind.{of_kind, fits, sound-body, unrefused_body, sound-points, unrefused_end}

module _ (c : List ℕ) where
  -- ---- the polynomials from j on
  abbrev At : ℕ → Type 0
  At i = (body_refusal c (offset c i) ≡ 0) × (offset c (suc i) ≡ offset c i + body_size c (offset c i))

  step : (k j : ℕ) → bodies_refusal c (suc k) j (offset c j) ≡ 0
      → (body_refusal c (offset c j) ▸ (4 when not (eqb (offset c (suc j)) (offset c j + body_size c (offset c j)))
      ▸ bodies_refusal c k (suc j) (offset c j + body_size c (offset c j)))) ≡ 0
  unfolding bodies_refusal
  step k j e = e

  step-at : (k j : ℕ) → bodies_refusal c (suc k) j (offset c j) ≡ 0 → At j
  step-at k j e =
      let b = then_none (body_refusal c (offset c j)) _ (step k j e) in (
        first_none _ _ (step k j e),
        is_equal _ _ (holds_not 3 (not (eqb (offset c (suc j)) (offset c j + body_size c (offset c j)))) (first_none _ _ b)),
      )

  step-rest : (k j : ℕ) → bodies_refusal c (suc k) j (offset c j) ≡ 0 → bodies_refusal c k (suc j) (offset c (suc j)) ≡ 0
  step-rest k j e =
      let b = then_none (body_refusal c (offset c j)) _ (step k j e) in
      subst (λ (a : ℕ). bodies_refusal c k (suc j) a ≡ 0) (sym (step-at k j e).1)
      (then_none (4 when not (eqb (offset c (suc j)) (offset c j + body_size c (offset c j)))) _ b)

  each : (k j : ℕ) → bodies_refusal c k j (offset c j) ≡ 0 → (i : ℕ) → j ≤ i → i < j + k → At i
  each zero j e i l h = absurd (omega arith)
  each (suc k) j e i l h =
      ⊎_elim (λ w. subst At w.0 (step-at k j e))
      (λ w. each k (suc j) (step-rest k j e) i (omega (arith, w.0)) (omega arith))
      (eq_cases j i)

  at_last : (k j : ℕ) → bodies_refusal c k j (offset c j) ≡ 0 → end_refusal c (offset c (j + k)) ≡ 0
  unfolding bodies_refusal
  at_last zero j e = let z : j + 0 ≡ j = omega arith in rw z e
  at_last (suc k) j e = let z : j + suc k ≡ suc j + k = omega arith in rw z (at_last k (suc j) (step-rest k j e))

  all : (k j : ℕ) → ((i : ℕ) → j ≤ i → i < j + k → At i) → end_refusal c (offset c (j + k)) ≡ 0 → bodies_refusal c k j (offset c j) ≡ 0
  unfolding bodies_refusal
  all zero j f e = let z : j + 0 ≡ j = omega arith in rw z at e
  all (suc k) j f e =
      let a = f j (omega arith) (omega arith) in
      let z : j + suc k ≡ suc j + k = omega arith in
      let r = all k (suc j) (λ i l h. f i (omega arith) (omega arith)) (rw z at e) in
      rw (a.0, eq-eqb _ _ a.1, ← a.1) r

  -- ---- the whole card
  split : refusal c ≡ 0 → (header_refusal c ▸ bodies_refusal c (polynomials c) 0 (bodies_at c)) ≡ 0
  unfolding refusal
  split e = e

  pub sound_headed : refusal c ≡ 0 → Headed c
  sound_headed e = headed c (first_none _ _ (split e))

  pub sound : refusal c ≡ 0 → Sound c
  sound e =
      let h = sound_headed e in
      let b : bodies_refusal c (polynomials c) 0 (offset c 0) ≡ 0 = rw h.begins (then_none (header_refusal c) _ (split e)) in
      let z : 0 + polynomials c ≡ polynomials c = omega arith in
      let l = rw z at (at_last (polynomials c) 0 b) in
      let a = each (polynomials c) 0 b in
      record {
        kind = h.byte0;
        zero = h.byte3;
        s_least = h.s_least;
        s_most = h.s_most;
        n_most = h.n_most;
        begins = h.begins;
        body = λ j g. sound-body c (offset c j) (a j (omega arith) (omega arith)).0;
        follows = λ j g. (a j (omega arith) (omega arith)).1;
        points = sound-points c (offset c (polynomials c)) l;
      }

  pub unrefused : Sound c → refusal c ≡ 0
  unfolding refusal
  unrefused s =
      let w = fits c (offset c 0) (unrefused_body c (offset c 0) s.kind (s.body 0 s.s_least)) in
      let h : header_refusal c ≡ 0 =
      sound-counts c (omega (arith, w.begins, s.begins)) (of_kind c s.kind) s.zero s.s_least s.s_most s.n_most
      ∙ sound-contents c (omega (arith, w.begins, s.begins)) s.begins in
      let z : 0 + polynomials c ≡ polynomials c = omega arith in
      let l : end_refusal c (offset c (0 + polynomials c)) ≡ 0 = rw z (unrefused_end c (offset c (polynomials c)) s.kind s.points) in
      let r = all (polynomials c) 0
      (λ i g k. (unrefused_body c (offset c i) s.kind (s.body i (omega arith)), s.follows i (omega arith))) l in
      rw h (rw s.begins at r)
