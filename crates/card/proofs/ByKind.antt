-- The two kinds of card, by byte 0: what each gives.
--
--   other c   == byte 0 of the card c is neither 1 nor 2
--   Kind c    == it is one of them
--   Fits c at == the body that begins at byte `at` lies on the card c
use mathlib.Core.Path.{◌≡◌, refl, sym, ◌∙◌}
use mathlib.Core.Bool.{Bool, true, false, not, ◌||◌}
use mathlib.Core.Logic.{◌⊎◌, inl, inr}
use mathlib.Core.List.{List}
use Prim.Native.Nat.{ℕ, ◌+◌, ◌≤◌, ◌<◌}
use native.Mathlib.Omega.{arith}
use borrow.Author.Tests.{eq-eqb, ne_eqb, eqb-true}
use lib.Dec.{eqb}
use lib.ListN.{length}
use Rattle.layout.specs.Format.{byte, size}
use Rattle.plane.specs.Format.{is_plane, plane_size}
use Rattle.plane_checks.specs.Checks.{plane_refusal, plane_points_refusal}
use Rattle.plane_checks.proofs.Refuses.{refuses, points_refuse}
use Rattle.card.specs.Kinds.{body_size, SoundBody, SoundPoints}
use Rattle.card.specs.Card.{polynomial_refusal, points_refusal, body_refusal, end_refusal}
use Rattle.card.proofs.Polynomial.{whole, body, unrefused_polynomial}
use Rattle.card.proofs.Points.{line-points, unrefused_points}

abbrev pub other : List ℕ → Bool
other c = not (eqb (byte c 0) 1 || is_plane c)

abbrev pub Kind : List ℕ → Type 0
Kind c = (byte c 0 ≡ 1) ⊎ (byte c 0 ≡ 2)

pub kind_of : (b : ℕ) → not (eqb b 1 || eqb b 2) ≡ false → (b ≡ 1) ⊎ (b ≡ 2)
kind_of b h = go (eqb b 1) (eqb b 2) refl refl h
  where
    go : (s t : Bool) → eqb b 1 ≡ s → eqb b 2 ≡ t → not (s || t) ≡ false → (b ≡ 1) ⊎ (b ≡ 2)
    go true t e f h = inl (eqb-true b 1 e)
    go false true e f h = inr (eqb-true b 2 f)
    go false false e f h = absurd (let x : ◌≡◌ {A = ℕ} 0 1 = cc in omega arith)

module _ (c : List ℕ) where
  pub of_kind : Kind c → other c ≡ false
  of_kind (inl e) = rw (eq-eqb (byte c 0) 1 e) refl
  of_kind (inr e) = rw e refl

  pub is_plane_lem : byte c 0 ≡ 2 → is_plane c ≡ true
  is_plane_lem e = eq-eqb (byte c 0) 2 e

  pub not_plane : (byte c 0 ≡ 2 → ⊥) → is_plane c ≡ false
  not_plane h = ne_eqb (byte c 0) 2 h

  pub is_line : byte c 0 ≡ 1 → is_plane c ≡ false
  is_line e = not_plane (λ z. omega arith)

  pub kind-plane : is_plane c ≡ true → byte c 0 ≡ 2
  kind-plane e = eqb-true (byte c 0) 2 e

  pub kind-line : Kind c → is_plane c ≡ false → byte c 0 ≡ 1
  kind-line (inl h) e = h
  kind-line (inr h) e = absurd (let x : true ≡ false = sym (is_plane_lem h) ∙ e in let y : ◌≡◌ {A = ℕ} 0 1 = cc in omega arith)

  module _ (at : ℕ) where
    -- ---- in the plane
    module _ (e : is_plane c ≡ true) where
      pub plane-size : body_size c at ≡ plane_size c at
      plane-size = rw e refl

      pub plane-body : body_refusal c at ≡ plane_refusal c at
      plane-body = rw e refl

      pub plane_end : end_refusal c at ≡ plane_points_refusal c at
      plane_end = rw e refl

    -- ---- on the line
    module _ (e : is_plane c ≡ false) where
      pub line-size : body_size c at ≡ size c at
      line-size = rw e refl

      pub line-body : body_refusal c at ≡ polynomial_refusal c at
      line-body = rw e refl

      pub line_end : end_refusal c at ≡ points_refusal c at
      line_end = rw e refl

-- ---- a body that no number refuses, and a sound one

pub record Fits (c : List ℕ) (at : ℕ) : Type 0 where
  pub begins : at < length c
  pub ends : at + body_size c at ≤ length c

module _ (c : List ℕ) (at : ℕ) where
  pub fits : body_refusal c at ≡ 0 → Fits c at
  fits e = go (is_plane c) refl
    where
      go : (t : Bool) → is_plane c ≡ t → Fits c at
      go true h =
          let w = ((refuses c at).is_0.0 (sym (plane-body c at h) ∙ e)).terms.whole in
          record { begins = w.begins; ends = omega (arith, plane-size c at h, w.ends) }
      go false h =
          let w = whole c at (sym (line-body c at h) ∙ e) in
          record { begins = w.begins; ends = omega (arith, line-size c at h, w.ends) }

  pub sound-body : body_refusal c at ≡ 0 → SoundBody c at
  sound-body e =
      record {
        line = λ h. body c at (sym (line-body c at (is_line c h)) ∙ e);
        plane = λ h. (refuses c at).is_0.0 (sym (plane-body c at (is_plane_lem c h)) ∙ e);
      }

  pub unrefused_body : Kind c → SoundBody c at → body_refusal c at ≡ 0
  unrefused_body (inl h) b = line-body c at (is_line c h) ∙ unrefused_polynomial c at (b.line h)
  unrefused_body (inr h) b = plane-body c at (is_plane_lem c h) ∙ (refuses c at).is_0.1 (b.plane h)

  pub sound-points : end_refusal c at ≡ 0 → SoundPoints c at
  sound-points e =
      record {
        line = λ h. line-points c at (sym (line_end c at (is_line c h)) ∙ e);
        plane = λ h. (points_refuse c at).is_0.0 (sym (plane_end c at (is_plane_lem c h)) ∙ e);
      }

  pub unrefused_end : Kind c → SoundPoints c at → end_refusal c at ≡ 0
  unrefused_end (inl h) p = line_end c at (is_line c h) ∙ unrefused_points c at (p.line h)
  unrefused_end (inr h) p = plane_end c at (is_plane_lem c h) ∙ (points_refuse c at).is_0.1 (p.plane h)
