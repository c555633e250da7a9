-- A polynomial of a sound card at a point of the card, by the card's kind.
use mathlib.Core.Path.{◌≡◌, refl, sym, ap, ◌∙◌}
use mathlib.Core.Bool.{true, false}
use mathlib.Core.List.{List}
use Prim.Native.Nat.{ℕ, ◌+◌, ◌*◌, ◌≤◌, ◌<◌}
use native.Mathlib.Omega.{arith}
use lib.IntN.{pos, nat_abs}
use lib.ListN.{length, replicate}
use Rattle.refusals.specs.Limits.{most_coefficient}
use Rattle.integers.specs.Sums.{Within}
use Rattle.polynomials.specs.Values.{evaluate}
use Rattle.layout.specs.Format.{byte, polynomials, point_count, offset, points_at, point_of}
use Rattle.layout.specs.Body.{Whole}
use Rattle.layout.specs.Values.{coefficients, value}
use Rattle.plane.specs.Format.{is_plane, Point, plane_point}
use Rattle.plane.specs.Body.{PlaneBody}
use Rattle.plane.specs.Values.{plane_value}
use Rattle.plane.specs.Contents.{value_at, card_point}
use Rattle.plane.proofs.Contents.{line-value, plane-value, line-point, plane-point}
use Rattle.card.specs.Sound.{Sound}
use Rattle.card.specs.Claim.{Near}
use Rattle.card.proofs.ByKind.{kind-plane, kind-line}
use Rattle.card.proofs.Positions.{offset-place, point-place, point-within, body-place, body-within, line-value-at}
use Rattle.card.proofs.Positions.{plane-point-place, plane-point_near}
use Rattle.card_signs.specs.Coefficients.{line_coefficients}

module _ (c : List ℕ) (S : Sound c) where
  pub some_byte : 1 ≤ length c
  some_byte = omega (arith, offset-place c S 0 (omega arith))

  module _ (j : ℕ) (h : j < polynomials c) where
    -- ---- in the plane
    module _ (t : is_plane c ≡ true) where
      plane : byte c 0 ≡ 2
      plane = kind-plane c t

      pub zeros : replicate 7 (pos 0) ≡ line_coefficients c j
      unfolding line_coefficients
      zeros = rw t refl

      pub plane-body : PlaneBody c (offset c j)
      plane-body = (S.body j h).plane plane

      module _ (k : ℕ) (g : k < point_count c) where
        pub plane-place : points_at c + (2 * k + 1) < length c
        plane-place = plane-point-place c S plane k g

        pub plane_near : Near (plane_point c (points_at c) k)
        plane_near = plane-point_near c S plane k g

        pub plane_at : plane_value c (offset c j) (plane_point c (points_at c) k) ≡ value_at c (offset c j) (card_point c k)
        plane_at = sym (plane-value c plane (offset c j) (card_point c k) ∙ ap (plane_value c (offset c j)) (plane-point c plane k))

    -- ---- on the line
    module _ (t : is_plane c ≡ false) where
      line : byte c 0 ≡ 1
      line = kind-line c S.kind t

      pub taken_off : coefficients c (offset c j) ≡ line_coefficients c j
      unfolding line_coefficients
      taken_off = rw t refl

      pub line-body : Whole c (offset c j)
      line-body = body-place c S line j h

      pub line-within : Within most_coefficient (line_coefficients c j)
      line-within = rw (← taken_off) (body-within c S line j h)

      module _ (k : ℕ) (g : k < point_count c) where
        pub line-place : points_at c + k < length c
        line-place = point-place c S line k g

        pub line_near : nat_abs (point_of c k) ≤ 128
        line_near = point-within c S line k g

        pub line_at : evaluate (line_coefficients c j) (point_of c k) ≡ value_at c (offset c j) (card_point c k)
        line_at =
            rw (← taken_off) (line-value-at c S line j h (point_of c k))
            ∙ sym (line-value c line (offset c j) (card_point c k) ∙ ap (λ (p : Point). value c (offset c j) p.0) (line-point c line k))
