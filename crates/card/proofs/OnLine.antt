-- A sound card of points on the line, as one list of facts (document 01, "The card").
--
--   LineSound c == the card c is `Sound`, and its points are on the line
use mathlib.Core.Path.{◌≡◌}
use mathlib.Core.Logic.{inl}
use mathlib.Core.List.{List}
use Prim.Native.Nat.{ℕ, suc, ◌+◌, ◌≤◌, ◌<◌}
use native.Mathlib.Omega.{arith}
use lib.IntN.{nat_abs}
use lib.ListN.{length}
use lib.Signed.{◌≤ℤ◌}
use Rattle.refusals.specs.Limits.{most_polynomials, most_points, most_point}
use Rattle.layout.specs.Format.{byte, polynomials, point_count, offset, bodies_at, size, points_at, point_of}
use Rattle.layout.specs.Body.{Body}
use Rattle.card.specs.Sound.{Sound}
use Rattle.card.proofs.ByKind.{is_line, line-size}

pub record LineSound (c : List ℕ) : Type 0 where
  pub kind : byte c 0 ≡ 1
  pub zero : byte c 3 ≡ 0
  pub s_least : 1 ≤ polynomials c
  pub s_most : polynomials c ≤ most_polynomials
  pub n_most : point_count c ≤ most_points
  pub begins : offset c 0 ≡ bodies_at c
  pub body : (j : ℕ) → j < polynomials c → Body c (offset c j)
  pub follows : (j : ℕ) → j < polynomials c → offset c (suc j) ≡ offset c j + size c (offset c j)
  pub ends : length c ≡ points_at c + point_count c
  pub limits : (k : ℕ) → k < point_count c → nat_abs (point_of c k) ≤ most_point
  pub rising : (k : ℕ) → suc k < point_count c → point_of c k ≤ℤ point_of c (suc k)

module _ (c : List ℕ) where
  pub of_sound : Sound c → byte c 0 ≡ 1 → LineSound c
  of_sound s e =
      record {
        kind = e;
        zero = s.zero;
        s_least = s.s_least;
        s_most = s.s_most;
        n_most = s.n_most;
        begins = s.begins;
        body = λ j h. (s.body j h).line e;
        follows = λ j h. omega (arith, s.follows j h, line-size c (offset c j) (is_line c e));
        ends = (s.points.line e).ends;
        limits = (s.points.line e).limits;
        rising = (s.points.line e).rising;
      }

  pub to_sound : LineSound c → Sound c
  to_sound s =
      record {
        kind = inl s.kind;
        zero = s.zero;
        s_least = s.s_least;
        s_most = s.s_most;
        n_most = s.n_most;
        begins = s.begins;
        body = λ j h. record { line = λ e. s.body j h; plane = λ e. absurd (omega (arith, s.kind)) };
        follows = λ j h. omega (arith, s.follows j h, line-size c (offset c j) (is_line c s.kind));
        points =
            record {
              line = λ e. record { ends = s.ends; limits = s.limits; rising = s.rising };
              plane = λ e. absurd (omega (arith, s.kind));
            };
      }
