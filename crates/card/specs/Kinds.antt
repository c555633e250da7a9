-- What differs between the two kinds of card: where byte 0 is 1 the points are on the line (document 01, "The card"), where it is 2 in the
-- plane (document 02, wish 6).
--
--   body_size c at    == how many bytes the body of the polynomial that begins at byte `at` has
--   SoundBody c at   == it is a sound body of its kind
--   LinePoints c at  == n points of the line from byte `at` to the end of the card c, each from −100 to 100, none below the one before it
--   SoundPoints c at == the points, which begin at byte `at`, are sound points of their kind
use Rattle.std.specs.Prelude.{◌≡◌, cond, List, ℕ, suc, ◌+◌, ◌≤◌, ◌<◌, nat_abs, length, ◌≤ℤ◌}
use Rattle.refusals.specs.Limits.{most_point}
use Rattle.layout.specs.Format.{byte, point_count, size, point}
use Rattle.layout.specs.Body.{Body}
use Rattle.plane.specs.Format.{is_plane, plane_size}
use Rattle.plane.specs.Body.{PlaneBody}
use Rattle.plane_checks.specs.Claim.{PlanePoints}

abbrev pub body_size : List ℕ → ℕ → ℕ
body_size c at = cond (is_plane c) (plane_size c at) (size c at)

pub record SoundBody (c : List ℕ) (at : ℕ) : Type 0 where
  pub line : byte c 0 ≡ 1 → Body c at
  pub plane : byte c 0 ≡ 2 → PlaneBody c at

pub record LinePoints (c : List ℕ) (at : ℕ) : Type 0 where
  pub ends : length c ≡ at + point_count c
  pub limits : (k : ℕ) → k < point_count c → nat_abs (point c at k) ≤ most_point
  pub rising : (k : ℕ) → suc k < point_count c → point c at k ≤ℤ point c at (suc k)

pub record SoundPoints (c : List ℕ) (at : ℕ) : Type 0 where
  pub line : byte c 0 ≡ 1 → LinePoints c at
  pub plane : byte c 0 ≡ 2 → PlanePoints c at
