-- What a sound card is, in the words of document 01, "The card", and of document 02's wish 6, by `Kinds`. A law says that the sound cards
-- are those that no number refuses.
--
--   Sound c == header, contents, bodies without gaps, and points up to the end of the card
use Rattle.std.specs.Prelude.{◌≡◌, ◌⊎◌, List, ℕ, suc, ◌+◌, ◌≤◌, ◌<◌}
use Rattle.layout.specs.Format.{byte, polynomials, point_count, offset, bodies_at, points_at}
use Rattle.refusals.specs.Limits.{most_polynomials, most_points}
use Rattle.card.specs.Kinds.{body_size, SoundBody, SoundPoints}

pub record Sound (c : List ℕ) : Type 0 where
  pub kind : (byte c 0 ≡ 1) ⊎ (byte c 0 ≡ 2)
  pub zero : byte c 3 ≡ 0
  pub s_least : 1 ≤ polynomials c
  pub s_most : polynomials c ≤ most_polynomials
  pub n_most : point_count c ≤ most_points
  pub begins : offset c 0 ≡ bodies_at c
  pub body : (j : ℕ) → j < polynomials c → SoundBody c (offset c j)
  pub follows : (j : ℕ) → j < polynomials c → offset c (suc j) ≡ offset c j + body_size c (offset c j)
  pub points : SoundPoints c (points_at c)
