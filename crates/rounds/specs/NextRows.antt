-- What the end of a round must give, from the rows before it and the round's own answers.
--
--   NextRows i R₀ ws R == R are the rows after round i + 1: they split the counts of R₀ by the sign of P(i+1), and give the round's answers
--                         ws
--   RightRows N        == N gives the rows of `NextRows` where there are some, and none where there are none (10), on rows of at most 64
--                         points
use Rattle.std.specs.Prelude.{◌≡◌, List, ℕ, suc, ◌+◌, ◌*◌, ◌^◌, ◌<◌, ◌≤◌, ℤ, length}
use Rattle.std.proofs.Math.Option.{Option, some, none}
use Rattle.refusals.specs.Limits.{most_points}
use Rattle.signs.specs.Lists.{times}
use Rattle.rounds.specs.Rows.{Row, patterns, repeated, IsRows, Fits}
use Rattle.rounds.specs.Rounds.{round_of}

pub record NextRows (i : ℕ) (R₀ : List Row) (ws : List ℤ) (R : List Row) : Type 0 where
  pub rows : IsRows (suc i) R
  pub sums : (q : ℕ) → q < 3 ^ i
      → times q (repeated R) + times (q + 3 ^ i) (repeated R) + times (q + 2 * 3 ^ i) (repeated R) ≡ times q (repeated R₀)
  pub give : Fits (suc i) (repeated R) (round_of i (patterns R₀)) ws

pub record RightRows (N : ℕ → List Row → List ℤ → Option (List Row)) : Type 0 where
  pub found : (i : ℕ) (R₀ : List Row) (ws : List ℤ) (R : List Row) → IsRows i R₀ → length (repeated R₀) ≤ most_points
      → length ws ≡ length (round_of i (patterns R₀)) → N i R₀ ws ≡ some R → NextRows i R₀ ws R
  pub missing : (i : ℕ) (R₀ : List Row) (ws : List ℤ) (R : List Row) → IsRows i R₀ → length (repeated R₀) ≤ most_points
      → length ws ≡ length (round_of i (patterns R₀)) → N i R₀ ws ≡ none → NextRows i R₀ ws R → ⊥
