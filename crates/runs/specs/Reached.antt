-- What every record holds that calls reach from a start: bounds that a test of a record may ask for.
--
--   InRound r i == what the record r holds in round i + 1
--   Reached s r == what the record r of a run for s polynomials holds in any phase; before the first answer it is as the start left it
use Rattle.std.specs.Prelude.{◌≡◌, ℕ, suc, ◌+◌, ◌*◌, ◌<◌, ◌≤◌, length}
use Rattle.refusals.specs.Limits.{most_points}
use Rattle.signs.specs.Adapted.{adapted}
use Rattle.rounds.specs.Rows.{patterns}
use Rattle.runs.specs.Run.{running, finished, State, start_of}

pub record InRound (r : State) (i : ℕ) : Type 0 where
  pub some_row : 1 ≤ length r.rows
  pub few_rows : length r.rows ≤ most_points
  pub one_each : length r.products ≡ length r.rows
  pub unfinished : length r.answers < 2 * length r.rows
  pub few_points : r.n ≤ most_points
  pub few_asked : r.total ≤ 2 * most_points * suc i
  pub adapted_list : r.products ≡ adapted i (patterns r.rows)

pub record Reached (s : ℕ) (r : State) : Type 0 where
  pub polynomials : r.polynomials ≡ s
  pub in_range : r.round ≤ s
  pub few_asked : r.total ≤ 1 + 2 * most_points * r.round
  pub before_first : r.phase ≡ running → r.round ≡ 0 → r ≡ start_of s
  pub at_round : r.phase ≡ running → (i : ℕ) → r.round ≡ suc i → InRound r i
  pub few_rows : r.phase ≡ finished → length r.rows ≤ most_points
