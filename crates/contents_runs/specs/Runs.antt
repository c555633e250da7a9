-- The run on contents (document 01, "The run"): started with their s and answered throughout by their queries.
--
--   answered_by q k r α == from the record r, which has asked the product α: the answers q to the products asked, k of them, or fewer where
--                         a step asks nothing more
--   run_on K k          == the record of the run on the contents K after k answers, or fewer
--   rows_in K           == the patterns of the points of K, each once, rising, with its number of points
use Rattle.std.specs.Prelude.{List, [], ◌∷◌, ℕ, zero, suc, ℤ}
use Rattle.contents.specs.Contents.{Contents, query_in, patterns_in}
use Rattle.rounds.specs.Rows.{Row, realized}
use Rattle.rounds.specs.RoundEnd.{round_rows}
use Rattle.runs.specs.Run.{State, start_of, answer_of}
use Rattle.runs.specs.Demand.{Call, answer, state_after}
use Rattle.runs.specs.Truthful.{onward}

unfoldable pub answered_by : (ℕ → ℤ) → ℕ → State → ℕ → List Call
answered_by q zero r α = []
answered_by q (suc k) r α = answer (q α) ∷ onward (answer_of round_rows r (q α)).1 (answered_by q k (answer_of round_rows r (q α)).0)

module _ {X : Type 0} where
  abbrev pub run_on : Contents X → ℕ → State
  run_on K k = state_after round_rows (start_of K.s) (answered_by (query_in K) k (start_of K.s) 0)

  abbrev pub rows_in : Contents X → List Row
  rows_in K = realized K.s (patterns_in K)
