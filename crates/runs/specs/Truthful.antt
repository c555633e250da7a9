-- The run of an oracle that "truthfully answers each product asked" (demand 3).
--
--   truthful N s E k r α == the answers of the oracle E from the record r, which has asked the product α: k of them, or fewer where a step
--                           asks nothing more
--   enough s             == 128 s + 1, as many answers as any run takes
--   TruthfulRuns N       == each oracle's run ends done, and the record has the realized list
use Rattle.std.specs.Prelude.{◌≡◌, List, [], ◌∷◌, ℕ, zero, suc, ◌*◌, ◌≤◌, ℤ}
use Rattle.std.proofs.Math.Option.{Option}
use Rattle.refusals.specs.Limits.{most_points}
use Rattle.signs.specs.Signs.{query}
use Rattle.rounds.specs.Rows.{Row, Oracle, realized}
use Rattle.runs.specs.Run.{Step, ask, done, refused, finished, State, start_of, answer_of}
use Rattle.runs.specs.Demand.{Call, answer, state_after}

-- where a step asks a product, the calls that follow
abbrev pub onward : Step → (ℕ → List Call) → List Call
onward (ask α) next = next α
onward done next = []
onward (refused n) next = []

unfoldable pub truthful : (ℕ → List Row → List ℤ → Option (List Row)) → ℕ → List ℕ → ℕ → State → ℕ → List Call
truthful N s E zero r α = []
truthful N s E (suc k) r α =
    answer (query s E α) ∷ onward (answer_of N r (query s E α)).1 (truthful N s E k (answer_of N r (query s E α)).0)

abbrev pub enough : ℕ → ℕ
enough s = suc (2 * most_points * s)

abbrev pub TruthfulRuns : (ℕ → List Row → List ℤ → Option (List Row)) → Type 0
TruthfulRuns N =
    (s : ℕ) (E : List ℕ) → 1 ≤ s → Oracle s E → (k : ℕ) → enough s ≤ k
    → ((state_after N (start_of s) (truthful N s E k (start_of s) 0)).phase ≡ finished)
    × ((state_after N (start_of s) (truthful N s E k (start_of s) 0)).rows ≡ realized s E)
