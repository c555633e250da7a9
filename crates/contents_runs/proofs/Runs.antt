-- THEOREM: a run started with the s of contents and answered throughout by their queries ends done, and its rows are the patterns of the
-- points, each once, rising, with its number of points. For points of any type.
use mathlib.Core.Path.{◌≡◌, refl, sym, ap, ◌∙◌, subst, fun_ext}
use mathlib.Core.List.{List, ◌∷◌}
use Prim.Native.Nat.{ℕ, zero, suc, ◌≤◌}
use native.Mathlib.Omega.{arith}
use lib.IntN.{ℤ}
use lib.ListN.{length}
use Rattle.refusals.specs.Limits.{most_points}
use Rattle.signs.specs.Signs.{query}
use Rattle.contents.specs.Contents.{Contents, patterns_in}
use Rattle.contents.proofs.Patterns.{patterns-long, patterns-below, query-patterns}
use Rattle.rounds.specs.Rows.{Oracle, IsRealized}
use Rattle.rounds.specs.RoundEnd.{round_rows}
use Rattle.rounds.proofs.Realized.{realized_true}
use Rattle.runs.specs.Run.{State, finished, start_of, answer_of}
use Rattle.runs.specs.Demand.{Call, answer, state_after}
use Rattle.runs.specs.Truthful.{truthful, onward, enough}
use Rattle.runs.proofs.Truthful.{truthful-done}
use Rattle.contents_runs.specs.Runs.{answered_by, run_on, rows_in}

-- an oracle's truthful answers are those of its query
truthful-answers : (s : ℕ) (E : List ℕ) (k : ℕ) (r : State) (α : ℕ) → truthful round_rows s E k r α ≡ answered_by (query s E) k r α
unfolding truthful answered_by
truthful-answers s E zero r α = refl
truthful-answers s E (suc k) r α =
    let (r', x) = answer_of round_rows r (query s E α) in
    ap (λ (next : ℕ → List Call). answer (query s E α) ∷ onward x next) (fun_ext (truthful-answers s E k r'))

module _ {X : Type 0} (K : Contents X) where
  -- at most 64 points are what an examiner may hold
  pub oracle : length K.points ≤ most_points → Oracle K.s (patterns_in K)
  oracle h = record { held = omega (arith, patterns-long K); below = patterns-below K }

  -- THE THEOREM
  pub contents-done : 1 ≤ K.s → length K.points ≤ most_points → (k : ℕ) → enough K.s ≤ k
      → ((run_on K k).phase ≡ finished) × ((run_on K k).rows ≡ rows_in K)
  contents-done h m k e =
      subst (λ (calls : List Call). let r = state_after round_rows (start_of K.s) calls in (r.phase ≡ finished) × (r.rows ≡ rows_in K))
      (truthful-answers K.s (patterns_in K) k (start_of K.s) 0
      ∙ ap (λ (q : ℕ → ℤ). answered_by q k (start_of K.s) 0) (fun_ext (λ α. sym (query-patterns K α))))
      (truthful-done K.s (patterns_in K) h (oracle m) k e)

  -- those rows in demand 3's own words
  pub contents-rows : IsRealized (patterns_in K) (rows_in K)
  contents-rows = realized_true K.s (patterns_in K) (patterns-below K)
