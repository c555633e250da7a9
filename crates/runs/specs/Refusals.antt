-- The lines of document 01's table "Cause, and what the caller gets" that concern a run, for every record, also one that no call could have
-- left: "Each number is given for its cause and no other."
--
--   OutOfFirst z == z is no first answer: below 0 or above 64
--   Shut r r'    == r' is r closed: it has one more question and no rows
--   Refusals N   == the numbers of an answer (7, 8, 9, 10), of a row fetch (7, 14) and of a copy of all rows (7, 15), each with its cause,
--                   that there is no other, and what is left as it was
use Rattle.std.specs.Prelude.{◌≡◌, ◌≢◌, ◌⊎◌, ◌↔◌, List, [], ◌∷◌, ◌++◌, ℕ, suc, ◌*◌, ◌<◌, ◌≤◌, ℤ, pos, nat_abs, length}
use Rattle.std.proofs.Math.Option.{Option, none}
use Rattle.refusals.specs.Limits.{most_points}
use Rattle.rounds.specs.Rows.{Row}
use Rattle.runs.specs.Run.{Step, refused, Fetch, no_row, Copied, not_copied, Phase, running, finished, closed, State, answer_of, fetch_of}
use Rattle.runs.specs.Run.{copy_of}

abbrev pub OutOfFirst : ℤ → Type 0
OutOfFirst z = (n : ℕ) → n ≤ most_points → z ≢ pos n

abbrev pub Shut : State → State → Type 0
Shut r r' = (r'.phase ≡ closed) × (r'.rows ≡ []) × (r'.total ≡ suc r.total)

pub record Refusals (N : ℕ → List Row → List ℤ → Option (List Row)) : Type 0 where
  -- "an answer after done or closed": 7, and the record as it was
  pub answer_7 : (r : State) (z : ℤ) → ((answer_of N r z).1 ≡ refused 7) ↔ (r.phase ≢ running)
  pub as_it_was : (r : State) (z : ℤ) → r.phase ≢ running → (answer_of N r z).0 ≡ r
  -- "first answer below 0 or above 64": 8
  pub answer_8 : (r : State) (z : ℤ) → ((answer_of N r z).1 ≡ refused 8) ↔ ((r.phase ≡ running) × (r.round ≡ 0) × OutOfFirst z)
  -- "a later answer outside −n .. n": 9
  pub answer_9 : (r : State) (z : ℤ) → ((answer_of N r z).1 ≡ refused 9) ↔ ((r.phase ≡ running) × (0 < r.round) × (r.n < nat_abs z))
  -- "a round's answers fit no counts": 10, at the round's last answer
  pub answer_10 : (r : State) (z : ℤ) → ((answer_of N r z).1 ≡ refused 10)
      ↔ ((r.phase ≡ running) × (i : ℕ) × (r.round ≡ suc i) × (nat_abs z ≤ r.n) × (2 * length r.products ≤ suc (length r.answers))
      × (N i r.rows (r.answers ++ (z ∷ [])) ≡ none))
  -- "record closes", and there is no other number
  pub closes : (r : State) (z : ℤ) (k : ℕ) → (answer_of N r z).1 ≡ refused k → k ≢ 7
      → ((k ≡ 8) ⊎ ((k ≡ 9) ⊎ (k ≡ 10))) × Shut r (answer_of N r z).0
  -- "rows wanted before done or after closed": 7; "row position past the last": 14
  pub fetch_7 : (r : State) (p : ℕ) → (fetch_of r p ≡ no_row 7) ↔ (r.phase ≢ finished)
  pub fetch_14 : (r : State) (p : ℕ) → (fetch_of r p ≡ no_row 14) ↔ ((r.phase ≡ finished) × (length r.rows ≤ p))
  pub fetch_other : (r : State) (p k : ℕ) → fetch_of r p ≡ no_row k → (k ≡ 7) ⊎ (k ≡ 14)
  -- the same 7 for a copy; "an output slice too short": 15
  pub copy_7 : (r : State) (a b : List ℕ) → ((copy_of r a b).result ≡ not_copied 7) ↔ (r.phase ≢ finished)
  pub copy_15 : (r : State) (a b : List ℕ) → ((copy_of r a b).result ≡ not_copied 15)
      ↔ ((r.phase ≡ finished) × ((length a < length r.rows) ⊎ (length b < length r.rows)))
  pub copy_other : (r : State) (a b : List ℕ) (k : ℕ) → (copy_of r a b).result ≡ not_copied k → (k ≡ 7) ⊎ (k ≡ 15)
  -- "every output slice" as it was
  pub slices_kept : (r : State) (a b : List ℕ) (k : ℕ) → (copy_of r a b).result ≡ not_copied k
      → ((copy_of r a b).patterns_left ≡ a) × ((copy_of r a b).counts_left ≡ b)
