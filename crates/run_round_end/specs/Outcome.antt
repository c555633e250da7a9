-- What a call that ends a round leaves.
--
--   Left o r P' C'         == the rows o after the round, or that there are none: their number r, their patterns and their counts
--   Ended i P C ws r P' C' == the rows after round i + 1, or that there are none, from the rows before it, in two lists P and C, and the
--                             round's answers ws
use Rattle.std.specs.Prelude.{◌≡◌, List, ℕ, ℤ, Option, Some, None, length, take}
use Rattle.std.proofs.Math.Option.{Option as MaybeRows, some, none}
use Rattle.rounds.specs.Rows.{Row, patterns, counts, rows_with}
use Rattle.rounds.specs.RoundEnd.{round_rows}

-- the new rows stand at the front of the two slices
abbrev pub Left : MaybeRows (List Row) → Option ℕ → List ℕ → List ℕ → Type 0
Left none r P' C' = r ≡ None
Left (some R) r P' C' = (r ≡ Some (length R)) × (take (length R) P' ≡ patterns R) × (take (length R) C' ≡ counts R)

abbrev pub Ended : ℕ → List ℕ → List ℕ → List ℤ → Option ℕ → List ℕ → List ℕ → Type 0
Ended i P C ws r P' C' = Left (round_rows i (rows_with P C) ws) r P' C'
