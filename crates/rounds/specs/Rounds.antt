-- Rounds, rows and counts "as the answers give them above, not as the record holds them" (document 01, "The run").
-- In all of them zs are answers and ps the products they answer, in order. Where document 01 says round i, here stands i + 1.
--
--   round_of i L            == the products of round i + 1 after rows with the patterns L: "every a in A with 3^(i−1) added, in order, then
--                             every a with 2 × 3^(i−1) added", A being the adapted list of L
--   Counts i R₀ ps zs R    == R are the rows of round i + 1 after the rows R₀: "the counts are the whole numbers, 0 or more, on those rows
--                             each extended by the three signs of Pi, that give every answer so far"; "The rows for P1 .. Pi are those with
--                             a count above 0"
--   Answered i After zs ps == round i + 1 has just ended: all its products are answered, after rounds 0 .. i, of whose rows After speaks
--   Determined i zs ps R   == rounds 0 .. i have just ended, and the answers give the rows R; "Round 0 asks product 0 and gets n"
--   Past i zs              == rounds 0 .. i have ended with a first part of the answers zs; in it the rows, and the products asked until
--                             then
--   RowsAfter i zs k       == after round i there are k rows
--   AtEnd i zs ps          == round i has just ended, whether or not counts give its answers: "A round has ended once those before it have
--                             and all its products are answered"
--   LastEnded s zs         == the last round has ended with a first part of the answers zs: "the last round is s, or 0 where the first
--                             answer is 0"
--   InOrder s zs ps        == the products ps asked are "always the next of the rounds' products in the order given for them": those of the
--                             rounds that have ended, and of the next round the first ones
use Rattle.std.specs.Prelude.{◌≡◌, ◌⊎◌, List, [], ◌∷◌, ◌++◌, ℕ, zero, suc, ◌+◌, ◌*◌, ◌^◌, ◌%◌, ◌<◌, ◌≤◌, ℤ, pos, length, take}
use Rattle.refusals.specs.Limits.{most_points}
use Rattle.signs.specs.Lists.{times, shift}
use Rattle.signs.specs.Adapted.{adapted}
use Rattle.rounds.specs.Rows.{Row, patterns, repeated, IsRows, row_if, Fits}

unfoldable pub round_of : ℕ → List ℕ → List ℕ
round_of i L = shift (3 ^ i) (adapted i L) ++ shift (2 * 3 ^ i) (adapted i L)

-- ---- rows

pub record Counts (i : ℕ) (R₀ : List Row) (ps : List ℕ) (zs : List ℤ) (R : List Row) : Type 0 where
  pub rows : IsRows (suc i) R
  pub extend : (q : ℕ) → 0 < times q (patterns R) → 0 < times (q % 3 ^ i) (patterns R₀)
  pub give : Fits (suc i) (repeated R) ps zs

pub record Answered (i : ℕ) (After : List ℤ → List ℕ → List Row → Type 0) (zs : List ℤ) (ps : List ℕ) : Type 0 where
  pub before : List ℤ
  pub now : List ℤ
  pub asked : List ℕ
  pub rows : List Row
  pub after : After before asked rows
  pub answers : zs ≡ before ++ now
  pub products : ps ≡ asked ++ round_of i (patterns rows)
  pub all : length now ≡ length (round_of i (patterns rows))

unfoldable pub Determined : ℕ → List ℤ → List ℕ → List Row → Type 0
Determined zero zs ps R = (n : ℕ) × (n ≤ most_points) × (zs ≡ pos n ∷ []) × (ps ≡ 0 ∷ []) × (R ≡ row_if 0 n)
Determined (suc i) zs ps R = (a : Answered i (Determined i) zs ps) × Counts i a.rows ps zs R

-- rounds 0 .. i have ended, whatever came after
pub record Past (i : ℕ) (zs : List ℤ) : Type 0 where
  pub before : List ℤ
  pub now : List ℤ
  pub asked : List ℕ
  pub rows : List Row
  pub determined : Determined i before asked rows
  pub answers : zs ≡ before ++ now

abbrev pub RowsAfter : ℕ → List ℤ → ℕ → Type 0
RowsAfter i zs k = (a : Past i zs) × (length a.rows ≡ k)

-- ---- ends of rounds

unfoldable pub AtEnd : ℕ → List ℤ → List ℕ → Type 0
AtEnd zero zs ps = ((z : ℤ) × (zs ≡ z ∷ [])) × (ps ≡ 0 ∷ [])
AtEnd (suc i) zs ps = Answered i (Determined i) zs ps

unfoldable pub LastEnded : ℕ → List ℤ → Type 0
LastEnded s zs = (k : ℕ) × ((take k zs ≡ pos 0 ∷ []) ⊎ ((ps : List ℕ) × AtEnd s (take k zs) ps))

-- ---- the order of the products

unfoldable pub InOrder : ℕ → List ℤ → List ℕ → Type 0
InOrder s zs ps =
    (ps ≡ 0 ∷ []) ⊎ ((i : ℕ) × (i < s) × (a : Past i zs) × (more : ℕ) × (ps ≡ a.asked ++ take more (round_of i (patterns a.rows))))
