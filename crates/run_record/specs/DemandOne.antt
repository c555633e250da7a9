-- DEMAND 1 of the calls on a run: "The answer to every call, with no condition left to the caller, is a result or one number from the
-- refusal table in document 01. .. a run refused for its numbers is closed and yields no rows; all other lent memory holds what it held."
-- It is said of every record, also of one that no call could have left. Which result, or which number, and when, is demand 3.
--
--   StartClaim s c x    == a start for s polynomials hands back the record c and gives the step x: "Where a start refused by 3 hands back a
--                          new record, it is a closed one with no question asked"
--   AnswerClaim c c' x  == an answer to the record c leaves the record c' and gives the step x
--   FetchClaim c x      == a row fetch on the record c gives x
--   CopyClaim c a b x   == a copy of all rows of the record c to slices that hold a and b gives x
--   DemandOne T F C     == every answer, row fetch and copy keeps its claim, T, F and C being what is known of a call
use Rattle.std.specs.Prelude.{◌≡◌, ◌≢◌, List, [], ◌∷◌, ℕ, ◌≤◌, ℤ}
use Rattle.refusals.specs.Numbers.{Among}
use Rattle.runs.specs.Run.{Step, ask, refused, Fetch, no_row, Copy, not_copied}
use Rattle.run_record.specs.declared.Run.{Run}
use Rattle.run_record.specs.Record.{IsClosed}

pub record StartClaim (s : ℕ) (c : Run) (x : Step) : Type 0 where
  pub begins : 1 ≤ s → s ≤ 8 → x ≡ ask 0
  pub refuses : ((1 ≤ s) × (s ≤ 8) → ⊥) → (x ≡ refused 3) × IsClosed c × (c.asked ≡ 0)

pub record AnswerClaim (c c' : Run) (x : Step) : Type 0 where
  pub numbers : (k : ℕ) → x ≡ refused k → Among (7 ∷ 8 ∷ 9 ∷ 10 ∷ []) k
  pub kept : x ≡ refused 7 → c' ≡ c
  pub closes : (k : ℕ) → x ≡ refused k → k ≢ 7 → IsClosed c'

pub record FetchClaim (c : Run) (x : Fetch) : Type 0 where
  pub numbers : (k : ℕ) → x ≡ no_row k → Among (7 ∷ 14 ∷ []) k
  pub no_row_yet : IsClosed c → x ≡ no_row 7

pub record CopyClaim (c : Run) (a b : List ℕ) (x : Copy) : Type 0 where
  pub numbers : (k : ℕ) → x.result ≡ not_copied k → Among (7 ∷ 15 ∷ []) k
  pub kept : (k : ℕ) → x.result ≡ not_copied k → (x.patterns_left ≡ a) × (x.counts_left ≡ b)
  pub no_rows : IsClosed c → x.result ≡ not_copied 7

pub record DemandOne (T : Run → ℤ → Run → Step → Type 2) (F : Run → ℕ → Fetch → Type 2) (C : Run → List ℕ → List ℕ → Copy → Type 2)
    : Type 2 where
  pub answers : (c : Run) (z : ℤ) (c' : Run) (x : Step) → T c z c' x → AnswerClaim c c' x
  pub fetches : (c : Run) (p : ℕ) (x : Fetch) → F c p x → FetchClaim c x
  pub copies : (c : Run) (a b : List ℕ) (x : Copy) → C c a b x → CopyClaim c a b x
