-- Rows, oracles and the realized list (document 01, "The run", and demand 3).
--
--   Row                  == a pattern with its count
--   patterns R, counts R == the rows' patterns, and their counts
--   repeated R           == each pattern as often as its count says
--   rows_with P C         == the rows with the patterns P and the counts C
--   IsRows i R           == rows for P1 .. Pi: patterns rising, counts above 0
--   IsAt R p r           == the row r stands at position p, counted from 0, in R
--   rows_of n c           == the rows of the patterns below n that have a count c above 0, rising
--   restrict i E         == the patterns of P1 .. Pi alone, of points with the patterns E
--   Oracle s E           == E is what an examiner holds: "at most 64 sign patterns, repeats counted", of s polynomials
--   realized s E         == the key of an examiner that holds E: "each pattern number held, once, rising, with how often it is held; it may
--                           be empty"
--   IsRealized E K       == K is the realized list of E, in demand 3's words: "each pattern that occurs, once, in rising order, with its
--                           true count"
--   Fits s E ps zs       == E fits the answers zs to the products ps: "each answer taken is the sum, over the patterns held, repeats
--                           counted, of the sign of the product it answers; with no answer taken, every one fits"
use Rattle.std.specs.Prelude.{◌≡◌, ◌↔◌, List, [], ◌∷◌, ◌++◌, ℕ, zero, suc, ◌%◌, ◌^◌, ◌<◌, ◌≤◌, ℤ, length, replicate}
use Rattle.refusals.specs.Limits.{most_points}
use Rattle.signs.specs.Lists.{times, Below, Rising}
use Rattle.signs.specs.Signs.{query}

-- ---- rows

pub record Row : Type 0 where
  pub pattern : ℕ
  pub count : ℕ

unfoldable pub patterns : List Row → List ℕ
patterns [] = []
patterns (r ∷ R) = r.pattern ∷ patterns R

unfoldable pub counts : List Row → List ℕ
counts [] = []
counts (r ∷ R) = r.count ∷ counts R

unfoldable pub rows_with : List ℕ → List ℕ → List Row
rows_with [] C = []
rows_with (q ∷ P) [] = []
rows_with (q ∷ P) (c ∷ C) = record { pattern = q; count = c } ∷ rows_with P C

unfoldable pub repeated : List Row → List ℕ
repeated [] = []
repeated (r ∷ R) = replicate r.count r.pattern ++ repeated R

unfoldable pub Positive : List Row → Type 0
Positive [] = Unit {0}
Positive (r ∷ R) = (0 < r.count) × Positive R

pub record IsRows (i : ℕ) (R : List Row) : Type 0 where
  pub rising : Rising (patterns R)
  pub below : Below (3 ^ i) (patterns R)
  pub positive : Positive R

pub record IsAt (R : List Row) (p : ℕ) (r : Row) : Type 0 where
  pub before : List Row
  pub after : List Row
  pub splits : R ≡ before ++ (r ∷ after)
  pub position : length before ≡ p

-- the row of one pattern, none where the count is 0
unfoldable pub row_if : ℕ → ℕ → List Row
row_if q zero = []
row_if q (suc k) = record { pattern = q; count = suc k } ∷ []

unfoldable pub rows_of : ℕ → (ℕ → ℕ) → List Row
rows_of zero c = []
rows_of (suc n) c = rows_of n c ++ row_if n (c n)

-- ---- oracles

unfoldable pub restrict : ℕ → List ℕ → List ℕ
restrict i [] = []
restrict i (σ ∷ E) = (σ % 3 ^ i) ∷ restrict i E

pub record Oracle (s : ℕ) (E : List ℕ) : Type 0 where
  pub held : length E ≤ most_points
  pub below : Below (3 ^ s) E

unfoldable pub realized : ℕ → List ℕ → List Row
realized s E = rows_of (3 ^ s) (λ q. times q E)

pub record IsRealized (E : List ℕ) (K : List Row) : Type 0 where
  pub occurs : (q : ℕ) → (0 < times q (patterns K)) ↔ (0 < times q E)
  pub once : (q : ℕ) → times q (patterns K) ≤ 1
  pub rising : Rising (patterns K)
  pub true_count : (p : ℕ) (r : Row) → IsAt K p r → r.count ≡ times r.pattern E

unfoldable pub Fits : ℕ → List ℕ → List ℕ → List ℤ → Type 0
Fits s E ps [] = Unit {0}
Fits s E [] (z ∷ zs) = ⊥
Fits s E (α ∷ ps) (z ∷ zs) = (z ≡ query s E α) × Fits s E ps zs
