-- The rules of a run (document 01, "The run"): what its record holds, and what the start, an answer, a row fetch and a copy of all rows
-- give. How a round's rows are found is a parameter N, so that demand 3 rests on `RightRows` of it alone.
--
--   Step               == what an answer gives: "the next product to ask, done, or closed with a refusal number"; 7 after done or closed
--   Fetch              == what a row fetch gives: a row, or a refusal number
--   Copy               == what a copy of all rows gives: how many rows, or a refusal number; and the two lent slices as they are left
--   State              == the run record
--   new_in f s          == a record for s polynomials in the phase f that has asked nothing
--   after_answer        == the record after an answer that is taken, from its parts
--   start_of s          == the record of a run for s polynomials before the first answer
--   limit_of r          == the n of "a later answer outside −n .. n"
--   round_product i A k == the k-th product of round i + 1, A being the adapted list of the rows before it
--   answer_of N r z     == the record after the answer z, and the step
--   fetch_of r p        == the row at position p
--   copy_of r a b       == all rows copied to the slices a (patterns) and b (counts)
use Rattle.std.specs.Prelude.{Bool, true, false, cond, List, [], ◌∷◌, ◌++◌, map, ℕ, zero, suc, ◌+◌, ◌*◌, ◌-◌, ◌^◌, eqb, leb, ltb, ℤ, pos}
use Rattle.std.specs.Prelude.{negsuc, nat_abs, length, get_or, drop}
use Rattle.std.proofs.Math.Option.{Option, some, none}
use Rattle.refusals.specs.Numbers.{late, bad_first, bad_later, no_counts, past_last, too_short}
use Rattle.refusals.specs.Limits.{most_points}
use Rattle.rounds.specs.Rows.{Row, patterns, row_if}
use Rattle.signs.specs.Adapted.{adapted}

-- ---- what a call gives

pub data Step : Type 0 where
  ask : ℕ → Step
  done : Step
  refused : ℕ → Step

pub data Fetch : Type 0 where
  row : Row → Fetch
  no_row : ℕ → Fetch

pub data Copied : Type 0 where
  copied : ℕ → Copied
  not_copied : ℕ → Copied

pub record Copy : Type 0 where
  pub result : Copied
  pub patterns_left : List ℕ
  pub counts_left : List ℕ

-- ---- the record

pub data Phase : Type 0 where
  running finished closed : Phase

pub record State : Type 0 where
  pub polynomials : ℕ
  pub total : ℕ  -- questions asked
  pub phase : Phase
  pub round : ℕ  -- the round whose products are being asked
  pub n : ℕ  -- the first answer
  pub rows : List Row  -- those of the rounds that have ended
  pub products : List ℕ  -- their adapted list, while the run goes on
  pub answers : List ℤ  -- those of this round so far

-- a record before any answer
abbrev pub new_in : Phase → ℕ → State
new_in f s = record { polynomials = s; total = 0; phase = f; round = 0; n = 0; rows = []; products = []; answers = [] }

-- the record r after an answer that is taken: one question more, in the phase f and the round i, with the first answer n, the rows R, their
-- adapted list A and the round's answers ws
abbrev pub after_answer : State → Phase → ℕ → ℕ → List Row → List ℕ → List ℤ → State
after_answer r f i n R A ws =
    record { polynomials = r.polynomials; total = suc r.total; phase = f; round = i; n = n; rows = R; products = A; answers = ws }

abbrev pub start_of : ℕ → State
start_of s = new_in running s

-- ---- an answer

-- the bound of an answer after the first
abbrev pub limit_of : State → ℕ
limit_of r = r.n

-- the k-th product of round i + 1, from 0, where A is the rows' adapted list: "every a in A with 3^i added, in order, then every a with 2 ×
-- 3^i added"
unfoldable pub round_product : ℕ → List ℕ → ℕ → ℕ
round_product i A k = cond (ltb k (length A)) (get_or A k 0 + 3 ^ i) (get_or A (k - length A) 0 + 2 * 3 ^ i)

module _ (N : ℕ → List Row → List ℤ → Option (List Row)) where
  -- the record closed: no rows
  abbrev pub close : State → ℕ → State × Step
  close r k = (after_answer r closed r.round r.n [] [] [], refused k)

  -- round i has ended with rows R, the first answer being n: the run is done, or the next round begins
  abbrev pub ended : State → ℕ → ℕ → List Row → Bool → State × Step
  ended r i n R true = (after_answer r finished i n R [] [], done)
  ended r i n R false = let A = adapted i (patterns R) in (after_answer r running (suc i) n R A [], ask (round_product i A 0))

  abbrev pub end_round : State → ℕ → Option (List Row) → State × Step
  end_round r i none = close r no_counts
  end_round r i (some R) = ended r (suc i) r.n R (eqb (suc i) r.polynomials)

  -- round i + 1 has the answers ws so far: it goes on, or it ends
  abbrev pub round_step : State → ℕ → List ℤ → Bool → State × Step
  round_step r i ws true = (after_answer r running (suc i) r.n r.rows r.products ws, ask (round_product i r.products (length ws)))
  round_step r i ws false = end_round r i (N i r.rows ws)

  -- the answer of round 0, and one of round i + 1
  abbrev pub first_answer : State → ℤ → State × Step
  first_answer r (pos n) = cond (leb n most_points) (ended r 0 n (row_if 0 n) (eqb n 0)) (close r bad_first)
  first_answer r (negsuc n) = close r bad_first

  abbrev pub later_answer : State → ℕ → ℤ → State × Step
  later_answer r i z =
      cond (leb (nat_abs z) (limit_of r))
      (round_step r i (r.answers ++ (z ∷ [])) (ltb (length (r.answers ++ (z ∷ []))) (2 * length r.products)))
      (close r bad_later)

  abbrev pub in_round : State → ℕ → ℤ → State × Step
  in_round r zero z = first_answer r z
  in_round r (suc i) z = later_answer r i z

  abbrev pub in_phase : State → Phase → ℤ → State × Step
  in_phase r running z = in_round r r.round z
  in_phase r finished z = (r, refused late)
  in_phase r closed z = (r, refused late)

  unfoldable pub answer_of : State → ℤ → State × Step
  answer_of r z = in_phase r r.phase z

-- ---- rows

unfoldable pub fetch_rule : Phase → List Row → ℕ → Fetch
fetch_rule running R p = no_row late
fetch_rule finished R p = cond (ltb p (length R)) (row (get_or R p (record { pattern = 0; count = 0 }))) (no_row past_last)
fetch_rule closed R p = no_row late

unfoldable pub fetch_of : State → ℕ → Fetch
fetch_of r p = fetch_rule r.phase r.rows p

abbrev pub kept : ℕ → List ℕ → List ℕ → Copy
kept k a b = record { result = not_copied k; patterns_left = a; counts_left = b }

unfoldable pub copy_rule : Phase → List Row → List ℕ → List ℕ → Copy
copy_rule running R a b = kept late a b
copy_rule finished R a b =
    cond (leb (length R) (length a))
    (cond (leb (length R) (length b))
    (record {
      result = copied (length R);
      patterns_left = map (λ r. r.pattern) R ++ drop (length R) a;
      counts_left = map (λ r. r.count) R ++ drop (length R) b;
    })
    (kept too_short a b))
    (kept too_short a b)
copy_rule closed R a b = kept late a b

unfoldable pub copy_of : State → List ℕ → List ℕ → Copy
copy_of r a b = copy_rule r.phase r.rows a b
