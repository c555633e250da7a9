-- Each distinct point of a card counts once in every query (document 02, wish 7), in words of its own: not by the list of points that the
-- contents have, but for every list that has each point of the card once and no other. And what stays as it was where points were counted
-- as often as they stand: patterns, products and the number of questions. That the calls keep it, known by their contracts alone, is
-- proofs/Calls.antt.
--
--   Named c l        == the list l has each point that the card c names once, and no other point
--   on c l           == the polynomials of the card c on the points l
--   Counted c α o l  == of the answer o to a query of the product α on the card c: the panel shows the sum over the points l of the
--                       product's sign, and o tells at how many of them it is positive, negative and 0
--   CountsOnce c α o == this holds of each list that names the points of c once; the three counts add up to how many it has, and the panel
--                       shows that number of product 0. Where the points of c all differ, it holds of the points as they stand
--   step_at ps k      == the step after k answers of a run that asks the products ps one after the other, and is then done
--   Unchanged c      == the patterns of the rows, and the questions, of the card c are those with each point counted as often as it stands
use Rattle.std.specs.Prelude.{◌≡◌, List, [], ◌∷◌, ℕ, zero, suc, ◌^◌, ◌<◌, pos, Result, Ok, length}
use Rattle.sign_counts.specs.Counts.{in_all}
use Rattle.sign_counts.specs.declared.SignCounts.{SignCounts}
use Rattle.contents.specs.Contents.{Contents, query_in, patterns_in}
use Rattle.contents.specs.Counts.{counts_in}
use Rattle.contents.specs.Distinct.{NoneTwice, EachOnce, on_points}
use Rattle.layout.specs.Format.{polynomials}
use Rattle.plane.specs.Format.{Point}
use Rattle.plane.specs.Contents.{standing_of, contents_of}
use Rattle.card.specs.Claim.{CardGives}
use Rattle.query.specs.Claim.{number, refused, shown_of}
use Rattle.refusals.specs.Refusals.{refusing}
use Rattle.refusals.specs.declared.Refusal.{Refusal}
use Rattle.rounds.specs.Rows.{patterns}
use Rattle.runs.specs.Run.{Step, ask, done}
use Rattle.contents_runs.specs.Runs.{rows_in}
use Rattle.printout.specs.Printout.{questions}

-- ---- queries

abbrev pub Named : List ℕ → List Point → Type 0
Named c l = EachOnce (standing_of c).points l

abbrev pub on : List ℕ → List Point → Contents Point
on c l = on_points (standing_of c) l

pub record Counted (c : List ℕ) (α : ℕ) (o : Result SignCounts Refusal) (l : List Point) : Type 0 where
  pub shown : CardGives c (α < 3 ^ polynomials c) 13 refused (number (query_in (on c l) α)) (shown_of o)
  pub told : CardGives c (α < 3 ^ polynomials c) 13 refusing (Ok (counts_in (on c l) α)) o

pub record CountsOnce (c : List ℕ) (α : ℕ) (o : Result SignCounts Refusal) : Type 0 where
  pub counted : (l : List Point) → Named c l → Counted c α o l
  pub add_up : (l : List Point) → Named c l → (t : SignCounts) → o ≡ Ok t → in_all t ≡ length l
  pub product_0 : (l : List Point) → Named c l → α ≡ 0
      → CardGives c (α < 3 ^ polynomials c) 13 refused (number (pos (length l))) (shown_of o)
  pub as_before : NoneTwice (standing_of c).points → Counted c α o (standing_of c).points

-- ---- runs

unfoldable pub step_at : List ℕ → ℕ → Step
step_at [] k = done
step_at (α ∷ ps) zero = ask α
step_at (α ∷ ps) (suc k) = step_at ps k

pub record Unchanged (c : List ℕ) : Type 0 where
  pub same_patterns : patterns (rows_in (contents_of c)) ≡ patterns (rows_in (standing_of c))
  pub same_questions : questions (polynomials c) (patterns_in (contents_of c)) ≡ questions (polynomials c) (patterns_in (standing_of c))
