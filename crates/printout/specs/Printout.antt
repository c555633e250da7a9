-- The printout of a card (document 01, "One card through"), straight from the patterns of its points.
--
-- rounds_to i E                   == the products of rounds 1 .. i (document 01, "The run"): "Round i (1 to s) takes the rows found for P1
--                                     .. P(i−1), their adapted list A (for i = 1: product 0 alone), and asks every a in A with 3^(i−1)
--                                     added, in order, then every a with 2 × 3^(i−1) added"
--   questions s E                  == all products, in order: "Round 0 asks product 0 .. If n is 0 the run is done with no rows"
--   question_lines c ps, row_lines R == a Q line for each product with its query on the card c, and an S line for each row
--   sound_lines c                   == "a Q line for each question as it is asked, then an S line for each row in order, then the E line"
--   lines_of c                      == the lines of the card c: "A refused card prints `R` and its number, as `R 5`, and no other line"
--   NoneEmpty ls                   == each line of ls has at least one byte
--   together ls                    == the text of lines one after the other
--   printout_of c                   == the printout
use Rattle.std.specs.Prelude.{List, [], ◌∷◌, ◌++◌, map, ℕ, zero, suc, ◌<◌, length}
use Rattle.layout.specs.Format.{polynomials}
use Rattle.card.specs.Card.{refusal}
use Rattle.refusals.specs.Numbers.{unless}
use Rattle.query.specs.Query.{query_of, patterns_of}
use Rattle.rounds.specs.Rows.{Row, patterns, restrict, realized}
use Rattle.rounds.specs.Rounds.{round_of}
use Rattle.lines.specs.Text.{question_line, row_line, end_line, refusal_line}

-- ---- the questions

unfoldable pub rounds_to : ℕ → List ℕ → List ℕ
rounds_to zero E = []
rounds_to (suc i) E = rounds_to i E ++ round_of i (patterns (realized i (restrict i E)))

unfoldable pub questions : ℕ → List ℕ → List ℕ
questions s [] = 0 ∷ []
questions s (σ ∷ E) = 0 ∷ rounds_to s (σ ∷ E)

-- ---- the lines

unfoldable pub question_lines : List ℕ → List ℕ → List (List ℕ)
question_lines c ps = map (λ p. question_line p (query_of c p)) ps

unfoldable pub row_lines : List Row → List (List ℕ)
row_lines R = map (λ r. row_line r.pattern r.count) R

unfoldable pub sound_lines : List ℕ → List (List ℕ)
sound_lines c =
    question_lines c (questions (polynomials c) (patterns_of c))
    ++ (row_lines (realized (polynomials c) (patterns_of c)) ++ (end_line (length (questions (polynomials c) (patterns_of c))) ∷ []))

unfoldable pub lines_of : List ℕ → List (List ℕ)
lines_of c = unless (refusal c) (λ k. refusal_line k ∷ []) (sound_lines c)

unfoldable pub NoneEmpty : List (List ℕ) → Type 0
NoneEmpty [] = Unit {0}
NoneEmpty (l ∷ ls) = (0 < length l) × NoneEmpty ls

-- ---- the text

unfoldable pub together : List (List ℕ) → List ℕ
together [] = []
together (l ∷ ls) = l ++ together ls

unfoldable pub printout_of : List ℕ → List ℕ
printout_of c = together (lines_of c)
