-- The products that the rounds ask, where the answers are the queries of a list E of patterns: they are `questions s E`, and the rows are
-- the realized list.
use mathlib.Core.Path.{◌≡◌, refl, sym, ap, ap₂, ◌∙◌, subst}
use mathlib.Core.List.{List, [], ◌∷◌, ◌++◌}
use Prim.Native.Nat.{ℕ, zero, suc, ◌≤◌}
use native.Mathlib.Omega.{arith}
use lib.IntN.{ℤ, pos}
use lib.ListN.{length}
use Rattle.refusals.specs.Limits.{most_polynomials, most_points, most_questions}
use Rattle.signs.specs.Lists.{Below}
use Rattle.signs.specs.Signs.{query}
use Rattle.rounds.specs.Rows.{Row, patterns, Oracle, realized, Fits}
use Rattle.rounds.specs.Rounds.{round_of, Determined}
use Rattle.rounds.proofs.Answers.{Facts, facts}
use Rattle.rounds.specs.Rows.{restrict}
use Rattle.rounds.proofs.Restrict.{restrict-below, restrict-same, fits-left}
use Rattle.rounds.proofs.Rounds.{realized-rows, fits-restrict, determined_empty}
use Rattle.rounds.proofs.Questions.{exact-sum, at-most-593, rows-most}
use Rattle.printout.specs.Printout.{rounds_to, questions}

module _ (s : ℕ) (E : List ℕ) (O : Oracle s E) where
  -- the rows after round i are those of P1 .. Pi
  rows_are : (i : ℕ) (zs : List ℤ) (ps : List ℕ) (R : List Row) → i ≤ s → Determined i zs ps R → Fits s E ps zs
      → realized i (restrict i E) ≡ R
  rows_are i zs ps R h d f =
      let F : Facts i zs ps R = facts i zs ps R d in
      realized-rows i (restrict i E) R F.rows
      (F.only (restrict i E) (restrict-below i E) (fits-restrict s i E ps zs h F.under O.below f))

  -- the products of rounds 0 .. i
  rounds_are : (i : ℕ) (zs : List ℤ) (ps : List ℕ) (R : List Row) → i ≤ s → Determined i zs ps R → Fits s E ps zs → ps ≡ 0 ∷ rounds_to i E
  unfolding Determined rounds_to
  rounds_are zero zs ps R h (n, m, e, p, q) f = p
  rounds_are (suc i) zs ps R h (a, c) f =
      let F : Facts i a.before a.asked a.rows = facts i a.before a.asked a.rows a.after in
      let f' : Fits s E (a.asked ++ round_of i (patterns a.rows)) (a.before ++ a.now) = rw (← a.products, ← a.answers) f in
      let g : Fits s E a.asked a.before = fits-left s E a.asked (round_of i (patterns a.rows)) a.before a.now
      F.lengths f' in
      a.products
      ∙ ap₂ (λ (l : List ℕ) (R₀ : List Row). l ++ round_of i (patterns R₀))
      (rounds_are i a.before a.asked a.rows (omega arith) a.after g)
      (sym (rows_are i a.before a.asked a.rows (omega arith) a.after g))

-- with no points there is nothing to ask but product 0
rounds_none : (s : ℕ) → 0 ∷ [] ≡ 0 ∷ rounds_to s []
rounds_none s =
    rounds_are s [] (record { held = omega arith; below = unfold Below in tt }) s (pos 0 ∷ []) (0 ∷ []) [] (omega arith)
    (determined_empty s)
    (unfold Fits query in (refl, tt))

pub questions_are : (s : ℕ) (E : List ℕ) → 0 ∷ rounds_to s E ≡ questions s E
unfolding questions
questions_are s [] = sym (rounds_none s)
questions_are s (σ ∷ E) = refl

module _ (s : ℕ) (E : List ℕ) (O : Oracle s E) (zs : List ℤ) (ps : List ℕ) (R : List Row) (d : Determined s zs ps R)
    (f : Fits s E ps zs) where
  -- a run that has ended has asked the questions, and its rows are the realized list
  pub asked-questions : ps ≡ questions s E
  asked-questions = rounds_are s E O s zs ps R (omega arith) d f ∙ questions_are s E

  pub found-realized : R ≡ realized s E
  found-realized = sym (rows_are s E O s zs ps R (omega arith) d f) ∙ ap (realized s) (restrict-same s E O.below)

  pub few_rows : length (realized s E) ≤ most_points
  few_rows = subst (λ (l : List Row). length l ≤ most_points) found-realized (rows-most s zs ps R d)

  pub few-questions : s ≤ most_polynomials → length (questions s E) ≤ most_questions
  few-questions h =
      let (r, each, e) = exact-sum s zs ps R d in
      subst (λ (l : List ℕ). length l ≤ most_questions) asked-questions (at-most-593 s (length ps) zs r h each e)
