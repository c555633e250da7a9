-- THEOREM: the lines of a printout from the beginning on are `lines_of` the card, at most 658, and then it is over. On a sound card the
-- run answered by the card's queries ends done, with the patterns of the card's points, each with its number of points.
use mathlib.Core.Path.{◌≡◌, refl, sym, ap, ◌∙◌, subst}
use mathlib.Core.List.{List, [], ◌∷◌, ◌++◌, append_assoc, append-nil}
use Prim.Native.Nat.{ℕ, zero, suc, ◌+◌, ◌*◌, ◌^◌, ◌<◌, ◌≤◌}
use native.Mathlib.Omega.{arith}
use native.Mathlib.Decide.{ℕ_discrete, dec_lt}
use borrow.Author.Tests.{le-leb, lt-ltb, le-ltb}
use lib.IntN.{ℤ}
use lib.ListN.{length, take, get_or, length-append, length-map}
use lib.Seq.{get_or-append_seam}
use Rattle.signs.specs.Lists.{times}
use Rattle.signs.proofs.Lists.{times-nil, times-same, times_other, times-append, times-take}
use Rattle.contents.proofs.Patterns.{query-patterns}
use Rattle.contents.proofs.Counts.{counts-panel}
use Rattle.layout.specs.Format.{polynomials}
use Rattle.plane.specs.Contents.{contents_of}
use Rattle.plane.proofs.Contents.{points-few}
use Rattle.card.specs.Card.{refusal}
use Rattle.refusals.specs.Limits.{most_points, most_questions}
use Rattle.refusals.specs.Numbers.{unless}
use Rattle.card.specs.Sound.{Sound}
use Rattle.card.proofs.Sound.{sound, unrefused}
use Rattle.query.specs.declared.Opened.{Opened}
use Rattle.std.specs.Prelude.{Ok}
use Rattle.refusals.specs.Refusals.{number_of, by_number, refusing}
use Rattle.query.specs.Opened.{opened, opened_answer}
use Rattle.query.specs.Query.{query_of, counts_of, patterns_of}
use Rattle.query.proofs.Opening.{refusal_number, answer-opened, opened-sound}
use Rattle.query.proofs.Answers.{query-sound, query-refused}
use Rattle.rounds.specs.Rows.{Row, patterns, Oracle, realized, IsRealized, Fits}
use Rattle.rounds.specs.Rounds.{round_of, Determined}
use Rattle.rounds.specs.RoundEnd.{round_rows}
use Rattle.rounds.proofs.Answers.{Facts, facts, round-low}
use Rattle.rounds.proofs.Restrict.{fits-append, three_pos, three_mono}
use Rattle.rounds.proofs.RoundEnds.{round_rows_right}
use Rattle.runs.specs.Run.{State, Step, ask, done, refused, Phase, running, finished, start_of, answer_of, fetch_rule, fetch_of}
use Rattle.run_record.specs.Record.{started_of}
use Rattle.runs.specs.Demand.{heard, asks}
use Rattle.runs.specs.Truthful.{enough}
use Rattle.runs.proofs.Invariant.{Closed, At, Inv, start_inv, going_short, After, answer-running}
use Rattle.contents_runs.specs.Runs.{run_on}
use Rattle.contents_runs.proofs.Runs.{oracle, contents-done, contents-rows}
use Rattle.lines.specs.Text.{question_line, row_line, end_line, refusal_line}
use Rattle.printout.specs.Printout.{questions, question_lines, row_lines, sound_lines, lines_of}
use Rattle.printout.specs.Progress.{Stage, question, row_at, over, ProgressState, begun_of, gives, on_step, on_answer, after_row, on_fetch}
use Rattle.printout.specs.Progress.{next_at, next_of, Prints}
use Rattle.printout.proofs.Questions.{asked-questions, found-realized, few_rows, few-questions}

-- ---- the rows of a run that is done

abbrev at : Opened → State → Stage → ProgressState
at o r g = record { card = o; state = r; stage = g }

-- one line more
prints_more : (t u : ProgressState) (l : List ℕ) (ls : List (List ℕ)) → next_of t ≡ (u, l) → Prints u ls → Prints t (l ∷ ls)
unfolding Prints
prints_more t u l ls e p = (
  ap (λ (x : ProgressState × List ℕ). x.1) e,
  subst (λ (x : ProgressState). Prints x ls) (sym (ap (λ (x : ProgressState × List ℕ). x.0) e)) p,
)

module _ (o : Opened) (r : State) (done : r.phase ≡ finished) where
  next_end : (p : ℕ) → length r.rows ≤ p → next_of (at o r (row_at p)) ≡ gives o r over (end_line r.total)
  unfolding next_of next_at on_fetch fetch_of fetch_rule
  next_end p h = rw (done, le-ltb p (length r.rows) h) refl

  next_row : (p : ℕ) (x : Row) → p < length r.rows → p < 64 → get_or r.rows p (record { pattern = 0; count = 0 }) ≡ x
      → next_of (at o r (row_at p)) ≡ gives o r (row_at (suc p)) (row_line x.pattern x.count)
  unfolding next_of next_at on_fetch fetch_of fetch_rule after_row
  next_row p x h b g = rw (done, lt-ltb p (length r.rows) h, lt-ltb p 64 b, g) refl

  pub rows_print : length r.rows ≤ most_points → (before after : List Row) → before ++ after ≡ r.rows
      → Prints (at o r (row_at (length before))) (row_lines after ++ (end_line r.total ∷ []))
  unfolding row_lines
  rows_print few before [] e =
      prints_more (at o r (row_at (length before))) (at o r over) (end_line r.total) []
      (next_end (length before) (omega (arith, ap length e, length-append before []))) (unfold Prints in refl)
  rows_print few before (x ∷ after) e =
      prints_more (at o r (row_at (length before))) (at o r (row_at (suc (length before)))) (row_line x.pattern x.count) _
      (next_row (length before) x (omega (arith, ap length e, length-append before (x ∷ after)))
      (omega (arith, few, ap length e, length-append before (x ∷ after)))
      (ap (λ (l : List Row). get_or l (length before) (record { pattern = 0; count = 0 })) (sym e)
      ∙ get_or-append_seam before x after (record { pattern = 0; count = 0 })))
      (subst (λ (k : ℕ). Prints (at o r (row_at k)) (row_lines after ++ (end_line r.total ∷ [])))
      (length-append before (x ∷ []) ∙ omega arith)
      (rows_print few (before ++ (x ∷ [])) after (append_assoc before (x ∷ []) after ∙ e)))

-- ---- the questions

-- a product asked is one of the s polynomials
asked-below : (s : ℕ) (r : State) (zs : List ℤ) (qs : List ℕ) (α : ℕ) → Inv s r zs (qs ++ (α ∷ [])) → r.phase ≡ running → α < 3 ^ s
asked-below s r zs qs α I e = go r.round (subst (λ (f : Phase). At s r zs (qs ++ (α ∷ [])) f r.round) e I.at)
  where
    stands : 0 < times α (qs ++ (α ∷ []))
    stands = omega (arith, times-append α qs (α ∷ []), times-same α [])

    go : (k : ℕ) → At s r zs (qs ++ (α ∷ [])) running k → α < 3 ^ s
    go zero (a, b, d) = none (ℕ_discrete α 0)
      where
        none : Dec (α ≡ 0) → α < 3 ^ s
        none (yes f) = omega (arith, three_pos s)
        none (no f) = absurd (omega (arith, stands, ap (times α) b, times_other α 0 [] f, times-nil α))
    go (suc i) g = one (dec_lt 0 (times α g.asked))
      where
        F : Facts i g.before g.asked r.rows
        F = facts i g.before g.asked r.rows g.determined

        Q : List ℕ
        Q = round_of i (patterns r.rows)

        one : Dec (0 < times α g.asked) → α < 3 ^ s
        one (yes h) = omega (arith, F.under α h, three_mono i s (omega (arith, g.in_range)))
        one (no h) =
            omega (
              arith,
              round-low i (patterns r.rows) α
                  (omega (
                    arith,
                    stands,
                    ap (times α) g.products,
                    times-append α g.asked (take (suc (length r.answers)) Q),
                    times-take α (suc (length r.answers)) Q,
                  )),
              three_mono (suc i) s g.in_range,
            )

running-short : (s : ℕ) (r : State) (zs : List ℤ) (ps : List ℕ) → Inv s r zs ps → r.phase ≡ running → length zs ≤ 2 * most_points * s
running-short s r zs ps I e = go r.round (subst (λ (f : Phase). At s r zs ps f r.round) e I.at)
  where
    go : (k : ℕ) → At s r zs ps running k → length zs ≤ 2 * most_points * s
    go zero (a, b, c) = omega (arith, ap length a)
    go (suc i) g = omega (arith, going_short s i r zs ps g, g.in_range)

step-ask : (o : Opened) (α : ℕ) (z : ℤ) (r : State) (β : ℕ) → on_step o α z (r, ask β) ≡ gives o r (question β) (question_line α z)
unfolding on_step
step-ask o α z r β = refl

step-done : (o : Opened) (α : ℕ) (z : ℤ) (r : State) → on_step o α z (r, done) ≡ gives o r (row_at 0) (question_line α z)
unfolding on_step
step-done o α z r = refl

question_more : (c : List ℕ) (p : ℕ) (ps : List ℕ) (ls : List (List ℕ))
    → question_line p (query_of c p) ∷ (question_lines c ps ++ ls) ≡ question_lines c (p ∷ ps) ++ ls
unfolding question_lines
question_more c p ps ls = refl

module _ (c : List ℕ) (S : Sound c) where
  abbrev s : ℕ
  s = polynomials c

  abbrev E : List ℕ
  E = patterns_of c

  holds : Oracle s E
  holds = oracle (contents_of c) (omega (arith, points-few c, S.n_most))

  -- the lines after the questions
  abbrev tail : List (List ℕ)
  tail = row_lines (realized s E) ++ (end_line (length (questions s E)) ∷ [])

  -- what is left to ask after the questions qs, and the lines from t on
  record Rest (qs : List ℕ) (t : ProgressState) : Type 0 where
    rest : List ℕ
    all : qs ++ rest ≡ questions s E
    prints : Prints t (question_lines c rest ++ tail)
    few-q : length (questions s E) ≤ most_questions
    few-r : length (realized s E) ≤ most_points

  card-answers : (α : ℕ) → α < 3 ^ s → opened_answer (opened c) α ≡ Ok (counts_of c α)
  card-answers α b = answer-opened c α ∙ query-sound c α S b

  -- k more answers, from a record that has asked α last
  abbrev Goes : ℕ → Type 0
  Goes k =
      (r : State) (zs : List ℤ) (qs : List ℕ) (α : ℕ) → Inv s r zs (qs ++ (α ∷ [])) → r.phase ≡ running → length qs ≡ length zs
      → Fits s E qs zs → 2 * most_points * s < length zs + k → Rest qs (at (opened c) r (question α))

  one-question : (k : ℕ) → Goes k → Goes (suc k)
  unfolding asks heard
  one-question k more r zs qs α I e l f m = go (answer_of round_rows r z) refl A
    where
      z : ℤ
      z = query_of c α

      ps : List ℕ
      ps = qs ++ (α ∷ [])

      A : After s zs ps z (answer_of round_rows r z)
      A = answer-running round_rows round_rows_right s r zs ps z S.s_least I e

      fit : Fits s E ps (zs ++ (z ∷ []))
      fit = fits-append s E qs (α ∷ []) zs (z ∷ []) l f (unfold Fits in (query-patterns (contents_of c) α, tt))

      first : next_of (at (opened c) r (question α)) ≡ on_step (opened c) α z (answer_of round_rows r z)
      first =
          unfold next_of next_at on_answer in
          ap (on_answer (opened c) r α) (card-answers α (asked-below s r zs qs α I e))
          ∙ ap (λ (x : ℤ). on_step (opened c) α x (answer_of round_rows r x)) (counts-panel (contents_of c) α)

      lengths : length ps ≡ length (zs ++ (z ∷ []))
      lengths = omega (arith, l, length-append qs (α ∷ []), length-append zs (z ∷ []))

      last : (r' : State) → Inv s r' (zs ++ (z ∷ [])) (ps ++ []) → Inv s r' (zs ++ (z ∷ [])) ps
      last r' I' = subst (Inv s r' (zs ++ (z ∷ []))) (append-nil ps) I'

      go : (y : State × Step) → answer_of round_rows r z ≡ y → After s zs ps z y → Rest qs (at (opened c) r (question α))
      go (r', ask β) h B =
          let R : Rest ps (at (opened c) r' (question β)) =
          more r' (zs ++ (z ∷ [])) ps β B.inv (sym B.phase) lengths fit (omega (arith, m, length-append zs (z ∷ []))) in
          record {
            rest = α ∷ R.rest;
            all = sym (append_assoc qs (α ∷ []) R.rest) ∙ R.all;
            prints =
                subst (Prints (at (opened c) r (question α))) (question_more c α R.rest tail)
                (prints_more (at (opened c) r (question α)) (at (opened c) r' (question β)) (question_line α z)
                (question_lines c R.rest ++ tail)
                (first ∙ ap (on_step (opened c) α z) h ∙ step-ask (opened c) α z r' β) R.prints);
            few-q = R.few-q;
            few-r = R.few-r;
          }
      go (r', done) h B =
          record {
            rest = α ∷ [];
            all = q;
            prints =
                subst (Prints (at (opened c) r (question α))) (question_more c α [] tail)
                (prints_more (at (opened c) r (question α)) (at (opened c) r' (row_at 0)) (question_line α z) (question_lines c [] ++ tail)
                (first ∙ ap (on_step (opened c) α z) h ∙ step-done (opened c) α z r') rows);
            few-q = few-questions s E holds (zs ++ (z ∷ [])) ps r'.rows D fit S.s_most;
            few-r = few;
          }
        where
          J : Inv s r' (zs ++ (z ∷ [])) ps
          J = last r' B.inv

          fin : r'.phase ≡ finished
          fin = sym B.phase

          D : Determined s (zs ++ (z ∷ [])) ps r'.rows
          D = subst (λ (p : Phase). At s r' (zs ++ (z ∷ [])) ps p r'.round) fin J.at

          q : ps ≡ questions s E
          q = asked-questions s E holds (zs ++ (z ∷ [])) ps r'.rows D fit

          found : r'.rows ≡ realized s E
          found = found-realized s E holds (zs ++ (z ∷ [])) ps r'.rows D fit

          few : length (realized s E) ≤ most_points
          few = few_rows s E holds (zs ++ (z ∷ [])) ps r'.rows D fit

          total : r'.total ≡ length (questions s E)
          total = J.count ∙ sym lengths ∙ ap length q

          rows : Prints (at (opened c) r' (row_at 0)) (question_lines c [] ++ tail)
          rows =
              unfold question_lines in
              subst (λ (R : List Row). Prints (at (opened c) r' (row_at 0)) (row_lines R ++ (end_line (length (questions s E)) ∷ []))) found
              (subst (λ (n : ℕ). Prints (at (opened c) r' (row_at 0)) (row_lines r'.rows ++ (end_line n ∷ []))) total
              (rows_print (opened c) r' fin (subst (λ (R : List Row). length R ≤ most_points) (sym found) few) [] r'.rows refl))
      go (r', refused n) h B =
          let C : Closed s (zs ++ (z ∷ [])) ps =
          subst (λ (p : Phase). At s r' (zs ++ (z ∷ [])) ps p r'.round) (sym B.phase) (last r' B.inv).at in
          absurd (C.none_fits (E, holds, fit))

  goes : (k : ℕ) → Goes k
  goes zero = λ r zs qs α I e l f m. absurd (omega (arith, running-short s r zs (qs ++ (α ∷ [])) I e))
  goes (suc k) = one-question k (goes k)

  begins : begun_of c ≡ at (opened c) (start_of s) (question 0)
  unfolding begun_of started_of
  begins =
      ap (λ (n : ℕ). at (opened c) (started_of n).0 (question 0)) (ap (λ (o : Opened). o.s) (opened-sound c (unrefused c S)))
      ∙ rw (le-leb 1 s S.s_least, le-leb s 8 S.s_most) refl

  whole : Rest [] (begun_of c)
  whole =
      subst (Rest []) (sym begins)
      (goes (suc (2 * most_points * s)) (start_of s) [] [] 0 (start_inv s) refl refl (unfold Fits in tt) (omega arith))

  pub sound-prints : Prints (begun_of c) (sound_lines c)
  unfolding sound_lines
  sound-prints = subst (λ (qs : List ℕ). Prints (begun_of c) (question_lines c qs ++ tail)) whole.all whole.prints

  pub sound-questions : length (question_lines c (questions s E)) ≤ most_questions
  unfolding question_lines
  sound-questions = omega (arith, whole.few-q, length-map (questions s E) (λ p. question_line p (query_of c p)))

  pub sound-few : length (sound_lines c) ≤ 658
  unfolding sound_lines question_lines row_lines
  sound-few =
      omega (
        arith,
        whole.few-q,
        whole.few-r,
        length-append (question_lines c (questions s E)) tail,
        length-append (row_lines (realized s E)) (end_line (length (questions s E)) ∷ []),
        length-map (questions s E) (λ p. question_line p (query_of c p)),
        length-map (realized s E) (λ x. row_line x.pattern x.count),
      )

-- ---- any card

-- a refused card, whatever the state is
pub refused-prints : (c : List ℕ) (r : State) (k : ℕ) → refusal c ≡ suc k → Prints (at (opened c) r (question 0))
    (refusal_line (suc k) ∷ [])
refused-prints c r k e =
    prints_more (at (opened c) r (question 0)) (at (opened c) r over) (refusal_line (suc k)) []
    (unfold next_of next_at on_answer in
    ap (on_answer (opened c) r 0) (answer-opened c 0 ∙ query-refused c 0 (λ z. absurd (omega (arith, e, z))) ∙ ap refusing e)
    ∙ ap (λ (m : ℕ). gives (opened c) r over (refusal_line m))
    (ap (λ (m : ℕ). number_of (by_number m)) (sym e) ∙ refusal_number c (λ z. absurd (omega (arith, e, z))) ∙ e))
    (unfold Prints in refl)

-- THE THEOREM
pub prints : (c : List ℕ) → Prints (begun_of c) (lines_of c)
unfolding lines_of
prints c = go (refusal c) refl
  where
    go : (m : ℕ) → refusal c ≡ m → Prints (begun_of c) (unless m (λ k. refusal_line k ∷ []) (sound_lines c))
    go zero e = sound-prints c (sound c e)
    go (suc m) e = unfold begun_of in refused-prints c (begun_of c).state m e

pub few_lines : (c : List ℕ) → length (lines_of c) ≤ 658
unfolding lines_of
few_lines c = go (refusal c) refl
  where
    go : (m : ℕ) → refusal c ≡ m → length (unless m (λ k. refusal_line k ∷ []) (sound_lines c)) ≤ 658
    go zero e = sound-few c (sound c e)
    go (suc m) e = omega arith

-- a refused card has one line, and a sound one those of its definition
pub refused-line : (c : List ℕ) → (refusal c ≡ 0 → ⊥) → lines_of c ≡ refusal_line (refusal c) ∷ []
unfolding lines_of
refused-line c h = go (refusal c) refl
  where
    go : (m : ℕ) → refusal c ≡ m → unless m (λ k. refusal_line k ∷ []) (sound_lines c) ≡ refusal_line m ∷ []
    go zero e = absurd (h e)
    go (suc m) e = refl

pub sound_lines_lem : (c : List ℕ) → Sound c → lines_of c ≡ sound_lines c
unfolding lines_of
sound_lines_lem c S = rw (unrefused c S) refl

-- on a sound card the run answered by the card's queries ends done, with the patterns of the card's points, each once, rising, with its
-- number of points
module _ (c : List ℕ) (S : Sound c) where
  pub card-done : (k : ℕ) → enough (polynomials c) ≤ k
      → ((run_on (contents_of c) k).phase ≡ finished) × ((run_on (contents_of c) k).rows ≡ realized (polynomials c) (patterns_of c))
  card-done = contents-done (contents_of c) S.s_least (omega (arith, points-few c, S.n_most))

  pub card-rows : IsRealized (patterns_of c) (realized (polynomials c) (patterns_of c))
  card-rows = contents-rows (contents_of c)
