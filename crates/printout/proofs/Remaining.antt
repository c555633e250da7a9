-- What is left of a printout after some questions.
--
--   Asked l         == the line l begins with `Q` or `R`, as every line does that a question is printed by
--   Closing ls      == the first of the lines ls does not
--   Left c t text k == after k questions of the card c the text is written, and t is left: with the lines that t prints the text is the
--                      printout, and with those of them that a question is printed by there are at most 593 questions
use mathlib.Core.Path.{◌≡◌, refl, sym, ap, subst, ◌∙◌}
use mathlib.Core.List.{List, [], ◌∷◌, ◌++◌, append_assoc}
use Prim.Native.Nat.{ℕ, zero, suc, ◌+◌, ◌*◌, ◌<◌, ◌≤◌}
use native.Mathlib.Numerals.{add-one}
use native.Mathlib.Omega.{arith}
use lib.IntN.{ℤ}
use lib.ListN.{length, take, get_or, length-append}
use Rattle.refusals.specs.Limits.{most_polynomials, most_questions}
use Rattle.card.specs.Card.{refusal}
use Rattle.card.specs.Sound.{Sound}
use Rattle.card.proofs.Sound.{sound, unrefused}
use Rattle.layout.specs.Format.{polynomials}
use Rattle.query.specs.declared.Opened.{Opened}
use Rattle.std.specs.Prelude.{Result, Ok, Err}
use Rattle.refusals.specs.declared.Refusal.{Refusal}
use Rattle.sign_counts.specs.declared.SignCounts.{SignCounts}
use Rattle.query.specs.Opened.{opened, opened_answer}
use Rattle.query.specs.Query.{patterns_of}
use Rattle.query.proofs.Opening.{opened-sound}
use Rattle.rounds.specs.Rows.{Row, realized}
use Rattle.rounds.specs.RoundEnd.{round_rows}
use Rattle.runs.specs.Run.{State, Step, ask, done, refused, answer_of}
use Rattle.run_record.specs.Record.{started_of}
use Rattle.lines.specs.Text.{letter_q, letter_r, question_line, row_line, end_line, refusal_line}
use Rattle.printout.specs.Printout.{questions, question_lines, row_lines, sound_lines, together, printout_of}
use Rattle.printout.specs.Written.{short_line, most_lines}
use Rattle.printout.specs.Progress.{over, question, ProgressState, begun_of, on_step, on_answer, next_at, next_of, Prints}
use Rattle.printout.specs.Steps.{asking, GoesOn}
use Rattle.printout.proofs.Texts.{text-prints}
use Rattle.printout.proofs.ShortLines.{printed_most}
use Rattle.printout.proofs.Printing.{prints, sound-questions, refused-prints, sound_lines_lem, refused-line}

-- what is printed has one text

prints-same : (ls ms : List (List ℕ)) (t : ProgressState) → Prints t ls → Prints t ms → together ls ≡ together ms
prints-same ls ms t p q =
    let k = length ls + length ms in
    sym (text-prints ls k t p (omega arith)) ∙ text-prints ms k t q (omega arith)

abbrev Asked : List ℕ → Type 0
Asked l = (letter_q ≤ get_or l 0 0) × (get_or l 0 0 ≤ letter_r)

unfoldable Closing : List (List ℕ) → Type 0
Closing [] = Unit {0}
Closing (l ∷ ls) = Asked l → ⊥

pub record Left (c : List ℕ) (t : ProgressState) (text : List ℕ) (k : ℕ) : Type 0 where
  front : List (List ℕ)
  back : List (List ℕ)
  shown : Prints t (front ++ back)
  whole : text ++ together (front ++ back) ≡ printout_of c
  few : length front + k ≤ most_questions
  closing : Closing back

-- what is written is part of the printout
pub left-short : (c : List ℕ) (t : ProgressState) (text : List ℕ) (k : ℕ) → Left c t text k → length text ≤ short_line * most_lines
left-short c t text k L =
    omega (arith, printed_most c, ap length L.whole, length-append text (together (L.front ++ L.back)))

step-asked : (o : Opened) (α : ℕ) (z : ℤ) (y : State × Step) → Asked (on_step o α z y).1
unfolding on_step
step-asked o α z (r, ask β) = unfold question_line in (omega arith, omega arith)
step-asked o α z (r, done) = unfold question_line in (omega arith, omega arith)
step-asked o α z (r, refused k) = unfold refusal_line in (omega arith, omega arith)

answer-asked : (o : Opened) (r : State) (α : ℕ) (q : Result SignCounts Refusal) → Asked (on_answer o r α q).1
unfolding on_answer
answer-asked o r α (Ok t) = step-asked o α _ (answer_of round_rows r _)
answer-asked o r α (Err e) = unfold refusal_line in (omega arith, omega arith)

module _ (c : List ℕ) (o : Opened) (r : State) (α : ℕ) (text : List ℕ) (k : ℕ) (L : Left c (asking o r α) text k) where
  abbrev t : ProgressState
  t = asking o r α

  -- a line is left that a question is printed by
  abbrev Next : List (List ℕ) → Type 0
  Next front =
      (Prints t (front ++ L.back)) → text ++ together (front ++ L.back) ≡ printout_of c → length front + k ≤ most_questions
      → (k < most_questions) × Left c (next_of t).0 (text ++ (next_of t).1) (suc k)

  next_asked : Asked (next_of t).1
  unfolding next_of next_at
  next_asked = answer-asked o r α (opened_answer o α)

  no_question : (back : List (List ℕ)) → Closing back → Prints t back → ⊥
  unfolding Closing Prints
  no_question [] g p = not_over p
    where
      not_over : question α ≡ over → ⊥
      not_over e = let x : ◌≡◌ {A = ℕ} 0 1 = cc in omega arith
  no_question (l ∷ ls) g p = g (subst Asked p.0 next_asked)

  next : (front : List (List ℕ)) → Next front
  next [] p w f = absurd (no_question L.back L.closing p)
  next (l ∷ front) p w f = (
    omega arith,
    record {
      front = front;
      back = L.back;
      shown = unfold Prints in p.1;
      whole =
          unfold Prints together in
          append_assoc text (next_of t).1 (together (front ++ L.back))
          ∙ ap (λ (x : List ℕ). text ++ (x ++ together (front ++ L.back))) p.0
          ∙ w;
      few = omega arith;
      closing = L.closing;
    },
  )

  left_next : (k < most_questions) × Left c (next_of t).0 (text ++ (next_of t).1) (suc k)
  left_next = next L.front L.shown L.whole L.few

  -- so there are not too many questions
  pub left-few : k < most_questions
  left-few = left_next.0

  -- the line of the question is written
  pub left_goes : (out out' : List ℕ) (at b : ℕ) (t' : ProgressState) → take at out ≡ text → GoesOn (next_of t) out at out' b t'
      → Left c t' (take b out') (k + 1)
  left_goes out out' at b t' e g =
      rw (add-one k, g.line.put.text, e) (subst (λ (u : ProgressState). Left c u (text ++ (next_of t).1) (suc k)) g.left left_next.1)

  -- or all lines from it on
  pub left-all : (rest : List (List ℕ)) → Prints (next_of t).0 rest → text ++ ((next_of t).1 ++ together rest) ≡ printout_of c
  unfolding Prints together
  left-all rest p =
      ap (λ (l : List ℕ). text ++ l) (prints-same ((next_of t).1 ∷ rest) (L.front ++ L.back) t (refl, p) L.shown) ∙ L.whole

-- no question is printed by the lines that come after the questions
rows_closing : (R : List Row) (n : ℕ) → Closing (row_lines R ++ (end_line n ∷ []))
unfolding Closing row_lines
rows_closing [] n = λ a. unfold end_line in absurd (omega (arith, a))
rows_closing (x ∷ R) n = λ a. unfold row_line in absurd (omega (arith, a))

begins : (c : List ℕ) (r : State) → (1 ≤ (opened c).s → (opened c).s ≤ most_polynomials → r ≡ (started_of (opened c).s).0) → Sound c
    → asking (opened c) r 0 ≡ begun_of c
unfolding begun_of
begins c r h S =
    let e : (opened c).s ≡ polynomials c = ap (λ (o : Opened). o.s) (opened-sound c (unrefused c S)) in
    ap (λ (x : State). asking (opened c) x 0) (h (omega (arith, e, S.s_least)) (omega (arith, e, S.s_most)))

-- before the first question: the state is that of a start, where the card has polynomials
left-first : (c : List ℕ) (r : State)
    → (1 ≤ (opened c).s → (opened c).s ≤ most_polynomials → r ≡ (started_of (opened c).s).0) → Left c (asking (opened c) r 0) [] 0
unfolding sound_lines
left-first c r h = go (refusal c) refl
  where
    go : (m : ℕ) → refusal c ≡ m → Left c (asking (opened c) r 0) [] 0
    go zero e =
        let S = sound c e in
        let ps = questions (polynomials c) (patterns_of c) in
        record {
          front = question_lines c ps;
          back = row_lines (realized (polynomials c) (patterns_of c)) ++ (end_line (length ps) ∷ []);
          shown =
              subst (λ (x : ProgressState). Prints x (sound_lines c)) (sym (begins c r h S))
              (subst (Prints (begun_of c)) (sound_lines_lem c S) (prints c));
          whole = unfold printout_of in ap together (sym (sound_lines_lem c S));
          few = omega (arith, sound-questions c S);
          closing = rows_closing (realized (polynomials c) (patterns_of c)) (length ps);
        }
    go (suc m) e =
        record {
          front = refusal_line (suc m) ∷ [];
          back = [];
          shown = refused-prints c r m e;
          whole =
              unfold printout_of in
              ap together (ap (λ (k : ℕ). refusal_line k ∷ []) (sym e) ∙ sym (refused-line c (λ z. absurd (omega (arith, e, z)))));
          few = omega arith;
          closing = unfold Closing in tt;
        }

pub left_begin : (c : List ℕ) (o : Opened) (r : State) → o ≡ opened c
    → (1 ≤ o.s → o.s ≤ most_polynomials → r ≡ (started_of o.s).0) → Left c (asking o r 0) [] 0
left_begin c o r e h =
    subst (λ (x : Opened). (1 ≤ x.s → x.s ≤ most_polynomials → r ≡ (started_of x.s).0) → Left c (asking x r 0) [] 0) (sym e)
    (left-first c r) h
