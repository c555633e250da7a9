-- One question of a printout: the line that is written for it, and where the run is done or refuses all that follow.
use mathlib.Core.Path.{◌≡◌, refl, sym, ap, subst, ◌∙◌}
use mathlib.Core.Bool.{Bool, true, false, cond}
use mathlib.Core.Option.{Option, some, none}
use mathlib.Core.List.{List, [], ◌∷◌, ◌++◌, append_assoc, append-nil}
use Prim.Native.Nat.{ℕ, zero, suc, ◌+◌, ◌*◌, ◌<◌, ◌≤◌}
use native.Mathlib.Omega.{arith}
use borrow.Author.Tests.{leb-true}
use lib.Dec.{eqb, leb, ltb}
use lib.IntN.{ℤ, pos, negsuc, nat_abs}
use lib.ListN.{length, take, get_or}
use lib.Seq.{length-take-le}
use Rattle.refusals.specs.Limits.{most_points}
use Rattle.signs.proofs.Orders.{both_right}
use Rattle.signs.specs.declared.Product.{Product}
use Rattle.sign_counts.specs.Counts.{panel_number}
use Rattle.sign_counts.specs.declared.SignCounts.{SignCounts}
use Rattle.query.specs.declared.Opened.{Opened}
use Rattle.std.specs.Prelude.{Result, Ok, Err}
use Rattle.refusals.specs.Refusals.{number_of}
use Rattle.refusals.specs.declared.Refusal.{Refusal}
use Rattle.query.specs.Opened.{opened_answer}
use Rattle.rounds.specs.Rows.{Row, rows_with, row_if}
use Rattle.rounds.specs.RoundEnd.{round_rows}
use Rattle.runs.specs.Run.{State, Step, done, Phase, running, finished, closed, answer_of, in_phase, in_round, round_step, end_round, ended}
use Rattle.runs.proofs.Held.{with_length}
use Rattle.runs.proofs.Phases.{running_not_finished, closed_not_finished}
use Rattle.run_record.specs.declared.Run.{Run}
use Rattle.run_record.specs.declared.Step as code_step
use Rattle.run_record.specs.declared.Step.TheVariants as steps
use Rattle.run_record.specs.Record.{is_running, is_done, state_in, run_phase, state_of, step_of}
use Rattle.lines.specs.Text.{longest_line, question_line, row_line, end_line, refusal_line}
use Rattle.lines.specs.Put.{Put, PutLine}
use Rattle.lines.proofs.Putting.{put_more, put_same}
use Rattle.printout.specs.Printout.{row_lines, together}
use Rattle.printout.specs.Progress.{over, ProgressState, gives, on_step, on_answer, next_at, next_of, Prints}
use Rattle.printout.specs.Steps.{asking, Settled, Plays}
use Rattle.printout.proofs.Printing.{rows_print}

-- ---- lines one after the other

pub together_more : (ls : List (List ℕ)) (l : List ℕ) → together ls ++ l ≡ together (ls ++ (l ∷ []))
unfolding together
together_more [] l = sym (append-nil l)
together_more (x ∷ ls) l = append_assoc x (together ls) l ∙ ap (λ (t : List ℕ). x ++ t) (together_more ls l)

-- one row more
pub rows_more : (P C : List ℕ) (k : ℕ) → length C ≡ length P → k < length P
    → row_lines (rows_with (take k P) (take k C)) ++ (row_line (get_or P k 0) (get_or C k 0) ∷ [])
    ≡ row_lines (rows_with (take (suc k) P) (take (suc k) C))
unfolding row_lines rows_with
rows_more [] C k e h = absurd (omega arith)
rows_more (q ∷ P) [] k e h = absurd (omega arith)
rows_more (q ∷ P) (c ∷ C) zero e h = refl
rows_more (q ∷ P) (c ∷ C) (suc k) e h = ap (λ (t : List (List ℕ)). row_line q c ∷ t) (rows_more P C k (omega arith) (omega arith))

-- ---- the run after an answer

settled_by : (b : Bool) (x y : State × Step) → Settled x → Settled y → Settled (cond b x y)
settled_by true x y p q = p
settled_by false x y p q = q

settled_ended : (r : State) (i n : ℕ) (R : List Row) (b : Bool) → Settled (ended round_rows r i n R b)
unfolding Settled
settled_ended r i n R true = refl
settled_ended r i n R false = tt

settled_end : (r : State) (i : ℕ) (o : Option (List Row)) → Settled (end_round round_rows r i o)
settled_end r i none = unfold Settled in tt
settled_end r i (some R) = settled_ended r (suc i) r.n R (eqb (suc i) r.polynomials)

settled_round : (r : State) (i : ℕ) (ws : List ℤ) (b : Bool) → Settled (round_step round_rows r i ws b)
settled_round r i ws true = unfold Settled in tt
settled_round r i ws false = settled_end r i (round_rows i r.rows ws)

settled_in : (r : State) (i : ℕ) (z : ℤ) → Settled (in_round round_rows r i z)
settled_in r zero (pos n) =
    settled_by (leb n most_points) _ _ (settled_ended r 0 n (row_if 0 n) (eqb n 0)) (unfold Settled in tt)
settled_in r zero (negsuc n) = unfold Settled in tt
settled_in r (suc i) z =
    settled_by (leb (nat_abs z) r.n) _ _
    (settled_round r i (r.answers ++ (z ∷ [])) (ltb (length (r.answers ++ (z ∷ []))) (2 * length r.products)))
    (unfold Settled in tt)

pub settled : (r : State) (z : ℤ) → Settled (answer_of round_rows r z)
unfolding answer_of
settled r z = go r.phase
  where
    go : (f : Phase) → Settled (in_phase round_rows r f z)
    go running = settled_in r r.round z
    go finished = unfold Settled in tt
    go closed = unfold Settled in tt

-- a record that is done
module _ (r : Run) (e : (state_of r).phase ≡ finished) where
  pub done-rows : (state_of r).rows ≡ rows_with (take r.rows r.patterns) (take r.rows r.counts)
  unfolding state_of
  done-rows = ap (λ (f : Phase). (state_in f r).rows) e

  pub done-few : r.rows ≤ most_points
  unfolding state_of run_phase
  done-few = go (is_running r) (is_done r) refl e
    where
      go : (b d : Bool) → is_done r ≡ d → cond b running (cond d finished closed) ≡ finished → r.rows ≤ most_points
      go true d f h = absurd (running_not_finished h)
      go false true f h = leb-true r.rows most_points (both_right (eqb r.phase 1) (leb r.rows most_points) (unfold is_done in f))
      go false false f h = absurd (closed_not_finished h)

-- so the rows of a record after an answer are few where that is the last
pub last_few : (r : Run) (y : Step) (x : State) (z : ℤ) → ◌≡◌ {A = State × Step} (state_of r, y) (answer_of round_rows x z) → y ≡ done
    → r.rows ≤ most_points
unfolding Settled
last_few r y x z e f =
    done-few r (subst (λ (u : Step). Settled (state_of r, u)) f (subst Settled (sym e) (settled x z)))

-- ---- one question

-- a line after which it is over
pub over-line : (o : Opened) (r : State) (out l out' : List ℕ) (at b : ℕ) (t : ProgressState) → PutLine out at l out' b
    → Plays (gives o r over l) out at out' b t true
unfolding Plays together
over-line o r out l out' at b t p =
    record {
      rest = [];
      prints = unfold Prints in refl;
      put = put_same (sym (append-nil l)) p.put;
      fits = omega (arith, p.fits);
    }

module _ (o : Opened) (α : ℕ) (z : ℤ) (r : Run) (step : code_step.Step) (out : List ℕ) (at : ℕ) where
  abbrev Goal : List ℕ → ℕ → ProgressState → Bool → Type 0
  Goal out' b t e = Plays (on_step o α z (state_of r, step_of step)) out at out' b t e

  -- it is enough to know the step
  known : (x : code_step.Step) (out' : List ℕ) (b : ℕ) (t : ProgressState) (e : Bool) → step ≡ x
      → Plays (on_step o α z (state_of r, step_of x)) out at out' b t e → Goal out' b t e
  known x out' b t e h p = subst (λ (y : code_step.Step). Plays (on_step o α z (state_of r, step_of y)) out at out' b t e) (sym h) p

  pub step-asks : (p : Product) (out' : List ℕ) (b : ℕ) → step ≡ steps.Ask p → PutLine out at (question_line α z) out' b
      → Goal out' b (asking o (state_of r) p.0) false
  unfolding on_step Plays
  step-asks p out' b h l = known (steps.Ask p) out' b (asking o (state_of r) p.0) false h (record { line = l; left = refl })

  pub step-refuses : (d : Refusal) (out' : List ℕ) (b : ℕ) (t : ProgressState) → step ≡ steps.Refused d
      → PutLine out at (refusal_line (number_of d)) out' b
      → Goal out' b t true
  unfolding on_step
  step-refuses d out' b t h l = known (steps.Refused d) out' b t true h
      (over-line o (state_of r) out (refusal_line (number_of d)) out' at b t l)

  abbrev rows : List Row
  rows = rows_with (take r.rows r.patterns) (take r.rows r.counts)

  pub step-ends : (out' out'' : List ℕ) (b d : ℕ) (t : ProgressState) → step ≡ steps.Done → Settled (state_of r, step_of step)
      → length r.patterns ≡ most_points → length r.counts ≡ most_points → PutLine out at (question_line α z) out' b
      → Put out' b (together (row_lines rows ++ (end_line r.asked ∷ []))) out'' d
      → d ≤ b + longest_line * (length (take r.rows r.patterns) + 1) → Goal out'' d t true
  unfolding on_step Plays Settled state_of
  step-ends out' out'' b d t h s lp lc l q m =
      let e : (state_of r).phase ≡ finished = subst (λ (y : code_step.Step). Settled (state_of r, step_of y)) h s in
      let few = done-few r e in
      let p_length = length-take-le r.rows r.patterns (omega (arith, few)) in
      let c_length = length-take-le r.rows r.counts (omega (arith, few)) in
      let same : rows ≡ (state_of r).rows = sym (done-rows r e) in
      let long = with_length (take r.rows r.patterns) (take r.rows r.counts) (p_length ∙ sym c_length) in
      let fewer : length (state_of r).rows ≤ most_points = rw (← same) (omega (arith, few, p_length, long)) in
      known steps.Done out'' d t true h
      (record {
        rest = row_lines (state_of r).rows ++ (end_line (state_of r).total ∷ []);
        prints = rows_print o (state_of r) e fewer [] (state_of r).rows refl;
        put = put_more l.put (subst (λ (R : List Row). Put out' b (together (row_lines R ++ (end_line r.asked ∷ []))) out'' d) same q);
        fits = omega (arith, few, p_length, l.fits);
      })

-- the same next line
pub plays_same : (x y : ProgressState × List ℕ) (out : List ℕ) (at : ℕ) (out' : List ℕ) (b : ℕ) (t : ProgressState) (e : Bool) → x ≡ y
    → Plays x out at out' b t e → Plays y out at out' b t e
plays_same x y out at out' b t e h p = subst (λ (u : ProgressState × List ℕ). Plays u out at out' b t e) h p

-- what the card answers, and the run after it
module _ (o : Opened) (α : ℕ) (q : Result SignCounts Refusal) (same : q ≡ opened_answer o α) (r : State) where
  pub next_counts : (t : SignCounts) (y : State × Step) → q ≡ Ok t → y ≡ answer_of round_rows r (panel_number t)
      → on_step o α (panel_number t) y ≡ next_of (asking o r α)
  unfolding next_of next_at on_answer
  next_counts t y e f = ap (on_step o α (panel_number t)) f ∙ ap (on_answer o r α) (sym e ∙ same)

  pub next_refused : (e : Refusal) → q ≡ Err e → gives o r over (refusal_line (number_of e)) ≡ next_of (asking o r α)
  unfolding next_of next_at on_answer
  next_refused d e = ap (on_answer o r α) (sym e ∙ same)
