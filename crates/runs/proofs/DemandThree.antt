-- DEMAND 3, proved: the claim holds after every list of calls on one run, for every number s of polynomials from 1 on.
use mathlib.Core.Path.{◌≡◌, refl, sym, ap, ◌∙◌, subst}
use mathlib.Core.Logic.{◌≢◌, ◌⊎◌, inl, inr, ◌↔◌}
use mathlib.Core.Option.{Option}
use mathlib.Core.List.{List, [], ◌∷◌, ◌++◌, append-nil}
use Prim.Native.Nat.{ℕ, zero, suc, ◌+◌, ◌*◌, ◌<◌, ◌≤◌}
use native.Mathlib.Omega.{arith}
use native.Mathlib.Decide.{dec_lt}
use lib.IntN.{ℤ, pos}
use lib.ListN.{length, replicate, take, drop, length-replicate, length-append, length-take, take-append-drop}
use lib.Seq.{take-length, take-take}
use Rattle.refusals.specs.Limits.{most_polynomials}
use Rattle.signs.specs.Lists.{times}
use Rattle.runs.specs.Demand.{Call, Event, state_after, events, taken, given, closed_by, waiting, NoCounts, SomeFits, Claim, ClaimFor}
use Rattle.runs.specs.Demand.{Demand3}
use Rattle.rounds.specs.NextRows.{RightRows}
use Rattle.rounds.specs.RoundEnd.{round_rows}
use Rattle.rounds.specs.Rounds.{round_of, Answered, Determined, AtEnd, LastEnded, Past, InOrder, RowsAfter}
use Rattle.rounds.specs.Rows.{Row, patterns, repeated, Positive, Oracle, realized, IsRealized, Fits}
use Rattle.runs.specs.Run.{ask, Phase, running, finished, closed, State, start_of}
use Rattle.rounds.proofs.RowLaws.{times_single}
use Rattle.rounds.proofs.Realized.{realized_true}
use Rattle.rounds.proofs.Answers.{Facts, facts, round-length}
use Rattle.runs.proofs.Phases.{running_not_closed, finished_not_closed, running_not_finished, closed_not_finished}
use Rattle.runs.proofs.Causes.{OutOfLimits, Cause, limits-take, none_in, fits_in, counts_fit, is_8, is_9, is_10, why_8, why_9}
use Rattle.runs.proofs.Causes.{why_10}
use Rattle.runs.proofs.Invariant.{At, Inv, start_inv, asked-once, going_length, going_fits, going_in}
use Rattle.rounds.proofs.RoundEnds.{round_rows_right}
use Rattle.rounds.proofs.Rounds.{at_end, answered-past, end_nonempty, not_ended, rows_oracle, realized-rows, fits-first, fits-take}
use Rattle.rounds.proofs.Rounds.{fits_end}
use Rattle.runs.proofs.Story.{Story, story, not_done_no_rows}
use Rattle.rounds.proofs.Questions.{exact-sum, one-row, at-most-593}
use Rattle.signs.proofs.Size.{total}

points-some : (R : List Row) → Positive R → 0 < length R → 0 < length (repeated R)
unfolding Positive repeated
points-some [] p h = h
points-some (r ∷ R) p h =
    omega (arith, length-append (replicate r.count r.pattern) (repeated R), length-replicate r.count r.pattern, p.0)

module _ (s : ℕ) (h : 1 ≤ s) (r : State) (zs : List ℤ) (ps : List ℕ) where
  each_length : (f : Phase) (k : ℕ) → At s r zs ps f k → length ps ≡ length zs + waiting f
  unfolding waiting
  each_length running zero (a, b, c) = omega (arith, ap length a, ap length b)
  each_length running (suc i) g = going_length s r zs ps i g
  each_length finished k c = omega (arith, (facts s zs ps r.rows c).lengths)
  each_length closed k x = omega (arith, x.pairs)

  once-all : (f : Phase) (k : ℕ) → At s r zs ps f k → (α : ℕ) → times α ps ≤ 1
  once-all running zero (a, b, c) α = rw b (times_single α 0)
  once-all running (suc i) g α =
      rw g.products (asked-once i (suc (length r.answers)) g.before g.asked r.rows g.determined α)
  once-all finished k c α = (facts s zs ps r.rows c).once α
  once-all closed k x α = x.once α

  order_all : (f : Phase) (k : ℕ) → At s r zs ps f k → InOrder s zs ps
  unfolding InOrder
  order_all running zero (a, b, c) = inl b
  order_all running (suc i) g =
      inr (
        i,
        g.in_range,
        record { before = g.before; now = r.answers; asked = g.asked; rows = r.rows; determined = g.determined; answers = g.answers },
        suc (length r.answers),
        g.products,
      )
  order_all finished k c = last_round s h c
    where
      last_round : (m : ℕ) → 1 ≤ m → Determined m zs ps r.rows
          → (ps ≡ 0 ∷ []) ⊎ ((i : ℕ) × (i < m) × (a : Past i zs) × (more : ℕ)
          × (ps ≡ a.asked ++ take more (round_of i (patterns a.rows))))
      last_round zero h c = absurd (omega arith)
      last_round (suc i) h c =
          let a : Answered i (Determined i) zs ps = (unfold Determined in c.0) in
          inr (
            i,
            omega arith,
            answered-past i zs ps a,
            length (round_of i (patterns a.rows)),
            a.products ∙ ap (λ (l : List ℕ). a.asked ++ l) (sym (take-length (round_of i (patterns a.rows)))),
          )
  order_all closed k x = x.order

  open_all : (f : Phase) (k : ℕ) → At s r zs ps f k → SomeFits s ps zs → f ≢ closed
  open_all running zero x t = running_not_closed
  open_all running (suc i) x t = running_not_closed
  open_all finished k x t = finished_not_closed
  open_all closed k x t = absurd (x.none_fits t)

  -- ---- closed in time

  closed_all : (f : Phase) (c : ℕ) → At s r zs ps f c → (k m i : ℕ) (qs : List ℕ) → k ≤ m → m ≤ length zs → i ≤ s
      → (SomeFits s ps (take k zs) → ⊥) → AtEnd i (take m zs) qs → (f ≡ closed) × (length zs ≡ m)
  closed_all f c x k m i qs hk hm hi none_fits e = go f c x
    where
      -- what fits the first m answers fits the first k
      none_later : SomeFits s ps (take m zs) → ⊥
      none_later t =
          none_fits (t.0, t.1, subst (Fits s t.0 ps) (take-take k m zs hk) (fits-take s t.0 ps (take m zs) k t.2))

      go : (f : Phase) (c : ℕ) → At s r zs ps f c → (f ≡ closed) × (length zs ≡ m)
      go running zero (a, b, c) = absurd (omega (arith, end_nonempty i (take m zs) qs e, length-take m zs, ap length a))
      go running (suc c) g = absurd (none_later (going_fits s r zs ps c g m i qs hm e))
      go finished c d =
          absurd (none_later (fits_end s zs ps i s m zs [] qs ps r.rows (omega arith) hi hm d (sym (append-nil zs)) e []
          (sym (append-nil ps))))
      go closed c x = last (dec_lt m (length zs))
        where
          last : Dec (m < length zs) → (closed ≡ closed) × (length zs ≡ m)
          last (yes b) = absurd (none_later (x.in_time m i qs b e))
          last (no b) = (refl, omega arith)

  -- ---- which number closes

  -- the answers of a done run are in their limits
  finished_in : Determined s zs ps r.rows → OutOfLimits zs → ⊥
  finished_in c =
      let F = facts s zs ps r.rows c in
      let (O, f) = rows_oracle s s zs ps r.rows (omega arith) F in
      fits_in s (repeated r.rows) F.later_products zs O
      (subst (λ (l : List ℕ). Fits s (repeated r.rows) l zs) F.first_product f)

  -- an answer out of its limits closes the run, and no other is taken after it
  limits-all : (f : Phase) (k : ℕ) → At s r zs ps f k → (m : ℕ) → m < length zs → OutOfLimits (take m zs) → ⊥
  limits-all running zero (a, b, c) m h o = absurd (omega (arith, ap length a))
  limits-all running (suc i) g m h o = going_in s r zs ps i g (limits-take m zs o)
  limits-all finished k c m h o = finished_in c (limits-take m zs o)
  limits-all closed k x m h o = x.at_once m h o

  closes-all : (f : Phase) (k : ℕ) → At s r zs ps f k → OutOfLimits zs → f ≡ closed
  closes-all running zero (a, b, c) o = absurd (none_in (subst OutOfLimits a o))
  closes-all running (suc i) g o = absurd (going_in s r zs ps i g o)
  closes-all finished k c o = absurd (finished_in c o)
  closes-all closed k x o = refl

  no_counts-all : (f : Phase) (k : ℕ) → At s r zs ps f k → NoCounts s zs ps → f ≡ closed
  no_counts-all f k x c =
      (closed_all f k x (length zs) (length zs) (suc c.0) ps (omega arith) (omega arith) c.1
      (λ t. counts_fit s zs ps c (subst (SomeFits s ps) (take-length zs) t))
      (subst (λ (l : List ℤ). AtEnd (suc c.0) l ps) (sym (take-length zs)) (unfold AtEnd in c.2))).0

  -- ---- done at the end

  done_all : (f : Phase) (k : ℕ) → At s r zs ps f k → (f ≡ finished) ↔ (LastEnded s zs × SomeFits s ps zs)
  unfolding LastEnded
  done_all running zero (a, b, c) = (λ e. absurd (running_not_finished e), λ t. absurd (go t.0.0 t.0.1))
    where
      go : (k : ℕ) → (take k zs ≡ pos 0 ∷ []) ⊎ ((qs : List ℕ) × AtEnd s (take k zs) qs) → ⊥
      go k (inl e) = omega (arith, ap length e, length-take k zs, ap length a)
      go k (inr (qs, e)) = omega (arith, end_nonempty s (take k zs) qs e, length-take k zs, ap length a)
  done_all running (suc i) g = (λ e. absurd (running_not_finished e), λ t. absurd (go t.0.0 t.0.1))
    where
      F : Facts i g.before g.asked r.rows
      F = facts i g.before g.asked r.rows g.determined

      held : r.n ≡ length (repeated r.rows)
      held =
          fits-first i (repeated r.rows) g.asked g.before r.n g.later_answers F.later_products g.first-answer
          F.first_product F.fits

      go : (k : ℕ) → (take k zs ≡ pos 0 ∷ []) ⊎ ((qs : List ℕ) × AtEnd s (take k zs) qs) → ⊥
      go k (inl e) =
          let m : pos 0 ∷ drop k zs ≡ pos r.n ∷ (g.later_answers ++ r.answers) =
          ap (λ (l : List ℤ). l ++ drop k zs) (sym e) ∙ take-append-drop k zs ∙ g.answers
          ∙ ap (λ (l : List ℤ). l ++ r.answers) g.first-answer in
          let n : 0 ≡ r.n = cc in
          omega (arith, held, points-some r.rows F.rows.positive (omega (arith, g.unfinished, round-length i r.rows F.rows)))
      go k (inr (qs, e)) =
          not_ended s i (take k zs) (drop k zs) g.before r.answers qs g.asked r.rows g.in_range e g.determined
          (take-append-drop k zs ∙ g.answers) g.unfinished
  done_all finished k c =
      let F : Oracle s (repeated r.rows)
      × Fits s (repeated r.rows) ps zs = rows_oracle s s zs ps r.rows (omega arith) (facts s zs ps r.rows c) in (
        λ e. (
          (length zs, inr (ps, subst (λ (l : List ℤ). AtEnd s l ps) (sym (take-length zs)) (at_end s zs ps r.rows c))),
          (repeated r.rows, F.0, F.1),
        ),
        λ t. refl,
      )
  done_all closed k x = (λ e. absurd (closed_not_finished e), λ t. absurd (x.none_fits t.1))

  -- ---- the realized list

  key-all : (f : Phase) (k : ℕ) → At s r zs ps f k → f ≡ finished → (E : List ℕ) → Oracle s E → Fits s E ps zs → realized s E ≡ r.rows
  key-all running zero x e E ex f = absurd (running_not_finished e)
  key-all running (suc i) x e E ex f = absurd (running_not_finished e)
  key-all finished k c e E ex f =
      let F : Facts s zs ps r.rows = facts s zs ps r.rows c in
      realized-rows s E r.rows F.rows (F.only E ex.below f)
  key-all closed k x e E ex f = absurd (closed_not_finished e)

  few-all : (f : Phase) (k : ℕ) → At s r zs ps f k → f ≡ finished → length zs ≤ 2 * length r.rows * s + 1
  few-all running zero x e = absurd (running_not_finished e)
  few-all running (suc i) x e = absurd (running_not_finished e)
  few-all finished k c e = let F : Facts s zs ps r.rows = facts s zs ps r.rows c in omega (arith, F.lengths, F.few)
  few-all closed k x e = absurd (closed_not_finished e)

  exact-all : (f : Phase) (k : ℕ) → At s r zs ps f k → f ≡ finished → zs ≢ pos 0 ∷ [] → r.total ≡ length zs
      → (c : ℕ → ℕ) × ((i : ℕ) → i < s → RowsAfter i zs (c i)) × (c 0 ≡ 1) × (r.total ≡ 1 + 2 * total c s)
  exact-all running zero x e m n = absurd (running_not_finished e)
  exact-all running (suc i) x e m n = absurd (running_not_finished e)
  exact-all finished k d e m n =
      let (c, each, sum) = exact-sum s zs ps r.rows d in
      (c, each, one-row s (c 0) zs ps r.rows d m (each 0 h), omega (arith, n, sum, (facts s zs ps r.rows d).lengths))
  exact-all closed k x e m n = absurd (closed_not_finished e)

  most-all : (f : Phase) (k : ℕ) → At s r zs ps f k → f ≡ finished → s ≤ most_polynomials → r.total ≡ length zs → r.total ≤ 593
  most-all running zero x e m n = absurd (running_not_finished e)
  most-all running (suc i) x e m n = absurd (running_not_finished e)
  most-all finished k d e m n =
      let (c, each, sum) = exact-sum s zs ps r.rows d in
      at-most-593 s r.total zs c m each (omega (arith, n, sum, (facts s zs ps r.rows d).lengths))
  most-all closed k x e m n = absurd (closed_not_finished e)

  -- ---- the claim

  claim : (t : List Event) (R : List Row) → Story s running R [] (0 ∷ []) t r → zs ≡ taken running t → ps ≡ 0 ∷ given running t
      → Inv s r zs ps
      → Claim s (ask 0) ps zs r.phase r.total t
  claim t R S a b I =
      record {
        starts = refl;
        orderly = S.orderly;
        answer_each = each_length r.phase r.round I.at;
        once = once-all r.phase r.round I.at;
        in_order = order_all r.phase r.round I.at;
        counted = I.count;
        open_while = open_all r.phase r.round I.at;
        closed_by_number = closed_all r.phase r.round I.at;
        closed_by_8 = (
          λ e. why_8 s zs ps (because 8 e),
          λ o. named 8 (closes-all r.phase r.round I.at (inl o)) (λ k c. is_8 s zs ps k c o),
        );
        closed_by_9 = (
          λ e. why_9 s zs ps (because 9 e),
          λ o. named 9 (closes-all r.phase r.round I.at (inr o)) (λ k c. is_9 s zs ps k c o),
        );
        closed_by_10 = (
          λ e. why_10 s zs ps (because 10 e),
          λ o. named 10 (no_counts-all r.phase r.round I.at o.0) (λ k c. is_10 s zs ps k c o.0 o.1),
        );
        at_once = limits-all r.phase r.round I.at;
        done_when = done_all r.phase r.round I.at;
        key = λ e. (
          r.rows,
          record {
            same_list = key-all r.phase r.round I.at e;
            true_list = λ E O f. subst (IsRealized E) (key-all r.phase r.round I.at e E O f) (realized_true s E O.below);
            served = S.served r.rows (λ _. refl);
            few = omega (arith, I.count, few-all r.phase r.round I.at e);
          },
        );
        no_rows = λ n. not_done_no_rows running [] t (λ e. n (sym S.phase ∙ e)) (S.served [] (λ e. absurd (n e)));
        exact = λ e m. exact-all r.phase r.round I.at e m I.count;
        most = λ e m. most-all r.phase r.round I.at e m I.count;
      }
    where
      because : (k : ℕ) → closed_by running t ≡ k ∷ [] → Cause s k zs ps
      because k e = rw (a, b) (S.cause k e)

      named : (k : ℕ) → r.phase ≡ closed → ((j : ℕ) → Cause s j zs ps → j ≡ k) → closed_by running t ≡ k ∷ []
      named k e w = let (j, m) = S.number refl e in m ∙ ap (λ (x : ℕ). x ∷ []) (w j (because j m))

-- for every s, and every way to end a round that is right
pub demand3_for : (N : ℕ → List Row → List ℤ → Option (List Row)) → RightRows N → (s : ℕ) → 1 ≤ s → (calls : List Call) → ClaimFor N s calls
demand3_for N right s h calls =
    let S : Story s running [] [] (0 ∷ []) (events N (start_of s) calls) (state_after N (start_of s) calls) =
    story N right s h calls (start_of s) [] (0 ∷ []) (start_inv s) in
    subst (λ (f : Phase). Claim s (ask 0) (0 ∷ given running t) (taken running t) f (state_after N (start_of s) calls).total t)
    (sym S.phase)
    (claim s h (state_after N (start_of s) calls) (taken running t) (0 ∷ given running t) t [] S refl refl S.inv)
  where
    t : List Event
    t = events N (start_of s) calls

-- DEMAND 3
pub demand3 : Demand3
demand3 s h most calls = demand3_for round_rows round_rows_right s h calls
