-- The record as the code writes it stands for what the rules give: a round goes on, ends, and the next one begins.
use mathlib.Core.Path.{◌≡◌, refl, sym, ap, ◌∙◌, subst}
use mathlib.Core.Bool.{Bool, true, false}
use mathlib.Core.Option.{Option, some, none}
use mathlib.Core.List.{List, [], ◌∷◌, ◌++◌}
use Prim.Native.Nat.{ℕ, zero, suc, ◌+◌, ◌*◌, ◌-◌, ◌^◌, ◌≤◌, ◌<◌}
use native.Mathlib.Numerals.{add-one}
use native.Mathlib.Omega.{arith}
use lib.Dec.{eqb}
use lib.IntN.{ℤ, pos, negsuc, nat_abs}
use lib.ListN.{length, take, drop, set, length-append, length-take}
use mir.Syntax.{w8}
use mir.Val.{SFits}
use lib.Seq.{length-take-le, take_at}
use Rattle.signs.specs.Lists.{Below}
use Rattle.signs.specs.Adapted.{adapted}
use Rattle.signs.proofs.Blocks.{adapted_below}
use Rattle.rounds.specs.Rows.{Row, patterns, counts, row_if, rows_with}
use Rattle.rounds.specs.RoundEnd.{round_rows}
use Rattle.run_round_end.specs.Outcome.{Left}
use Rattle.rounds.proofs.RowLaws.{length-patterns}
use Rattle.run_round_end.proofs.StepLaws.{length-counts}
use Rattle.runs.specs.Run.{State, Step, ask, round_product, ended, end_round, round_step}
use Rattle.run_record.specs.Record.{running_phase, is_sound, is_running, running_state, state_of, run_of}
use Rattle.run_record.specs.declared.Head.{Head}
use Rattle.run_record.specs.declared.Run.{Run}
use Rattle.runs.proofs.Held.{with_patterns, with_own, stored, below_all}
use Rattle.run_record.proofs.Records.{later_from, sound_below, sound_to, limits_to, running_is, running_to, running_phase_lem}
use Rattle.run_record.proofs.Records.{running-sound}
use Rattle.std.specs.Prelude.{Option as Found, Some, None}

-- a record as the code leaves it after an answer to a run that goes on: one more question, and what it puts in place of the rest
abbrev pub counted : Run → (round points rows : ℕ) → (products : List ℕ) → (answered : ℕ) → (answers : List ℤ) → Run
counted r round points rows Q k A =
    record {
      polynomials = r.polynomials;
      asked = r.asked + 1;
      phase = r.phase;
      round = round;
      n = points;
      rows = rows;
      patterns = r.patterns;
      counts = r.counts;
      products = Q;
      answered = k;
      answers = A;
    }

-- and with other rows in its arrays
abbrev pub with_rows : Run → List ℕ → List ℕ → Run
with_rows r P C =
    record {
      polynomials = r.polynomials;
      asked = r.asked;
      phase = r.phase;
      round = r.round;
      n = r.n;
      rows = r.rows;
      patterns = P;
      counts = C;
      products = r.products;
      answered = r.answered;
      answers = r.answers;
    }

-- whether a run goes on does not hang on its rows
pub running_with : (r : Run) (P C : List ℕ) → is_running r ≡ is_running (with_rows r P C)
unfolding is_running is_sound
running_with r P C = refl

-- ---- the round goes on

-- an answer within 64 has 8 bits
pub narrow : (z : ℤ) → nat_abs z ≤ 64 → SFits w8 z
narrow (pos n) h = record { sfits = omega (arith, h) }
narrow (negsuc n) h = record { sfits = omega (arith, h) }

-- the answers with one more
pub stored_length : (l : List ℤ) (k : ℕ) (z : ℤ) → k ≤ length l → length (take k l ++ (z ∷ [])) ≡ k + 1
stored_length l k z h = omega (arith, length-append (take k l) (z ∷ []), length-take-le k l h)

module _ (r : Run) (a : ℤ) (few : length r.answers ≡ 128) (e : is_running r ≡ true) (later : 0 < r.round)
    (more : r.answered + 1 < 2 * r.rows) where
  abbrev gone_on : Run
  gone_on = counted r r.round r.n r.rows r.products (r.answered + 1) (set r.answers r.answered a)

  went_sound : is_sound gone_on ≡ true
  went_sound =
      let k = later_from r e later in
      sound_to gone_on later
      (limits_to r.polynomials (r.asked + 1) r.round r.n r.rows (r.answered + 1) later k.rounds k.most k.few_points
      k.few_rows more (omega arith))
      (sound_below r (running-sound r e) later)

  pub went_on : (p : ℕ) → p ≡ round_product (r.round - 1) (take r.rows r.products) (r.answered + 1)
      → ◌≡◌ {A = State × Step} (state_of gone_on, ask p)
      (round_step round_rows (running_state r) (r.round - 1) (take r.answered r.answers ++ (a ∷ [])) true)
  went_on p q =
      let k = later_from r e later in
      let g : r.answered < length r.answers = omega arith in
      let e₀ = running_is gone_on (running_to gone_on (running_phase_lem r e) went_sound) in
      let e₁ = add-one r.asked in
      let e₂ : r.round ≡ suc (r.round - 1) = omega arith in
      let e₃ = stored r.answers r.answered a g in
      let e₄ = stored_length r.answers r.answered a (omega arith) in
      rw e₀ (cc)

-- ---- the first answer: one row

pub first-front : (l : List ℕ) (x : ℕ) → 0 < length l → take 1 (set l 0 x) ≡ x ∷ []
first-front l x h = stored l 0 x h

pub first-row : (P C : List ℕ) (n : ℕ) → 0 < length P → 0 < length C → (n ≡ 0 → ⊥)
    → rows_with (take 1 (set P 0 0)) (take 1 (set C 0 n)) ≡ row_if 0 n
unfolding rows_with row_if
first-row P C zero g h e = absurd (e refl)
first-row P C (suc n) g h e = rw (first-front P 0 g, first-front C (suc n) h) refl

-- ---- the next round begins

-- the products of a round are of the polynomials before it
pub list_below : (i : ℕ) (L A : List ℕ) → L ≡ adapted i A → Below (3 ^ i) L
list_below i L A e = rw e (below_all (3 ^ i) (adapted i A) (λ α g. adapted_below i α A g))

module _ (r : Run) (i points rows : ℕ) (Q' : List ℕ) (nP : length r.patterns ≡ 64) (nC : length r.counts ≡ 64)
    (going : r.phase ≡ running_phase) (before : i < r.polynomials)
    (most : r.polynomials ≤ 8) (few_points : points ≤ 64) (few_asked : r.asked < 128 * suc i) (some-rows : 0 < rows)
    (few_rows : rows ≤ 64)
    (list : take rows Q' ≡ adapted i (take rows r.patterns)) where
  abbrev begun_run : Run
  begun_run = counted r (i + 1) points rows Q' 0 r.answers

  begun-sound : is_sound begun_run ≡ true
  begun-sound =
      let e : i + 1 - 1 ≡ i = omega arith in
      sound_to begun_run (omega arith)
      (limits_to r.polynomials (r.asked + 1) (i + 1) points rows 0 (omega arith) (omega arith) most few_points few_rows
      (omega arith) (omega arith))
      (subst (λ (j : ℕ). Below (3 ^ j) (take rows Q')) (sym e) (list_below i _ _ list))

  pub begun : (p : ℕ) → p ≡ round_product i (take rows Q') 0
      → ◌≡◌ {A = State × Step} (state_of begun_run, ask p)
      (ended round_rows (running_state r) i points (rows_with (take rows r.patterns) (take rows r.counts)) false)
  begun p q =
      let e₀ = running_is begun_run (running_to begun_run going begun-sound) in
      let e₁ = add-one r.asked in
      let e₂ = add-one i in
      let l₁ = length-take-le rows r.patterns (omega arith) in
      let l₂ = length-take-le rows r.counts (omega arith) in
      let e₃ = with_patterns (take rows r.patterns) (take rows r.counts) (l₁ ∙ sym l₂) in
      let e₄ : take rows Q' ≡ adapted i (patterns (rows_with (take rows r.patterns) (take rows r.counts))) = cc in
      rw e₀ (cc)

-- where a round ends with rows, the numbers before it are all that counts
pub ends-alike : (h : Head) (P C Q : List ℕ) (A : List ℤ) (P' C' Q' : List ℕ) (A' : List ℤ) (i : ℕ) (R : List Row)
    → end_round round_rows (running_state (run_of h P C Q A)) i (some R) ≡ end_round round_rows (running_state (run_of h P' C' Q' A')) i
    (some R)
ends-alike h P C Q A P' C' Q' A' i R = go (eqb (suc i) h.polynomials)
  where
    go : (b : Bool) → ended round_rows (running_state (run_of h P C Q A)) (suc i) h.n R b
        ≡ ended round_rows (running_state (run_of h P' C' Q' A')) (suc i) h.n R b
    go true = refl
    go false = refl

-- of a record with other rows
pub ends_with : (r : Run) (P C : List ℕ) (i : ℕ) (R : List Row)
    → end_round round_rows (running_state (with_rows r P C)) i (some R) ≡ end_round round_rows (running_state r) i (some R)
ends_with r P C i R =
    ends-alike
    (record {
      polynomials = r.polynomials;
      asked = r.asked;
      phase = r.phase;
      round = r.round;
      n = r.n;
      rows = r.rows;
      answered = r.answered;
    })
    P C r.products r.answers r.patterns r.counts r.products r.answers i R

-- ---- the end of a round, as the call left it

pub left_none : (o : Option (List Row)) (x : Found ℕ) (P C : List ℕ) → Left o x P C → x ≡ None → o ≡ none
left_none none x P C l e = refl
left_none (some R) x P C l e = let z : ◌≡◌ {A = ℕ} 0 1 = cc l.0 in absurd (omega arith)

pub record HasRows (o : Option (List Row)) (n : ℕ) (P C : List ℕ) : Type 0 where
  pub rows : List Row
  pub is : o ≡ some rows
  pub number : length rows ≡ n
  pub its_patterns : take n P ≡ patterns rows
  pub its_counts : take n C ≡ counts rows

pub left_some : (o : Option (List Row)) (x : Found ℕ) (n : ℕ) (P C : List ℕ) → Left o x P C → x ≡ Some n → HasRows o n P C
left_some none x n P C l e = let z : ◌≡◌ {A = ℕ} 0 1 = cc l in absurd (omega arith)
left_some (some R) x n P C l e =
    let k : length R ≡ n = cc l.0 in
    record {
      rows = R;
      is = refl;
      number = k;
      its_patterns = subst (λ (m : ℕ). take m P ≡ patterns R) k l.1;
      its_counts = subst (λ (m : ℕ). take m C ≡ counts R) k l.2;
    }

module _ (o : Option (List Row)) (n : ℕ) (P C : List ℕ) (s : HasRows o n P C) where
  pub some-few : length P ≡ 64 → n ≤ 64
  some-few e = omega (arith, s.number, length-patterns s.rows, ap length s.its_patterns, length-take n P)

  pub some-held : o ≡ some (rows_with (take n P) (take n C))
  some-held =
      let e : rows_with (take n P) (take n C) ≡ s.rows = rw (s.its_patterns, s.its_counts) (with_own s.rows) in
      s.is ∙ ap some (sym e)

  pub some-counts : n ≤ length C
  some-counts = omega (arith, s.number, length-counts s.rows, ap length s.its_counts, length-take n C)

  -- the same rows at the front of two other arrays
  pub some_copied : (P₀ C₀ P' C' : List ℕ) → length P ≡ 64 → n ≤ 64 → P' ≡ take n P ++ drop n P₀ → C' ≡ take n C ++ drop n C₀
      → HasRows o n P' C'
  some_copied P₀ C₀ P' C' e h p c =
      record {
        rows = s.rows;
        is = s.is;
        number = s.number;
        its_patterns = rw p (take_at (take n P) (drop n P₀) n (length-take-le n P (omega arith))) ∙ s.its_patterns;
        its_counts = rw c (take_at (take n C) (drop n C₀) n (length-take-le n C some-counts)) ∙ s.its_counts;
      }
