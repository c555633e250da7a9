-- The tests of a record: what they say, what passes them, and what the record stands for then.
use mathlib.Core.Path.{◌≡◌, refl, sym, ap, ◌∙◌, subst}
use mathlib.Core.Bool.{Bool, true, false, cond, ◌&&◌}
use mathlib.Core.List.{List, []}
use Prim.Native.Nat.{ℕ, ◌+◌, ◌*◌, ◌-◌, ◌^◌, ◌≤◌, ◌<◌}
use native.Mathlib.Decide.{ℕ_discrete}
use native.Mathlib.Omega.{arith}
use borrow.Author.Tests.{ltb-true, leb-true, eqb-true, lt-ltb, le-leb, eq-eqb, ne_eqb}
use lib.Dec.{eqb, leb, ltb}
use lib.IntN.{ℤ}
use lib.ListN.{take}
use Rattle.refusals.specs.Numbers.{late, is_among, closing_numbers}
use Rattle.refusals.specs.Limits.{most_points, most_polynomials}
use Rattle.signs.specs.Lists.{Below, is_below}
use Rattle.signs.proofs.Orders.{both_left, both_right, below_from, below_test}
use Rattle.rounds.specs.Rows.{rows_with}
use Rattle.rounds.specs.RoundEnd.{round_rows}
use Rattle.runs.specs.Run.{State, Phase, running, finished, closed, Step, ask, done, refused, start_of, answer_of}
use Rattle.runs.proofs.Steps.{answer-finished, answer-closed, not_late}
use Rattle.run_parts.specs.Parts.{in_limits}
use Rattle.run_record.specs.Record.{running_phase, done_phase, most_asked, is_sound, is_running, is_done, state_in, running_state}
use Rattle.run_record.specs.Record.{run_phase, run_of, state_of, ClosedWhere, AnswerGives, started_of, StartGives}
use Rattle.run_record.specs.declared.Head.{Head}
use Rattle.run_record.specs.declared.Run.{Run}

abbrev place : ℕ → ℕ → ℕ → ℕ → Bool
place asked round rows answered =
    cond (eqb round 0) (eqb answered 0 && eqb asked 0) (ltb answered (2 * rows) && leb asked (128 * round + answered))

place-first : (asked round rows answered : ℕ) → round ≡ 0 → place asked round rows answered ≡ true → (answered ≡ 0) × (asked ≡ 0)
place-first asked round rows answered e t =
    let k : eqb answered 0 && eqb asked 0 ≡ true = rw (eq-eqb round 0 e) at t in
    (eqb-true answered 0 (both_left (eqb answered 0) (eqb asked 0) k), eqb-true asked 0 (both_right (eqb answered 0) (eqb asked 0) k))

place_later : (asked round rows answered : ℕ) → 0 < round → place asked round rows answered ≡ true
    → (answered < 2 * rows) × (asked ≤ 128 * round + answered)
place_later asked round rows answered h t =
    let k : ltb answered (2 * rows) && leb asked (128 * round + answered) ≡ true = rw (ne_eqb round 0 (λ e. omega arith)) at t in (
      ltb-true answered (2 * rows) (both_left (ltb answered (2 * rows)) (leb asked (128 * round + answered)) k),
      leb-true asked (128 * round + answered) (both_right (ltb answered (2 * rows)) (leb asked (128 * round + answered)) k),
    )

place-asked : (asked round rows answered : ℕ) → place asked round rows answered ≡ true → asked ≤ 128 * round + answered
place-asked asked round rows answered t = go (ℕ_discrete round 0)
  where
    go : Dec (round ≡ 0) → asked ≤ 128 * round + answered
    go (yes e) = omega (arith, (place-first asked round rows answered e t).1)
    go (no e) = (place_later asked round rows answered (omega arith) t).1

pub record Limits (s asked round points rows answered : ℕ) : Type 0 where
  pub least : 1 ≤ s
  pub most : s ≤ 8
  pub rounds : round ≤ s
  pub few_points : points ≤ 64
  pub few_rows : rows ≤ 64
  pub at_first : round ≡ 0 → answered ≡ 0
  pub at_later : 0 < round → answered < 2 * rows
  pub few_asked : asked ≤ 128 * round + answered

pub limits_from : (s asked round points rows answered : ℕ) → in_limits s asked round points rows answered ≡ true
    → Limits s asked round points rows answered
unfolding in_limits
limits_from s asked round points rows answered e =
    let e₁ = both_right (leb 1 s) _ e in
    let e₂ = both_right (leb s most_polynomials) _ e₁ in
    let e₃ = both_right (leb round s) _ e₂ in
    let e₄ = both_right (leb points most_points) _ e₃ in
    let e₅ = both_right (leb rows most_points) _ e₄ in
    record {
      least = leb-true 1 s (both_left (leb 1 s) _ e);
      most = leb-true s 8 (both_left (leb s most_polynomials) _ e₁);
      rounds = leb-true round s (both_left (leb round s) _ e₂);
      few_points = leb-true points 64 (both_left (leb points most_points) _ e₃);
      few_rows = leb-true rows 64 (both_left (leb rows most_points) _ e₄);
      at_first = λ h. (place-first asked round rows answered h e₅).0;
      at_later = λ h. (place_later asked round rows answered h e₅).0;
      few_asked = place-asked asked round rows answered e₅;
    }

pub limits_to : (s asked round points rows answered : ℕ) → 0 < round → round ≤ s → s ≤ 8 → points ≤ 64 → rows ≤ 64 → answered < 2 * rows
    → asked ≤ 128 * round + answered → in_limits s asked round points rows answered ≡ true
unfolding in_limits
limits_to s asked round points rows answered h₀ h₁ h₂ h₃ h₄ h₅ h₆ =
    rw (
      le-leb 1 s (omega arith),
      le-leb s 8 h₂,
      le-leb round s h₁,
      le-leb points 64 h₃,
      le-leb rows 64 h₄,
      ne_eqb round 0 (λ e. omega arith),
      lt-ltb answered (2 * rows) h₅,
      le-leb asked (128 * round + answered) h₆,
    )
    refl

-- before the first answer
pub first-limits : (s : ℕ) → 1 ≤ s → s ≤ 8 → in_limits s 0 0 0 0 0 ≡ true
unfolding in_limits
first-limits s g h = rw (le-leb 1 s g, le-leb s 8 h, le-leb 0 s (omega arith)) refl

-- ---- a record

pub sound-limits : (r : Run) → is_sound r ≡ true → Limits r.polynomials r.asked r.round r.n r.rows r.answered
unfolding is_sound
sound-limits r e = limits_from _ _ _ _ _ _ (both_left (in_limits r.polynomials r.asked r.round r.n r.rows r.answered) _ e)

pub sound_below : (r : Run) → is_sound r ≡ true → 0 < r.round → Below (3 ^ (r.round - 1)) (take r.rows r.products)
unfolding is_sound
sound_below r e h =
    let t = both_right (in_limits r.polynomials r.asked r.round r.n r.rows r.answered) _ e in
    below_from _ _ (rw (ne_eqb r.round 0 (λ z. omega arith)) at t)

pub sound_to : (r : Run) → 0 < r.round → in_limits r.polynomials r.asked r.round r.n r.rows r.answered ≡ true
    → Below (3 ^ (r.round - 1)) (take r.rows r.products) → is_sound r ≡ true
unfolding is_sound
sound_to r h e b =
    rw (e, ne_eqb r.round 0 (λ z. omega arith), below_test (3 ^ (r.round - 1)) (take r.rows r.products) b) refl

pub first-sound : (r : Run) (s : ℕ) → 1 ≤ s → s ≤ 8 → r.polynomials ≡ s → r.asked ≡ 0 → r.round ≡ 0 → r.n ≡ 0 → r.rows ≡ 0
    → r.answered ≡ 0
    → is_sound r ≡ true
unfolding is_sound
first-sound r s g h e₁ e₂ e₃ e₄ e₅ e₆ =
    let t : in_limits r.polynomials r.asked r.round r.n r.rows r.answered ≡ true = cc (first-limits s g h) in
    rw (t, eq-eqb r.round 0 e₃) refl

-- the question that the answer to a running record counts
pub sound-asked : (r : Run) → is_sound r ≡ true → r.asked < most_asked
sound-asked r e = go (ℕ_discrete r.round 0) (sound-limits r e)
  where
    go : Dec (r.round ≡ 0) → Limits r.polynomials r.asked r.round r.n r.rows r.answered → r.asked < most_asked
    go (yes z) l = omega (arith, l.at_first z)
    go (no z) l = omega (arith, l.at_later (omega arith))

-- ---- what a record stands for

-- a record whose run goes on
pub running_phase_lem : (r : Run) → is_running r ≡ true → r.phase ≡ running_phase
unfolding is_running
running_phase_lem r e = eqb-true r.phase running_phase (both_left (eqb r.phase running_phase) (is_sound r) e)

pub running-sound : (r : Run) → is_running r ≡ true → is_sound r ≡ true
unfolding is_running
running-sound r e = both_right (eqb r.phase running_phase) (is_sound r) e

pub running_to : (r : Run) → r.phase ≡ running_phase → is_sound r ≡ true → is_running r ≡ true
unfolding is_running
running_to r p e = rw (eq-eqb r.phase running_phase p, e) refl

-- the phase gives what the record stands for
phase_is : (r : Run) (f : Phase) → run_phase r ≡ f → state_of r ≡ state_in f r
unfolding state_of
phase_is r f e = rw e refl

pub running_is : (r : Run) → is_running r ≡ true → state_of r ≡ running_state r
unfolding run_phase
running_is r e = phase_is r running (rw e refl)

-- whether a run goes on does not hang on its rows and answers
pub running_parts : (h : Head) (P C Q : List ℕ) (A : List ℤ) → is_running (run_of h [] [] Q []) ≡ is_running (run_of h P C Q A)
unfolding is_running is_sound
running_parts h P C Q A = refl

-- a record that is done
pub done-phase : (r : Run) → is_done r ≡ true → (r.phase ≡ done_phase) × (r.rows ≤ 64)
unfolding is_done
done-phase r e = (
  eqb-true r.phase done_phase (both_left (eqb r.phase done_phase) (leb r.rows most_points) e),
  leb-true r.rows 64 (both_right (eqb r.phase done_phase) (leb r.rows most_points) e),
)

not_running : (r : Run) → (r.phase ≡ running_phase → ⊥) → is_running r ≡ false
unfolding is_running
not_running r h = rw (ne_eqb r.phase running_phase h) refl

pub done_is : (r : Run) → is_done r ≡ true → state_of r ≡ state_in finished r
unfolding run_phase
done_is r e = phase_is r finished (rw (not_running r (λ z. omega (arith, z, (done-phase r e).0)), e) refl)

-- a record that is neither stands for a closed run
pub closed_is : (r : Run) → is_running r ≡ false → is_done r ≡ false → state_of r ≡ state_in closed r
unfolding run_phase
closed_is r e f = phase_is r closed (rw (e, f) refl)

not_done : (r : Run) → (r.phase ≡ done_phase → ⊥) → is_done r ≡ false
unfolding is_done
not_done r h = rw (ne_eqb r.phase done_phase h) refl

pub closed-phase : (r : Run) → r.phase ≡ 2 → state_of r ≡ state_in closed r
closed-phase r p = closed_is r (not_running r (λ z. omega (arith, z, p))) (not_done r (λ z. omega (arith, z, p)))

-- ---- a step that refuses nothing

module _ (run : Run) (x : Step) where
  pub done_open : (r : State) → ◌≡◌ {A = State × Step} (state_of run, x) (r, done) → ClosedWhere run x
  done_open r e k f =
      let g : done ≡ refused k = sym (ap (λ (o : State × Step). o.1) e) ∙ f in
      let y : ◌≡◌ {A = ℕ} 0 1 = cc in
      absurd (omega arith)

  pub ask_open : (r : State) (α : ℕ) → ◌≡◌ {A = State × Step} (state_of run, x) (r, ask α) → ClosedWhere run x
  ask_open r α e k f =
      let g : ask α ≡ refused k = sym (ap (λ (o : State × Step). o.1) e) ∙ f in
      let y : ◌≡◌ {A = ℕ} 0 1 = cc in
      absurd (omega arith)

-- ---- what a start promises

module _ (r : Run) (s : ℕ) (g : 1 ≤ s) (h : s ≤ 8) (e₁ : r.polynomials ≡ s) (p : r.phase ≡ running_phase) (e₂ : r.asked ≡ 0)
    (e₃ : r.round ≡ 0) (e₄ : r.n ≡ 0) (e₅ : r.rows ≡ 0) (e₆ : r.answered ≡ 0) where
  -- before the first answer
  first-state : ◌≡◌ {A = State × Step} (running_state r, ask 0) (start_of s, ask 0)
  unfolding rows_with
  first-state =
      let a : take r.rows r.patterns ≡ [] = ap (λ (n : ℕ). take n r.patterns) e₅ in
      let b : take r.rows r.products ≡ [] = ap (λ (n : ℕ). take n r.products) e₅ in
      let c : take r.answered r.answers ≡ [] = ap (λ (n : ℕ). take n r.answers) e₆ in
      let d : rows_with (take r.rows r.patterns) (take r.rows r.counts) ≡ [] = rw a refl in
      cc

  pub first_gives : StartGives s r (ask 0)
  unfolding started_of
  first_gives =
      record {
        by_rules =
            rw (le-leb 1 s g, le-leb s 8 h, running_is r (running_to r p (first-sound r s g h e₁ e₂ e₃ e₄ e₅ e₆))) first-state;
        closes = λ k e. let x : ◌≡◌ {A = ℕ} 0 1 = cc in absurd (omega arith);
      }

-- ---- what an answer promises

-- of a run that goes on: the rules never refuse it with 7
pub running_gives : (r r' : Run) (z : ℤ) (x : Step) → is_running r ≡ true → (state_of r', x) ≡ answer_of round_rows (running_state r) z
    → ClosedWhere r' x
    → AnswerGives r z r' x
running_gives r r' z x e h c =
    record {
      by_rules = rw (running_is r e) h;
      as_it_was = λ l. absurd (not_late round_rows (running_state r) z refl (sym (ap (λ (o : State × Step). o.1) h) ∙ l));
      closes = λ k l _. c k l;
    }

-- of any other
pub late_gives : (r : Run) (z : ℤ) → is_running r ≡ false → AnswerGives r z r (refused late)
unfolding is_among closing_numbers
late_gives r z e = record { by_rules = sym (go (is_done r) refl); as_it_was = λ _. refl; closes = λ k l t. absurd (no_close k l t) }
  where
    no_close : (k : ℕ) → refused late ≡ refused k → is_among k closing_numbers ≡ true → ⊥
    no_close k l t =
        let same : late ≡ k = cc in
        let x : is_among late closing_numbers ≡ true = subst (λ (j : ℕ). is_among j closing_numbers ≡ true) (sym same) t in
        let y : ◌≡◌ {A = ℕ} 0 1 = cc in
        omega arith

    go : (b : Bool) → is_done r ≡ b → answer_of round_rows (state_of r) z ≡ (state_of r, refused late)
    go true d = answer-finished round_rows (state_of r) z (ap (λ (s : State). s.phase) (done_is r d))
    go false d = answer-closed round_rows (state_of r) z (ap (λ (s : State). s.phase) (closed_is r e d))

-- ---- what the code knows of a record

-- a running record after the first answer
pub record Later (r : Run) : Type 0 where
  pub most : r.polynomials ≤ 8
  pub rounds : r.round ≤ r.polynomials
  pub few_points : r.n ≤ 64
  pub few_rows : r.rows ≤ 64
  pub place : r.answered < 2 * r.rows
  pub few_asked : r.asked ≤ 128 * r.round + r.answered
  pub least_asked : r.asked < most_asked

pub later_from : (r : Run) → is_running r ≡ true → 0 < r.round → Later r
later_from r e h =
    let l = sound-limits r (running-sound r e) in
    record {
      most = l.most;
      rounds = l.rounds;
      few_points = l.few_points;
      few_rows = l.few_rows;
      place = l.at_later h;
      few_asked = l.few_asked;
      least_asked = sound-asked r (running-sound r e);
    }

-- the test, as the code makes it
pub test_limits : (r : Run) → in_limits r.polynomials r.asked r.round r.n r.rows r.answered ≡ false → false ≡ is_sound r
unfolding is_sound
test_limits r e = rw e refl

pub test_first : (r : Run) → in_limits r.polynomials r.asked r.round r.n r.rows r.answered ≡ true → r.round ≡ 0
    → true ≡ is_sound r
unfolding is_sound
test_first r e z = rw (e, eq-eqb r.round 0 z) refl

pub test_later : (r : Run) → in_limits r.polynomials r.asked r.round r.n r.rows r.answered ≡ true → (r.round ≡ 0 → ⊥)
    → is_below (3 ^ (r.round - 1)) (take r.rows r.products) ≡ is_sound r
unfolding is_sound
test_later r e z = rw (e, ne_eqb r.round 0 z) refl

pub test_phase : (r : Run) → (r.phase ≡ running_phase → ⊥) → false ≡ is_running r
test_phase r h = sym (not_running r h)

pub test_running : (r : Run) → r.phase ≡ running_phase → is_sound r ≡ is_running r
unfolding is_running
test_running r p = rw (eq-eqb r.phase running_phase p) refl

pub test_not_done : (r : Run) → (r.phase ≡ done_phase → ⊥) → false ≡ is_done r
test_not_done r h = sym (not_done r h)

pub test_done : (r : Run) → r.phase ≡ done_phase → leb r.rows 64 ≡ is_done r
unfolding is_done
test_done r p = rw (eq-eqb r.phase done_phase p) refl
