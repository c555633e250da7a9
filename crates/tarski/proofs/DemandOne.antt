-- DEMAND 1 of the library for C, for the calls on lent records: on every run record and every opened card, each call known by its contract
-- alone.
use mathlib.Core.Path.{◌≡◌, ap, subst, sym, ◌∙◌}
use mathlib.Core.HLevel.{×_prop, →_prop}
use Prim.Native.Nat.{ℕ, ◌≤◌}
use native.Mathlib.Decide.{dec_le}
use native.Mathlib.Omega.{arith}
use borrow.Author.Tests.{le-leb, lt-leb}
use lib.IntN.{ℤ}
use Rattle.refusals.specs.Limits.{most_polynomials}
use Rattle.runs.specs.Run.{State, Step, ask, refused}
use Rattle.runs.proofs.Sets.{step_set}
use Rattle.query.specs.declared.Opened.{Opened}
use Rattle.run_record.specs.Record.{started_of}
use Rattle.run_record.specs.DemandOne.{AnswerClaim, DemandOne}
use Rattle.run_record.specs.declared.Run.{Run}
use Rattle.determination.proofs.Worlds.{fact_held}
use Rattle.run_record.proofs.Promises.{answer_claim, fetch_claim, copy_claim, claim_prop, run-set}
use Rattle.tarski.specs.declared.FlatStep.{FlatStep}
use Rattle.tarski.specs.declared.FlatCounts.{FlatCounts}
use Rattle.tarski.specs.Flat.{flat_step_of, kept_on, AnswerGivesFlat, StartGivesFlat}
use Rattle.tarski.specs.Plain.{step_from}
use Rattle.tarski.specs.Claim.{AskGives, StartClaim}
use Rattle.tarski.proofs.DemandTwo.{Asked, asked-answer, ask-gives}
use Rattle.tarski.proofs.DemandThree.{Started, Took, Fetches, Copies, step_back, keeps_fetches, keeps_copies}

answers : (c : Run) (z : ℤ) (c' : Run) (x : Step) → Took c z c' x → AnswerClaim c c' x
answers c z c' x u =
    rw (← u.was, ← u.left, u.gave)
    (fact_held u.world (AnswerGivesFlat u.args.0.now u.args.1.0 u.ends.0.now u.result) _ (claim_prop _ _ _)
    (λ (y, g, e). subst (λ (s : Step). AnswerClaim u.args.0.now u.ends.0.now s) (sym (ap step_from e ∙ step_back y))
    (answer_claim _ u.args.1.0 _ y g)) u.kept)

-- DEMAND 1 for answers, row fetches and copies, on any record
pub demand1_library : DemandOne Took Fetches Copies
demand1_library = record {
  answers = answers;
  fetches = λ c p x u. rw (keeps_fetches c p x u) (fetch_claim c p);
  copies = λ c a b x u. rw (keeps_copies c a b x u) (copy_claim c a b);
}

-- DEMAND 1 for a query on a lent opened card, whatever it holds
pub demand1_library_ask : (k : Opened) (α : ℕ) (o : FlatCounts) → Asked k α o → AskGives k α o
demand1_library_ask k α o a = rw (asked-answer k α o a) (ask-gives k α)

-- ---- a start

module _ (s : ℕ) (c c' : Run) (t : FlatStep) (g : StartGivesFlat c s c' t) where
  begins : 1 ≤ s → s ≤ 8 → step_from t ≡ ask 0
  unfolding started_of kept_on
  begins h m =
      let e : t ≡ flat_step_of (ask 0) = ap (λ (p : State × FlatStep). p.1) (rw (le-leb 1 s h, le-leb s most_polynomials m) at g.0) in
      ap step_from e ∙ step_back (ask 0)

  refusal : ((1 ≤ s) × (s ≤ 8) → ⊥) → t ≡ flat_step_of (refused 3)
  unfolding started_of kept_on
  refusal h = go (dec_le 1 s) (dec_le s 8)
    where
      go : Dec (1 ≤ s) → Dec (s ≤ 8) → t ≡ flat_step_of (refused 3)
      go (yes a) (yes b) = absurd (h (a, b))
      go (yes a) (no b) =
          ap (λ (p : State × FlatStep). p.1) (rw (le-leb 1 s a, lt-leb s most_polynomials (omega arith)) at g.0)
      go (no a) b = ap (λ (p : State × FlatStep). p.1) (rw (lt-leb 1 s (omega arith)) at g.0)

  start_claim : StartClaim s c c' (step_from t)
  start_claim = record {
    begins = begins;
    refuses = λ h. (ap step_from (refusal h) ∙ step_back (refused 3), g.1 (refusal h));
  }

claim_of_start_prop : (s : ℕ) (c c' : Run) (x : Step) → IsProp (StartClaim s c c' x)
claim_of_start_prop s c c' x u v = λ i. record {
  begins = →_prop (→_prop (step_set _ _)) u.begins v.begins i;
  refuses = →_prop (×_prop (step_set _ _) (run-set _ _)) u.refuses v.refuses i;
}

-- and for a start in a record that holds anything
pub demand1_library_start : (s : ℕ) (c : Run) (x : Step) (u : Started s c x) → StartClaim s u.args.0.now c x
demand1_library_start s c x u =
    rw (← u.left, u.gave, ← u.for)
    (fact_held u.world (StartGivesFlat u.args.0.now u.args.1.0 u.ends.0.now u.result) _ (claim_of_start_prop _ _ _ _)
    (start_claim u.args.1.0 _ _ u.result) u.kept)
