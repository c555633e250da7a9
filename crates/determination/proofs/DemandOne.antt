-- DEMAND 1 of the code, for the calls on a run: on every record, each call known by its contract alone, so that a weaker promise of any of
-- them breaks the theorem.
use Prim.Native.Nat.{ℕ}
use lib.IntN.{ℤ}
use Rattle.runs.specs.Run.{Step}
use Rattle.run_record.specs.declared.Run.{Run}
use Rattle.run_record.specs.Record.{step_of, AnswerGives}
use Rattle.run_record.specs.DemandOne.{StartClaim, AnswerClaim, DemandOne}
use Rattle.run_record.proofs.Promises.{answer_claim, start_claim, fetch_claim, copy_claim, claim_prop}
use Rattle.determination.proofs.Worlds.{fact_held}
use Rattle.determination.proofs.Contracts.{Started, Took, by_value, through_lent, on_lent, Fetches, Copies}
use Rattle.determination.proofs.Contracts.{keeps_fetches, keeps_copies}

answers : (c : Run) (z : ℤ) (c' : Run) (x : Step) → Took c z c' x → AnswerClaim c c' x
answers c z c' x (by_value u) = rw (u.left, u.gave) (answer_claim c z _ _ u.kept)
answers c z c' x (through_lent u) = rw (u.left, u.gave) (answer_claim c z _ _ u.kept)
answers c z c' x (on_lent u) =
    rw (← u.was, ← u.left, u.gave)
    (fact_held u.world (AnswerGives u.before.now z u.after.now (step_of u.result)) _ (claim_prop _ _ _)
    (answer_claim _ z _ _) u.kept)

-- DEMAND 1 for answers by value, lent or through, row fetches and copies, on any record
pub demand1_code : DemandOne Took Fetches Copies
demand1_code = record {
  answers = answers;
  fetches = λ c p x u. rw (keeps_fetches c p x u) (fetch_claim c p);
  copies = λ c a b x u. rw (keeps_copies c a b x u) (copy_claim c a b);
}

-- and for a start
pub demand1_start : (s : ℕ) (c : Run) (x : Step) → Started s c x → StartClaim s c x
demand1_start s c x u = rw (u.left, u.gave) (start_claim s _ _ u.kept)
