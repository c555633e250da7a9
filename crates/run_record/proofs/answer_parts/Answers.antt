-- `run_record::answer_parts` meets its contract: the answer is that of the record put together, whose arrays are handed back.
use mathlib.Core.Path.{◌≡◌}
use mathlib.Core.List.{List}
use Prim.Native.Nat.{ℕ}
use lib.IntN.{ℤ}
use mir.Syntax.{w64}
use mir.ValLaws.{to_z-of_z}
use Rattle.runs.specs.Run.{Step}
use Rattle.run_record.specs.Record.{AnswerGives}
use Rattle.run_record.specs.declared.Run.{Run}
use Rattle.run_record.proofs.answer_parts.Goals as goal

handed : (before r : Run) (a : ℤ) (step : Step) (P C Q : List ℕ) (A : List ℤ)
    → (P ≡ r.patterns) × (C ≡ r.counts) × (Q ≡ r.products) × (A ≡ r.answers) → AnswerGives before a r step
    → AnswerGives before a (record {
      polynomials = r.polynomials;
      asked = r.asked;
      phase = r.phase;
      round = r.round;
      n = r.n;
      rows = r.rows;
      patterns = P;
      counts = C;
      products = Q;
      answered = r.answered;
      answers = A;
    }) step
handed before r a step P C Q A k g = rw (k.0, k.1, k.2, k.3) g

pub returns : goal.returns
returns c =
    let e = to_z-of_z w64 c.args.a c.ranges.a in
    handed _ _ _ _ _ _ _ _ c.hand_back.ensures (rw (← c.together-run.ensures) (rw e at c.answer-step.ensures))
