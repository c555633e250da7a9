-- `run_parts::copy_answers` meets its contract: the answers passed are copied, and the flag says whether they are small.
use Rattle.integers.proofs.Stores.{Copying}
use Rattle.run_parts.proofs.AnswerLaws.{Told}
use Rattle.run_parts.proofs.copy_answers.Given as goal

abbrev pub invariant-loop-k : goal.invariant-loop-k
invariant-loop-k l = Copying l.answers l.initial.out l.out l.k × Told l.all l.answers l.k
