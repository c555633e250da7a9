-- `run_parts::copy_answers` meets its contract: the answers passed are copied, and the flag says whether they are small.
use lib.IntN.{pos}
use lib.ListN.{get_or}
use mir.Syntax.{w8, w16}
use mir.Val.{SFits}
use mir.Facts.{to_z-of_z, sfits_widen}
use Rattle.integers.proofs.Stores.{copying_next}
use Rattle.run_parts.proofs.AnswerLaws.{told_next}
use Rattle.run_parts.proofs.copy_answers.Goals as goal

pub loop-k-preserved : goal.loop-k-preserved
loop-k-preserved c =
    let a = c.args in
    let f : SFits w8 (get_or a.answers.now c.loop-k.k (pos 0)) = record { sfits = c.z-1.given } in
    let g : SFits w16 (get_or a.answers.now c.loop-k.k (pos 0)) = sfits_widen tt f in (
      copying_next (pos 0) a.answers.now a.out.now c.loop-k.out c.loop-k.k _ c.loop-k.invariant.0
          c.loop-k-test.true c.requires (rw (c.from.ensures, to_z-of_z f) (to_z-of_z g)),
      told_next c.loop-k.all c.still_within-all.result a.answers.now c.loop-k.k c.loop-k.invariant.1
          (rw (to_z-of_z f) at c.still_within-all.ensures),
    )
