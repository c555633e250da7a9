-- `printout::put_lines` meets its contract: after k questions their lines stand at the front, and the rest of the printout is left.
use mathlib.Core.Path.{◌≡◌, refl, sym, ap, ◌∙◌}
use Prim.Native.Nat.{◌*◌, ◌≤◌}
use native.Mathlib.Omega.{arith}
use lib.ListN.{length, take}
use lib.Seq.{length-take-le}
use Rattle.runs.specs.Run.{State, Step}
use Rattle.printout.specs.Printout.{printout_of}
use Rattle.printout.specs.Written.{most_lines, short_line, most_text}
use Rattle.printout.specs.Steps.{Plays}
use Rattle.printout.proofs.Remaining.{left-short, left_begin, left-few, left_goes, left-all}
use Rattle.printout.proofs.put_lines.Goals as goal
use Rattle.printout.proofs.put_lines.Goals.{At-loop-k}

pub loop-k-init : goal.loop-k-init
loop-k-init c =
    let o = c.open-opened in (
      omega arith,
      c.requires,
      left_begin c.args.card.now o.result _ o.ensures
          (λ a b. ap (λ (x : State × Step). x.0) c.start.ensures.by_rules),
    )

-- what is written is short
module _ (c : At-loop-k) where
  short : c.loop-k.at ≤ short_line * most_lines
  short =
      omega (
        arith,
        left-short _ _ _ _ c.loop-k.invariant.2,
        length-take-le c.loop-k.at c.loop-k.out (omega (arith, c.loop-k.invariant.0, c.loop-k.invariant.1)),
      )

pub put_question-played-requires : goal.put_question-played-requires
put_question-played-requires c = omega (arith, short (goal.at.put_question-played-requires c).At-loop-k, c.loop-k.invariant.1)

pub returns-then-played : goal.returns-then-played
unfolding Plays
returns-then-played c =
    let card = c.args.card.now in
    let g = rw c.if-played.true at c.put_question-played.ensures in
    let e : take c.put_question-played.result.at c.put_question-played.new.out ≡ printout_of card =
    g.put.text ∙ left-all card _ _ _ _ _ c.loop-k.invariant.2 g.rest g.prints in
    let h : c.put_question-played.result.at ≤ most_text = omega (arith, g.fits, short (goal.at.returns-then-played c).At-loop-k) in (
      e,
      sym (length-take-le c.put_question-played.result.at c.put_question-played.new.out
          (omega (arith, c.put_question-played.auto, c.loop-k.invariant.1))) ∙ ap length e,
      h,
    )

pub loop-k-preserved : goal.loop-k-preserved
unfolding Plays
loop-k-preserved c =
    let g = rw c.if-played.false at c.put_question-played.ensures in (
      omega (arith, g.line.fits, short (goal.at.loop-k-preserved c).At-loop-k),
      omega (arith, c.put_question-played.auto, c.loop-k.invariant.1),
      left_goes _ _ _ _ _ _ c.loop-k.invariant.2 c.loop-k.out _ c.loop-k.at _ _ refl g,
    )

pub returns : goal.returns
returns c =
    absurd (omega (arith, left-few _ _ _ _ _ _ c.loop-k.invariant.2, c.loop-k-test.false))
