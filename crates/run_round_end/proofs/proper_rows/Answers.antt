-- `run_round_end::proper_rows` meets its contract.
use Rattle.std.proofs.Common.{◌≡◌, sym, ◌∙◌, ◌&&◌, ◌^◌}
use Rattle.signs.specs.Lists.{is_below, is_rising}
use Rattle.run_round_end.specs.Steps.{proper_counts}
use Rattle.run_round_end.proofs.AndLaws.{asked, not_asked, then_last, not_last}
use Rattle.run_round_end.proofs.StepLaws.{proper_is}
use Rattle.run_round_end.proofs.proper_rows.Goals as goal
use Rattle.run_round_end.proofs.proper_rows.Goals.{then-rising, else-rising}

pub returns-then-below : goal.returns-then-below
returns-then-below c =
    let P = c.args.patterns.now in
    let A : c.if-rising.value ≡ is_rising P && is_below (3 ^ c.args.i) P =
    elim c.if-rising.branch [
      | then-rising w ↦ asked _ _ _ (sym c.rising.ensures ∙ w.if-rising.true) (w.value-is ∙ (rw w.power.ensures at w.below.ensures))
      | else-rising w ↦ not_asked _ _ _ (sym c.rising.ensures ∙ w.if-rising.false) (w.value-is ∙ w.if-rising.false)
    ] in
    rw (proper_is c.args.i P c.args.counts.now c.requires.1)
    (then_last _ _ _ _ _ A c.if-below.true c.proper_counts.ensures)

pub returns-else-below : goal.returns-else-below
returns-else-below c =
    let P = c.args.patterns.now in
    let A : c.if-rising.value ≡ is_rising P && is_below (3 ^ c.args.i) P =
    elim c.if-rising.branch [
      | then-rising w ↦ asked _ _ _ (sym c.rising.ensures ∙ w.if-rising.true) (w.value-is ∙ (rw w.power.ensures at w.below.ensures))
      | else-rising w ↦ not_asked _ _ _ (sym c.rising.ensures ∙ w.if-rising.false) (w.value-is ∙ w.if-rising.false)
    ] in
    rw (proper_is c.args.i P c.args.counts.now c.requires.1)
    (not_last (is_rising P) (is_below (3 ^ c.args.i) P) (proper_counts c.args.counts.now) _ A c.if-below.false)
