-- `query::check_opened` meets its contract.
use mathlib.Core.Path.{sym, ap, ◌∙◌}
use Rattle.std.specs.Prelude.{Err}
use Rattle.query.proofs.Opening.{beyond, within, crowded, limits}
use Rattle.query.proofs.Own.{checked-numbered, checked-unlimited, checked-limited}
use Rattle.query.proofs.check_opened.Goals as goal
use Rattle.query.proofs.check_opened.Goals.{After-contains, then-not-contains-via-then-not-contains}
use Rattle.query.proofs.check_opened.Goals.{then-not-contains-via-else-not-contains+then-card-gt-MOST_POINTS}

pub returns-then-card-ne-NOT_REFUSED : goal.returns-then-card-ne-NOT_REFUSED
returns-then-card-ne-NOT_REFUSED c = ap Err c.refusal_by.ensures ∙ checked-numbered c.args.card c.if-card-ne-NOT_REFUSED.true

pub returns-then-not-contains : goal.returns-then-not-contains
returns-then-not-contains c =
    let o = c.args.card in
    let g = c.new.ensures in
    let e = rw (g.start, g.end, g.exhausted) at c.contains.ensures.value in
    checked-unlimited o c.if-card-ne-NOT_REFUSED.false
    (elim c.then-not-contains.branch [
      | then-not-contains-via-then-not-contains w ↦ beyond o.s o.n (sym e ∙ w.if-not-contains.true)
      | then-not-contains-via-else-not-contains+then-card-gt-MOST_POINTS w ↦
          let b = within o.s (sym e ∙ w.if-not-contains.false) in
          crowded o.s o.n b.0 b.1 w.if-card-gt-MOST_POINTS.true
    ])

pub returns : goal.returns
returns c =
    let o = c.args.card in
    let g = c.new.ensures in
    let b = within o.s (sym (rw (g.start, g.end, g.exhausted) at c.contains.ensures.value) ∙ c.if-not-contains.false) in
    checked-limited o c.if-card-ne-NOT_REFUSED.false (limits o.s o.n b.0 b.1 c.if-card-gt-MOST_POINTS.false)
