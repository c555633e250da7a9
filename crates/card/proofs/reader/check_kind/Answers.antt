-- `card::reader::check_kind` meets its contract.
use mathlib.Core.Path.{◌≡◌, sym, ap}
use borrow.Author.Tests.{lt-ltb, le-ltb, eq-eqb, ne_eqb}
use Rattle.refusals.specs.Refusals.{checked}
use Rattle.card.specs.Card.{kind_refusal}
use Rattle.card.proofs.reader.check_kind.Goals as goal

pub returns-then-card-lt4 : goal.returns-then-card-lt4
unfolding kind_refusal
returns-then-card-lt4 c = let e : kind_refusal c.args.card.now ≡ 1 = simp (lt-ltb _ 4 c.if-card-lt4.true) in ap checked (sym e)

pub returns-then-card-ne-LINE : goal.returns-then-card-ne-LINE
unfolding kind_refusal
returns-then-card-ne-LINE c =
    let e : kind_refusal c.args.card.now ≡ 2 = simp (le-ltb _ 4 c.if-card-lt4.false, ne_eqb _ 1 c.if-card-ne-LINE.true) in
    ap checked (sym e)

pub returns : goal.returns
unfolding kind_refusal
returns c =
    let e : kind_refusal c.args.card.now ≡ 0 = simp (le-ltb _ 4 c.if-card-lt4.false, eq-eqb _ 1 c.if-card-ne-LINE.false) in
    ap checked (sym e)
