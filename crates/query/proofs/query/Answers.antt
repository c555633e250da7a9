-- `query::query` meets its contract.
use mathlib.Core.Path.{sym, ap, subst, ◌∙◌}
use Prim.Native.Nat.{ℕ, ◌^◌, ◌≤◌, ◌<◌}
use native.Mathlib.Omega.{arith}
use Rattle.std.specs.Prelude.{Ok}
use Rattle.std.proofs.lemmas.Result.{err_from_is_err_and}
use Rattle.layout.specs.Format.{polynomials}
use Rattle.plane.specs.Contents.{contents_of}
use Rattle.plane.proofs.Contents.{points-few}
use Rattle.card.proofs.Positions.{Taken, taken}
use Rattle.query.specs.declared.Opened.{Opened}
use Rattle.query.specs.Opened.{counts_on}
use Rattle.query.proofs.Opening.{counts_are}
use Rattle.query.proofs.Answers.{query-sound, query-past, query_read}
use Rattle.query.proofs.query.Goals as goal
use Rattle.query.proofs.query.Goals.{In_ok-shape}

read_as : (c : In_ok-shape) → Taken c.args.card.now c.in_ok-shape.shape.polynomials c.in_ok-shape.shape.points
read_as c = taken _ c.in_ok-shape.shape (sym c.in_ok-shape.ensures)

pub returns-in_err-shape : goal.returns-in_err-shape
returns-in_err-shape c =
    let p = err_from_is_err_and c.from_residual.result c.from_residual.ensures.1 in
    rw (p.1, p.2) (query_read _ c.args.a.0 _ c.in_err-shape.ensures)

pub bound-requires : goal.bound-requires
bound-requires c = let t = read_as c in omega (arith, t.card.s_most, t.s_is)

pub returns-then-bound-a : goal.returns-then-bound-a
returns-then-bound-a c =
    let t = read_as (goal.at.returns-then-bound-a c).In_ok-shape in
    let a = c.args in
    sym (query-past _ _ t.card (subst (λ (n : ℕ). 3 ^ n ≤ a.a.0) t.s_is (omega arith)))

pub open_sound-requires : goal.open_sound-requires
open_sound-requires c = let t = read_as (goal.at.open_sound-requires c).In_ok-shape in (t.card, t.s_is, t.n_is)

pub count-requires : goal.count-requires
count-requires c =
    let t = read_as (goal.at.count-requires c).In_ok-shape in
    let a = c.args in
    let e = c.open_sound.ensures in
    let s = ap (λ (o : Opened). o.s) e in (
      omega (arith, s, t.card.s_most),
      omega (arith, ap (λ (o : Opened). o.n) e, points-few a.card.now, t.card.n_most),
      subst (λ (n : ℕ). a.a.0 < 3 ^ n) (t.s_is ∙ sym s) (omega arith),
    )

pub returns : goal.returns
returns c =
    let t = read_as (goal.at.returns c).In_ok-shape in
    let a = c.args in
    let b : a.a.0 < 3 ^ polynomials a.card.now = subst (λ (n : ℕ). a.a.0 < 3 ^ n) t.s_is (omega arith) in
    ap Ok
    (c.count.ensures ∙ ap (λ (o : Opened). counts_on o a.a.0) c.open_sound.ensures
    ∙ counts_are (contents_of a.card.now) t.card.s_most a.a.0)
    ∙ sym (query-sound _ _ t.card b)
