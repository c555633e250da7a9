-- `card::reader::check_bodies` meets its contract. The loop's invariant: what is left to say of the bodies from polynomial j
-- on, which begins at byte at, is what was to be said of all.
use mathlib.Core.Path.{◌≡◌, refl, sym, ap, ◌∙◌}
use mathlib.Core.List.{List}
use Prim.Native.Nat.{ℕ, ◌-◌}
use native.Mathlib.Omega.{arith}
use Rattle.refusals.specs.Refusals.{checked}
use Rattle.refusals.proofs.Refusals.{passed_none, refused_some, passed_up}
use Rattle.layout.specs.Format.{polynomials, bodies_at}
use Rattle.card.specs.Card.{bodies_refusal}
use Rattle.card.proofs.Header.{headed}
use Rattle.card.proofs.ByKind.{fits}
use Rattle.card.proofs.Bodies.{no_more, bad_body, bad_next, good_next}
use Rattle.card.proofs.reader.check_bodies.Goals as goal

pub bounds-card-1 : goal.bounds-card-1
bounds-card-1 c = let h = headed _ c.requires in omega arith

pub bodies_at-at-requires : goal.bodies_at-at-requires
bodies_at-at-requires c = let h = headed _ c.requires in omega arith

start : (card : List ℕ) (at : ℕ) → at ≡ bodies_at card
    → bodies_refusal card (polynomials card) 0 (bodies_at card) ≡ bodies_refusal card (polynomials card - 0) 0 at
start card at f = let z : polynomials card - 0 ≡ polynomials card = omega arith in rw (z, f) refl

pub loop-j-init : goal.loop-j-init
loop-j-init c =
    let h = headed _ c.requires in
    (omega arith, start c.args.card.now _ c.bodies_at-at.ensures)

pub returns-in_err-check_body : goal.returns-in_err-check_body
returns-in_err-check_body c =
    passed_up _ c.from_residual.ensures.1 ∙ c.in_err-check_body.ensures
    ∙ ap checked (bad_body _ _ _ _ (omega arith) (refused_some _ c.in_err-check_body.ensures) ∙ sym c.loop-j.invariant.1)

pub body_size-at-requires : goal.body_size-at-requires
body_size-at-requires c = let w = fits c.args.card.now c.loop-j.at (passed_none _ c.in_ok-check_body.ensures) in omega arith

pub offset-requires : goal.offset-requires
offset-requires c = let h = headed _ c.requires in omega arith

pub returns-then-offset-at : goal.returns-then-offset-at
returns-then-offset-at c =
    ap checked (sym (c.loop-j.invariant.1
    ∙ bad_next _ _ _ _ (omega arith) (passed_none _ c.in_ok-check_body.ensures) (omega arith)))

pub loop-j-preserved : goal.loop-j-preserved
loop-j-preserved c =
    let e = passed_none _ c.in_ok-check_body.ensures in
    let w = fits c.args.card.now c.loop-j.at e in (
      omega arith,
      c.loop-j.invariant.1 ∙ good_next _ _ _ _ (omega arith) e _ (omega arith) (omega arith),
    )

pub check_end-requires : goal.check_end-requires
check_end-requires c = let h = headed _ c.requires in omega arith

pub returns : goal.returns
returns c = c.check_end.ensures ∙ ap checked (sym (c.loop-j.invariant.1 ∙ no_more _ _ _ _ (omega arith)))
