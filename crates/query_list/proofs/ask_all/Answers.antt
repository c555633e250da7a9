-- `query_list::ask_all` meets its contract: its answers by their causes, in order.
use mathlib.Core.Path.{◌≡◌, sym, ap, ◌∙◌}
use mathlib.Core.List.{List}
use Prim.Native.Nat.{ℕ}
use native.Mathlib.Omega.{arith}
use lib.IntN.{ℤ}
use Rattle.std.specs.Prelude.{Err}
use Rattle.query_list.specs.declared.ListRefusal.{ListRefusal}
use Rattle.std.proofs.lemmas.Result.{err_from_is_err_and}
use Rattle.refusals.specs.declared.Refusal.{Refusal}
use Rattle.refusals.specs.declared.Refusal.TheVariants.{WrongProduct}
use Rattle.refusals.proofs.Refusals.{passed_none, refused_some, refused_by}
use Rattle.query.specs.Opened.{summed, own_refusal}
use Rattle.query.proofs.Own.{own-limits}
use Rattle.query_list.specs.Listing.{written, refused, refused_at}
use Rattle.query_list.proofs.Listing.{none_bad, refused-card, refused-short, refused_bad, all-written}
use Rattle.query_list.proofs.ask_all.Goals as goal
use Rattle.query_list.proofs.ask_all.Goals.{In_ok-check_opened}

-- after the test of the card
fine : (c : In_ok-check_opened) → own_refusal c.args.card ≡ 0
fine c = passed_none (own_refusal c.args.card) c.in_ok-check_opened.ensures

pub returns-in_err-check_opened : goal.returns-in_err-check_opened
returns-in_err-check_opened c =
    let a = c.args in
    let p = err_from_is_err_and c.from_residual.result c.from_residual.ensures.1 in
    let h = c.in_err-check_opened.ensures in
    rw (p.1, p.2) (ap (λ (e : Refusal). (refused e, a.out.now)) (refused_by (own_refusal a.card) h)
    ∙ sym (refused-card (own_refusal a.card) _ _ _ _ (refused_some _ h)))

pub returns-then-out-products : goal.returns-then-out-products
returns-then-out-products c =
    let at = fine (goal.at.returns-then-out-products c).In_ok-check_opened in
    let a = c.args in
    ap (λ (r : ListRefusal). (Err r, a.out.now)) c.from.ensures
    ∙ sym (refused-short (own_refusal a.card) a.card.s (summed a.card) _ _ at c.if-out-products.true)

pub bound-requires : goal.bound-requires
bound-requires c = (own-limits _ (fine (goal.at.bound-requires c).In_ok-check_opened)).0

pub returns-in-Some : goal.returns-in-Some
returns-in-Some c =
    let a = c.args in
    let h = rw c.bound.ensures at c.in-Some.ensures in
    ap (λ (p : ℕ). (refused_at WrongProduct p, a.out.now)) h.0
    ∙ sym (refused_bad (own_refusal a.card) a.card.s (summed a.card) a.products.now a.out.now
    (fine (goal.at.returns-in-Some c).In_ok-check_opened) c.if-out-products.false (omega (arith, h)))

pub put_numbers-requires : goal.put_numbers-requires
put_numbers-requires c =
    let h = rw c.bound.ensures at c.in_default.ensures in
    (fine (goal.at.put_numbers-requires c).In_ok-check_opened, none_bad _ _ h, c.if-out-products.false)

pub returns : goal.returns
returns c =
    let a = c.args in
    ap (λ (out : List ℤ). (written, out)) c.put_numbers.ensures
    ∙ sym (all-written (own_refusal a.card) a.card.s (summed a.card) a.products.now a.out.now
    (fine (goal.at.returns c).In_ok-check_opened) c.if-out-products.false (rw c.bound.ensures at c.in_default.ensures))
