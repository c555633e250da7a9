-- `query::refusal_by` meets its contract.
use mathlib.Core.Path.{◌≡◌, refl, sym, ap, ◌∙◌}
use mathlib.Core.Bool.{true}
use mathlib.Core.Logic.{⊎_elim}
use Prim.Native.Nat.{ℕ}
use native.Mathlib.Omega.{arith}
use Rattle.std.specs.Prelude.{Result, Ok, Err}
use Rattle.std.specs.Result.{result_unwrap_or}
use Rattle.refusals.specs.Numbers.{card_numbers, is_among}
use Rattle.refusals.specs.Refusals.{by_number, Decodes}
use Rattle.refusals.specs.declared.Refusal.{Refusal}
use Rattle.refusals.specs.declared.UnknownNumber.{UnknownNumber}
use Rattle.refusals.proofs.Refusals.{by_own}
use Rattle.query.proofs.Listed.{card_number}
use Rattle.query.proofs.refusal_by.Goals as goal

-- a card's number has its refusal
decoded : (m : ℕ) (r : Result Refusal UnknownNumber) (other : Refusal) → is_among m card_numbers ≡ true → Decodes m r
    → result_unwrap_or r other ≡ by_number m
decoded m (Ok e) other h d = sym (by_own e) ∙ ap by_number d
decoded m (Err u) other h d = let w = card_number m h in absurd (⊎_elim (λ z. omega arith) (λ z. omega arith) d.1)

pub returns-then-is_card_number : goal.returns-then-is_card_number
returns-then-is_card_number c =
    let e = sym c.if-is_card_number.ensures in
    rw e (c.unwrap_or.ensures ∙ decoded c.args.number c.try_from.result _ e c.try_from.ensures)

pub returns-else-is_card_number : goal.returns-else-is_card_number
returns-else-is_card_number c = rw (sym c.if-is_card_number.ensures) refl
