-- What refuses an opened card whatever the product is, and what it answers after that.
use mathlib.Core.Path.{◌≡◌, refl, sym, ap, subst, ◌∙◌}
use mathlib.Core.Bool.{Bool, true, false, cond, ◌||◌}
use mathlib.Core.Logic.{◌⊎◌, inl, inr, ⊎_elim}
use Prim.Native.Nat.{ℕ, zero, suc, ◌^◌, ◌<◌, ◌≤◌}
use native.Mathlib.Omega.{arith}
use native.Mathlib.Nat.{one-le-pow}
use borrow.Author.Tests.{le-leb, lt-leb, ltb-false}
use lib.Dec.{leb, ltb}
use Rattle.std.specs.Prelude.{Result, Ok, Err}
use Rattle.refusals.specs.Refusals.{number_of, by_number, refusing, checked}
use Rattle.refusals.specs.declared.Refusal.{Refusal}
use Rattle.refusals.specs.declared.Refusal.TheVariants.{WrongCount}
use Rattle.refusals.proofs.Refusals.{passed_on_first}
use Rattle.query.proofs.Listed.{Listed, refused_by_listed}
use Rattle.refusals.specs.Limits.{most_polynomials, most_points}
use Rattle.refusals.specs.Numbers.{wrong_count, wrong_product, card_numbers, is_among, ◌when◌, ◌▸◌, unless}
use Rattle.sign_counts.specs.declared.SignCounts.{SignCounts}
use Rattle.query.specs.declared.Opened.{Opened}
use Rattle.query.specs.Opened.{counts_on, unlimited, own_number, own_refusal, refused_by, opened_answer}

then_then : (a b c : ℕ) → (a ▸ b ▸ c) ≡ ((a ▸ b) ▸ c)
then_then zero b c = refl
then_then (suc a) b c = refl

then_none : (a : ℕ) → (a ▸ 0) ≡ a
then_none zero = refl
then_none (suc a) = refl

then_first : (a b : ℕ) → (a ▸ b ▸ 0) ≡ (a ▸ b)
then_first zero b = then_none b
then_first (suc a) b = refl

-- the number by which an opened card is refused, and that of its own, is listed
own_listed : (m : ℕ) → (own_number m ≡ 0) ⊎ Listed (own_number m)
unfolding Listed
own_listed zero = inl refl
own_listed (suc m) = go (is_among (suc m) card_numbers) refl
  where
    go : (t : Bool) → is_among (suc m) card_numbers ≡ t → (cond t (suc m) wrong_count ≡ 0) ⊎ Listed (cond t (suc m) wrong_count)
    go true e = unfold Listed in inr (inl (record { stands = e }))
    go false e = unfold Listed is_among card_numbers in inr (inl (record { stands = refl }))

causes : (r : ℕ) (u v : Bool) → (r ≡ 0) ⊎ Listed r → let k = (r ▸ wrong_count when u ▸ wrong_product when v) in (k ≡ 0) ⊎ Listed k
unfolding Listed is_among card_numbers
causes (suc r) u v h = h
causes zero true v h = inr (inl (record { stands = refl }))
causes zero false true h = inr (inr refl)
causes zero false false h = inl refl

pub refused_listed : (o : Opened) (α : ℕ) → (refused_by o α ≡ 0) ⊎ Listed (refused_by o α)
unfolding refused_by
refused_listed o α = causes (own_number o.refusal) (unlimited o) (leb (3 ^ o.s) α) (own_listed o.refusal)

pub own_listed_none : (o : Opened) → (own_refusal o ≡ 0) ⊎ Listed (own_refusal o)
unfolding own_refusal
own_listed_none o =
    subst (λ (k : ℕ). (k ≡ 0) ⊎ Listed k) (then_first (own_number o.refusal) (wrong_count when unlimited o))
    (causes (own_number o.refusal) (unlimited o) false (own_listed o.refusal))

module _ (o : Opened) where
  -- ---- the answer: what refuses the card, then what refuses the product

  pub answer_parts : (α : ℕ) → opened_answer o α ≡ unless (own_refusal o ▸ wrong_product when leb (3 ^ o.s) α) refusing
      (Ok (counts_on o α))
  unfolding opened_answer refused_by own_refusal
  answer_parts α =
      ap (λ (k : ℕ). unless k refusing (Ok (counts_on o α)))
      (then_then (own_number o.refusal) (wrong_count when unlimited o) (wrong_product when leb (3 ^ o.s) α))

  pub answer-refused : (α : ℕ) → (own_refusal o ≡ 0 → ⊥) → refusing (own_refusal o) ≡ opened_answer o α
  answer-refused α h = go (own_refusal o) h ∙ sym (answer_parts α)
    where
      go : (k : ℕ) → (k ≡ 0 → ⊥) → refusing k
          ≡ unless (k ▸ wrong_product when leb (3 ^ o.s) α) refusing (Ok (counts_on o α))
      go zero z = absurd (z refl)
      go (suc k) z = refl

  pub answer-past : (α : ℕ) → own_refusal o ≡ 0 → 3 ^ o.s ≤ α → refusing wrong_product ≡ opened_answer o α
  answer-past α e h = sym (answer_parts α ∙ rw (e, le-leb (3 ^ o.s) α h) refl)

  pub answer-within : (α : ℕ) → own_refusal o ≡ 0 → α < 3 ^ o.s → Ok (counts_on o α) ≡ opened_answer o α
  answer-within α e h = sym (answer_parts α ∙ rw (e, lt-leb (3 ^ o.s) α h) refl)

  -- ---- what refuses the card

  -- the product with no factor is refused for the card alone
  answer_none : opened_answer o 0 ≡ unless (own_refusal o) refusing (Ok (counts_on o 0))
  answer_none = answer_parts 0 ∙ rw (lt-leb (3 ^ o.s) 0 (one-le-pow _ 3 (omega arith)), then_none (own_refusal o)) refl

  pub own_none : (t : SignCounts) → opened_answer o 0 ≡ Ok t → own_refusal o ≡ 0
  own_none t e = go (own_refusal o) (sym answer_none ∙ e)
    where
      go : (k : ℕ) → unless k refusing (Ok (counts_on o 0)) ≡ Ok t → k ≡ 0
      go zero f = refl
      go (suc k) f = let z : ◌≡◌ {A = ℕ} 0 1 = cc in absurd (omega arith)

  pub own-refused : (e : Refusal) → opened_answer o 0 ≡ Err e → (own_refusal o ≡ number_of e) × (0 < own_refusal o)
  own-refused e q = go (own_refusal o) (own_listed_none o) (sym answer_none ∙ q)
    where
      go : (k : ℕ) → (k ≡ 0) ⊎ Listed k → unless k refusing (Ok (counts_on o 0)) ≡ Err e → (k ≡ number_of e) × (0 < k)
      go zero h f = let z : ◌≡◌ {A = ℕ} 0 1 = cc in absurd (omega arith)
      go (suc k) h f = (⊎_elim (λ x. absurd (omega (arith, x))) (λ x. sym (refused_by_listed (suc k) e x f)) h, omega arith)

  -- the check of it, by the tests
  pub checked-numbered : (o.refusal ≡ 0 → ⊥)
      → ◌≡◌ {A = Result (Unit {0}) Refusal} (Err (by_number (cond (is_among o.refusal card_numbers) o.refusal wrong_count)))
      (checked (own_refusal o))
  unfolding own_refusal
  checked-numbered h = go o.refusal h
    where
      go : (m : ℕ) → (m ≡ 0 → ⊥) → ◌≡◌ {A = Result (Unit {0}) Refusal} (Err (by_number (cond (is_among m card_numbers) m wrong_count)))
          (checked (own_number m ▸ wrong_count when unlimited o))
      go zero z = absurd (z refl)
      go (suc m) z = by (is_among (suc m) card_numbers)
        where
          by : (t : Bool) → ◌≡◌ {A = Result (Unit {0}) Refusal} (Err (by_number (cond t (suc m) wrong_count)))
              (checked (cond t (suc m) wrong_count ▸ wrong_count when unlimited o))
          by true = refl
          by false = refl

  pub checked-unlimited : o.refusal ≡ 0 → unlimited o ≡ true
      → ◌≡◌ {A = Result (Unit {0}) Refusal} (Err WrongCount) (checked (own_refusal o))
  unfolding own_refusal
  checked-unlimited e u = rw (e, u) refl

  pub checked-limited : o.refusal ≡ 0 → unlimited o ≡ false → ◌≡◌ {A = Result (Unit {0}) Refusal} (Ok tt) (checked (own_refusal o))
  unfolding own_refusal
  checked-limited e u = rw (e, u) refl

  pub answer-checked : (α : ℕ) (e : Refusal) → ◌≡◌ {A = Result (Unit {0}) Refusal} (Err e) (checked (own_refusal o))
      → Err e ≡ opened_answer o α
  answer-checked α e q = passed_on_first (own_refusal o) _ q _ ∙ sym (answer_parts α)

  -- where nothing refuses it, s and n are within their limits
  pub own-limits : own_refusal o ≡ 0 → (o.s ≤ most_polynomials) × (o.n ≤ most_points)
  unfolding own_refusal
  own-limits e =
      let w = within (own_number o.refusal) (ltb o.s 1) (ltb most_polynomials o.s) (ltb most_points o.n) e in
      (ltb-false most_polynomials o.s w.0, ltb-false most_points o.n w.1)
    where
      within : (a : ℕ) (x y z : Bool) → (a ▸ wrong_count when (x || (y || z))) ≡ 0 → (y ≡ false) × (z ≡ false)
      within (suc a) x y z f = absurd (omega arith)
      within zero true y z f = absurd (omega arith)
      within zero false true z f = absurd (omega arith)
      within zero false false true f = absurd (omega arith)
      within zero false false false f = (refl, refl)
