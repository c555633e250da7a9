-- What a query on a card shows, by cause (demand 1, "A refused card shows no query", and demand 2, first sentence), and that every number
-- that refuses, of an opened card too, whatever it holds, is one of document 01's table.
use mathlib.Core.Path.{◌≡◌, refl, sym, ap, subst, ◌∙◌}
use mathlib.Core.Logic.{◌⊎◌, ⊎_elim}
use mathlib.Core.List.{List}
use Prim.Native.Nat.{ℕ, zero, suc, ◌^◌, ◌<◌, ◌≤◌}
use native.Mathlib.Omega.{arith}
use borrow.Author.Tests.{le-leb, lt-leb}
use lib.Dec.{leb}
use lib.ListN.{take}
use Rattle.refusals.specs.Numbers.{wrong_product, ◌when◌, ◌▸◌, unless}
use Rattle.std.specs.Prelude.{Ok, Err}
use Rattle.refusals.specs.Refusals.{number_of, by_number, refusing}
use Rattle.refusals.specs.declared.Refusal.{Refusal}
use Rattle.query.proofs.Listed.{Listed, refused_by_listed}
use Rattle.refusals.specs.Limits.{longest_card}
use Rattle.integers.proofs.Tests.{eq_cases}
use Rattle.sign_counts.specs.declared.SignCounts.{SignCounts}
use Rattle.layout.specs.Format.{polynomials}
use Rattle.layout.proofs.Twos.{below_or}
use Rattle.card.specs.Card.{refusal}
use Rattle.card.specs.Answers.{shape, reading}
use Rattle.card.specs.Sound.{Sound}
use Rattle.card.proofs.Sound.{sound, unrefused}
use Rattle.card.proofs.Longest.{cut_refusal, cut_sound}
use Rattle.query.specs.declared.Opened.{Opened}
use Rattle.query.specs.Query.{counts_of, query_answer}
use Rattle.query.specs.Opened.{opened, refused_by, opened_answer}
use Rattle.query.proofs.Opening.{answer-opened}
use Rattle.query.proofs.Own.{refused_listed}

module _ (c : List ℕ) (α : ℕ) where
  -- on a sound card a product below 3^s has its three counts, from the values of the product
  pub query-sound : Sound c → α < 3 ^ polynomials c → query_answer c α ≡ Ok (counts_of c α)
  unfolding query_answer
  query-sound h b = rw (unrefused c h, lt-leb (3 ^ polynomials c) α b) refl

  pub query-past : Sound c → 3 ^ polynomials c ≤ α → query_answer c α ≡ refusing wrong_product
  unfolding query_answer
  query-past h b = rw (unrefused c h, le-leb (3 ^ polynomials c) α b) refl

  -- a refused card shows its own number, whatever the product
  pub query-refused : (refusal c ≡ 0 → ⊥) → query_answer c α ≡ refusing (refusal c)
  unfolding query_answer
  query-refused h = go (refusal c) refl
    where
      go : (m : ℕ) → refusal c ≡ m → query_answer c α ≡ refusing (refusal c)
      go zero e = absurd (h e)
      go (suc m) e = rw e refl

  -- so where `card::read` refuses it
  pub query_read : (e : Refusal) → Err e ≡ reading c → Err e ≡ query_answer c α
  unfolding reading query_answer
  query_read e = go (refusal c)
    where
      go : (k : ℕ) → Err e ≡ unless k refusing (Ok (shape c))
          → Err e ≡ unless (k ▸ wrong_product when leb (3 ^ polynomials c) α) refusing (Ok (counts_of c α))
      go zero q = let z : ◌≡◌ {A = ℕ} 0 1 = cc in absurd (omega arith)
      go (suc k) q = let z : e ≡ by_number (suc k) = cc in ap Err z

  -- and where a query is shown the card is sound and the product below 3^s
  pub query-shown : (t : SignCounts) → query_answer c α ≡ Ok t → Sound c × (α < 3 ^ polynomials c)
  query-shown t e =
      ⊎_elim (λ w. let S = sound c w.0 in
      ⊎_elim (λ b. (S, b)) (λ b. absurd (differ wrong_product (query-past S b))) (below_or α (3 ^ polynomials c)))
      (λ w. absurd (differ (refusal c) (query-refused w.0))) (eq_cases (refusal c) 0)
    where
      differ : (m : ℕ) → query_answer c α ≡ refusing m → ⊥
      differ m f = let n : ◌≡◌ {A = ℕ} 0 1 = cc in omega arith

-- any input cut after its first k bytes, k above 318, shows the same
pub cut_query : (c : List ℕ) (k α : ℕ) → longest_card < k → query_answer (take k c) α ≡ query_answer c α
cut_query c k α h =
    ⊎_elim (λ w. ap (λ (d : List ℕ). query_answer d α) (cut_sound c k h w.0))
    (λ w. query-refused (take k c) α (λ z. absurd (w.0 (sym (cut_refusal c k h) ∙ z))) ∙ ap refusing (cut_refusal c k h)
    ∙ sym (query-refused c α w.0))
    (eq_cases (refusal c) 0)

-- ---- the numbers

listed : (k : ℕ) (e : Refusal) (t : SignCounts) → (k ≡ 0) ⊎ Listed k → unless k refusing (Ok t) ≡ Err e → Listed (number_of e)
listed zero e t h q = let n : ◌≡◌ {A = ℕ} 0 1 = cc in absurd (omega arith)
listed (suc k) e t h q =
    ⊎_elim (λ x. absurd (omega (arith, x))) (λ x. subst Listed (sym (refused_by_listed (suc k) e x q)) x) h

pub answer_listed : (o : Opened) (α : ℕ) (e : Refusal) → opened_answer o α ≡ Err e → Listed (number_of e)
unfolding opened_answer refused_by
answer_listed o α e = listed (refused_by o α) e _ (refused_listed o α)

pub query_listed : (c : List ℕ) (α : ℕ) (e : Refusal) → query_answer c α ≡ Err e → Listed (number_of e)
query_listed c α e q = answer_listed (opened c) α e (answer-opened c α ∙ q)
