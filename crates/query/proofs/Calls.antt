-- THEOREM of the code: the calls that show a query keep demand 2's first sentence (`QueryGives`) and tell all three counts (`QueryTells`),
-- in one call and on an opened card. Each call is known by its contract alone (`Learnt`), so that a weaker promise of any of them breaks
-- the theorem.
use mathlib.Core.Path.{◌≡◌, refl, sym, ap, ◌∙◌}
use mathlib.Core.Bool.{Bool, true, false}
use mathlib.Core.List.{List}
use mathlib.Core.Logic.{inl}
use Prim.Native.Nat.{ℕ, zero, suc, ◌^◌, ◌<◌, ◌≤◌}
use native.Mathlib.Decide.{dec_le}
use native.Mathlib.Omega.{arith}
use borrow.Author.Tests.{leb-true, leb-false}
use contract.Lifetimes.{Lfts}
use denote.Ref.{Bor}
use lib.Dec.{leb}
use Rattle.refusals.specs.Numbers.{wrong_product, card_numbers, is_among, ◌when◌, ◌▸◌, unless}
use Rattle.std.specs.Prelude.{Result, Ok}
use Rattle.refusals.specs.Refusals.{refusing}
use Rattle.refusals.specs.declared.Refusal.{Refusal}
use Rattle.query.proofs.Listed.{Listed, listed_number}
use Rattle.refusals.specs.Limits.{most_polynomials, most_points}
use Rattle.signs.specs.declared.Product.{Product}
use Rattle.sign_counts.specs.declared.SignCounts.{SignCounts}
use Rattle.contents.proofs.Patterns.{query-patterns}
use Rattle.contents.proofs.Counts.{counts_in_all, counts-panel, counts-patterns}
use Rattle.layout.specs.Format.{polynomials}
use Rattle.plane.specs.Contents.{contents_of}
use Rattle.card.specs.Card.{refusal}
use Rattle.card.specs.Claim.{CardGives}
use Rattle.card.proofs.Calls.{gives, gives_through}
use Rattle.query.specs.Query.{query_of, counts_of, query_answer}
use Rattle.query.specs.Opened.{counts_on, unlimited, refused_by, opened_answer}
use Rattle.query.specs.Claim.{Shown, number, refused, shown_of, QueryGives, QueryTells, InLimits, OpenedGives, OpenedTells}
use Rattle.query.specs.declared.Opened.{Opened}
use Rattle.query.proofs.Counting.{counts-summed, counts-points}
use Rattle.query.proofs.Opening.{answer-own, answer_foreign, answer-limits, answer_product, answer-counts, answer-opened}
use Rattle.query.proofs.Opening.{few, many, crowded, limits}
use Rattle.query.proofs.query.Reads as query
use Rattle.query.proofs.open.Reads as open-card
use Rattle.query.proofs.ask.Reads as ask

-- ---- the definition

-- what is shown where a query is refused
shown-refused : (m : ℕ) → Listed m → shown_of (refusing m) ≡ refused m
shown-refused m h = ap refused (listed_number m h)

shown-gives : {c : List ℕ} {In : Type 0} {what r : Shown} → CardGives c In 13 (λ m. shown_of (refusing m)) what r
    → CardGives c In 13 refused what r
unfolding Listed
shown-gives {c} g = record {
  inside = g.inside;
  outside = g.outside;
  unsound = λ n. let (a, e) = g.unsound n in (a, e ∙ shown-refused (refusal c) (inl a));
}

-- where counts are told, these are
told : (k : ℕ) (t u : SignCounts) → unless k refusing (Ok t) ≡ Ok u → t ≡ u
told zero t u e = cc
told (suc k) t u e = let n : ◌≡◌ {A = ℕ} 0 1 = cc in absurd (omega arith)

module _ (c : List ℕ) (α : ℕ) where
  tells : CardGives c (α < 3 ^ polynomials c) 13 refusing (Ok (counts_of c α)) (query_answer c α)
  unfolding query_answer
  tells =
      gives c refusing (Ok (counts_of c α)) (α < 3 ^ polynomials c) 12 (leb (3 ^ polynomials c) α)
      (leb-false (3 ^ polynomials c) α) (λ e i. let h = leb-true (3 ^ polynomials c) α e in omega arith)

  pub answer_tells : QueryTells c α (query_answer c α)
  unfolding query_answer
  answer_tells = record {
    by_values = tells;
    by_signs = rw (← counts-patterns (contents_of c) α) tells;
    add_up = λ t e.
        rw (← told (refusal c ▸ wrong_product when leb (3 ^ polynomials c) α) (counts_of c α) t e) (counts_in_all (contents_of c) α);
  }

  pub answer-gives : QueryGives c α (query_answer c α)
  answer-gives = record { by_values = by_values; by_signs = rw (← query-patterns (contents_of c) α) by_values }
    where
      by_values : CardGives c (α < 3 ^ polynomials c) 13 refused (number (query_of c α)) (shown_of (query_answer c α))
      by_values = rw (← counts-panel (contents_of c) α) (shown-gives (gives_through shown_of tells))

module _ (κs : Lfts 1) (card : Bor (List ℕ)) (a : Product) (o : Result SignCounts Refusal) where
  -- DEMAND 2 of a query in one call
  pub demand2_query : query.Learnt κs (card, (a, tt)) o (card, (a, tt)) → QueryGives card.now a.0 o
  demand2_query e = rw e (answer-gives card.now a.0)

  -- and of one on a card that was opened
  pub demand2_opened : (k : Opened) → open-card.Learnt κs (card, tt) k (card, tt) → ask.Learnt tt (k, (a, tt)) o (k, (a, tt))
      → QueryGives card.now a.0 o
  demand2_opened k e f = rw (f, e, answer-opened card.now a.0) (answer-gives card.now a.0)

  -- WISH 4: all three counts, in one call and on a card that was opened
  pub counts-query : query.Learnt κs (card, (a, tt)) o (card, (a, tt)) → QueryTells card.now a.0 o
  counts-query e = rw e (answer_tells card.now a.0)

  pub counts-opened : (k : Opened) → open-card.Learnt κs (card, tt) k (card, tt) → ask.Learnt tt (k, (a, tt)) o (k, (a, tt))
      → QueryTells card.now a.0 o
  counts-opened k e f = rw (f, e, answer-opened card.now a.0) (answer_tells card.now a.0)

-- ---- any opened card

module _ (o : Opened) (α : ℕ) where
  unlimited-out : (InLimits o → ⊥) → unlimited o ≡ true
  unlimited-out h = go (dec_le 1 o.s) (dec_le o.s most_polynomials) (dec_le o.n most_points)
    where
      go : Dec (1 ≤ o.s) → Dec (o.s ≤ most_polynomials) → Dec (o.n ≤ most_points) → unlimited o ≡ true
      go (no l) m n = few o.s o.n (omega arith)
      go (yes l) (no m) n = many o.s o.n l (omega arith)
      go (yes l) (yes m) (no n) = crowded o.s o.n l m (omega arith)
      go (yes l) (yes m) (yes n) = absurd (h (l, m, n))

  pub opened-gives : OpenedGives o α refusing (Ok (counts_on o α)) (opened_answer o α)
  unfolding is_among card_numbers
  opened-gives = record {
    own = λ h. sym (answer-own o α (λ e. none_listed (rw e at h.stands)) h.stands);
    no_card's = λ n h. sym (answer_foreign o α n (not_true _ (λ e. h (record { stands = e }))));
    limits = λ e h. sym (answer-limits o α e (unlimited-out h));
    past = λ e h b. sym (answer_product o α e (limits o.s o.n h.0 h.1 h.2) b);
    shown = λ e h b. sym (answer-counts o α e (limits o.s o.n h.0 h.1 h.2) b);
  }
    where
      none_listed : is_among 0 card_numbers ≡ true → ⊥
      none_listed e = let x : false ≡ true = e in let y : ◌≡◌ {A = ℕ} 0 1 = cc in omega arith

      not_true : (b : Bool) → (b ≡ true → ⊥) → b ≡ false
      not_true true h = absurd (h refl)
      not_true false h = refl

-- put into another form by any function
pub opened_through : {A B : Type 0} (f : A → B) {o : Opened} {α : ℕ} {refused : ℕ → A} {what r : A}
    → OpenedGives o α refused what r → OpenedGives o α (λ k. f (refused k)) (f what) (f r)
opened_through f g = record {
  own = λ h. ap f (g.own h);
  no_card's = λ n h. ap f (g.no_card's n h);
  limits = λ e h. ap f (g.limits e h);
  past = λ e h b. ap f (g.past e h b);
  shown = λ e h b. ap f (g.shown e h b);
}

opened-shown : {o : Opened} {α : ℕ} {what r : Shown} → OpenedGives o α (λ m. shown_of (refusing m)) what r → OpenedGives o α refused what r
unfolding Listed
opened-shown {o} g = record {
  own = λ h. g.own h ∙ shown-refused o.refusal (inl h);
  no_card's = g.no_card's;
  limits = g.limits;
  past = g.past;
  shown = g.shown;
}

pub opened_tells : (o : Opened) (α : ℕ) → OpenedTells o α (opened_answer o α)
unfolding opened_answer
opened_tells o α = record {
  counts = opened-gives o α;
  panel = rw (← counts-summed o α) (opened-shown (opened_through shown_of (opened-gives o α)));
  add_up = λ t e. rw (← told (refused_by o α) (counts_on o α) t e) (counts-points o α);
}

-- DEMAND 1 of a query on an opened card, whatever it holds
pub demand1_opened : (k : Opened) (a : Product) (o : Result SignCounts Refusal) → ask.Learnt tt (k, (a, tt)) o (k, (a, tt))
    → OpenedTells k a.0 o
demand1_opened k a o e = rw e (opened_tells k a.0)
