-- THEOREM of the code: the calls on a list of products give what document 02, wish 5, says (`QueryAllGives`, `AskAllGives`), and where the
-- list is written number k is what the query of product k shows. Each call is known by its contract alone (`Learnt`), so that a weaker
-- promise of any of them breaks the theorem.
use mathlib.Core.Path.{◌≡◌, refl, sym, ap, subst, ◌∙◌}
use mathlib.Core.Logic.{⊎_elim}
use mathlib.Core.List.{List}
use Prim.Native.Nat.{ℕ, ◌^◌, ◌<◌, ◌≤◌}
use native.Mathlib.Decide.{dec_lt}
use native.Mathlib.Omega.{arith}
use native.Mathlib.Nat.{one-le-pow}
use contract.Lifetimes.{Lfts}
use denote.Ref.{Bor, MutBor}
use lib.IntN.{ℤ, pos}
use lib.ListN.{length, get_or}
use Rattle.integers.proofs.Tests.{eq_cases}
use Rattle.signs.specs.declared.Product.{Product}
use Rattle.signs.proofs.Positions.{below_at}
use Rattle.contents.proofs.Patterns.{query-patterns}
use Rattle.layout.specs.Format.{polynomials}
use Rattle.plane.specs.Contents.{contents_of}
use Rattle.card.specs.Card.{refusal}
use Rattle.card.specs.Sound.{Sound}
use Rattle.card.proofs.Sound.{sound, unrefused}
use Rattle.query.specs.Query.{query_of}
use Rattle.query.specs.Opened.{summed, own_refusal, opened_answer}
use Rattle.query.specs.Claim as shown_by
use Rattle.query.specs.Claim.{shown_of}
use Rattle.query.specs.declared.Opened.{Opened}
use Rattle.query.proofs.Calls.{answer_tells, answer-gives, opened-gives}
use Rattle.query.proofs.Counting.{counts-summed}
use Rattle.query.proofs.Own.{own_none, own-refused, answer-within}
use Rattle.query.proofs.query.Reads as query
use Rattle.query.proofs.open.Reads as open-card
use Rattle.query.proofs.ask.Reads as ask
use Rattle.query_list.specs.Listing.{Listed, written, refused, refused_at, first_bad, numbers_put, listing, card_listing, opened_listing}
use Rattle.query_list.specs.Claim.{AllBelow, FirstPast, ListGives, Kept, QueryAllGives, AskAllGives}
use Rattle.refusals.specs.Refusals.{by_number, refusing}
use Rattle.refusals.specs.declared.Refusal.{Refusal}
use Rattle.refusals.specs.declared.Refusal.TheVariants.{WrongLength, WrongProduct, TooShort}
use Rattle.refusals.proofs.Refusals.{by_own}
use Rattle.sign_counts.specs.declared.SignCounts.{SignCounts}
use Rattle.std.specs.Prelude.{Option, None, Some, Result, Ok, Err}
use Rattle.query_list.proofs.Listing.{bad_cases, refused-card, refused-short, refused_bad, all-written, put-long, put-at, put_rest}
use Rattle.query_list.proofs.Listing.{listing-opened}
use Rattle.query_list.proofs.query_all.Reads as query-all
use Rattle.query_list.proofs.ask_all.Reads as ask-all

-- ---- the definition, on a card that is not refused

-- an answer by its parts: its kind, what refuses and the position
abbrev by_position : Option ℕ → ℕ
by_position None = 1
by_position (Some p) = 2

abbrev kind : Listed → ℕ
kind (Ok u) = 0
kind (Err r) = by_position r.position

abbrev cause : Listed → Refusal
cause (Ok u) = WrongLength
cause (Err r) = r.refusal

abbrev or_none : Option ℕ → ℕ
or_none None = 0
or_none (Some p) = p

abbrev position_of : Listed → ℕ
position_of (Ok u) = 0
position_of (Err r) = or_none r.position

-- there is one first bad product
one-first : (b : ℕ) (l : List ℕ) (p q : ℕ) → FirstPast b l p → FirstPast b l q → p ≡ q
one-first b l p q f g = go (dec_lt p q) (dec_lt q p)
  where
    go : Dec (p < q) → Dec (q < p) → p ≡ q
    go (yes h) d = absurd (omega (arith, f.past, g.first p h))
    go (no h) (yes k) = absurd (omega (arith, g.past, f.first q k))
    go (no h) (no k) = omega arith

module _ (s : ℕ) (number : ℕ → ℤ) (l : List ℕ) (out : List ℤ) where
  -- the three ways, each with its cause
  by_15 : length out < length l → ListGives s number l out (refused TooShort) out
  by_15 h = record {
    is_15 = λ m. (λ e. (sym (ap cause e), h), λ c. ap refused (sym c.0));
    is_13 = λ m p. (λ e. absurd (let x = ap kind e in omega arith), λ c. absurd (let x = c.1 in omega arith));
    is_written = (λ e. absurd (let x = ap kind e in omega arith), λ c. absurd (let x = c.0 in omega arith));
    kept = λ n. refl;
    shown = λ e. absurd (let x = ap kind e in omega arith);
    rest = λ e. refl;
    as_long = refl;
  }

  by_13 : (p : ℕ) → length l ≤ length out → FirstPast (3 ^ s) l p → ListGives s number l out (refused_at WrongProduct p) out
  by_13 p h f = record {
    is_15 = λ m. (λ e. absurd (let x = ap kind e in omega arith), λ c. absurd (let x = c.1 in omega arith));
    is_13 = λ m q. (
      λ e. (sym (ap cause e), h, subst (FirstPast (3 ^ s) l) (ap position_of e) f),
      λ c. let x = c.0 in let y = one-first (3 ^ s) l p q f c.2 in cc,
    );
    is_written = (λ e. absurd (let x = ap kind e in omega arith), λ c. absurd (omega (arith, f.past, c.1 p f.stands)));
    kept = λ n. refl;
    shown = λ e. absurd (let x = ap kind e in omega arith);
    rest = λ e. refl;
    as_long = refl;
  }

  by_list : length l ≤ length out → AllBelow (3 ^ s) l → ListGives s number l out written (numbers_put number l out)
  by_list h b = record {
    is_15 = λ m. (λ e. absurd (let x = ap kind e in omega arith), λ c. absurd (let x = c.1 in omega arith));
    is_13 = λ m p. (λ e. absurd (let x = ap kind e in omega arith), λ c. absurd (omega (arith, c.2.past, b p c.2.stands)));
    is_written = (λ e. (h, b), λ c. refl);
    kept = λ n. absurd (n refl);
    shown = λ e k i. put-at number l out k h i;
    rest = λ e. put_rest number l out;
    as_long = put-long number l out h;
  }

  pub listing-gives : (m : ℕ) → m ≡ 0 → let g = listing m s number l out in ListGives s number l out g.0 g.1
  listing-gives m e = rooms (dec_lt (length out) (length l))
    where
      rooms : Dec (length out < length l) → let g = listing m s number l out in ListGives s number l out g.0 g.1
      rooms (yes h) = rw (refused-short m s number l out e h) (by_15 h)
      rooms (no h) =
          ⊎_elim (λ f. rw (refused_bad m s number l out e (omega arith) f.stands) (by_13 (first_bad (3 ^ s) l) (omega arith) f))
          (λ n. rw (all-written m s number l out e (omega arith) (omega (arith, n.0))) (by_list (omega arith) (below_at (3 ^ s) l n.1)))
          (bad_cases (3 ^ s) l)

-- by another route to the same numbers
gives_same : {s : ℕ} {f g : ℕ → ℤ} {l : List ℕ} {out : List ℤ} {o : Listed} {out' : List ℤ} → ((α : ℕ) → f α ≡ g α)
    → ListGives s f l out o out' → ListGives s g l out o out'
gives_same {l = l} e d = record {
  is_15 = d.is_15;
  is_13 = d.is_13;
  is_written = d.is_written;
  kept = d.kept;
  shown = λ w k h. d.shown w k h ∙ e (get_or l k 0);
  rest = d.rest;
  as_long = d.as_long;
}

-- where the list is written, the card is not refused
not_refused : (m s : ℕ) (number : ℕ → ℤ) (l : List ℕ) (out : List ℤ) → (listing m s number l out).0 ≡ written → m ≡ 0
not_refused m s number l out w = ⊎_elim (λ e. e.0) (λ n. absurd (clash n.0)) (eq_cases m 0)
  where
    clash : (m ≡ 0 → ⊥) → ⊥
    clash n =
        let e = sym (ap (λ g. g.0) (refused-card m s number l out n)) ∙ w in
        let x = ap kind e in omega arith

-- ---- a card

module _ (c l : List ℕ) (out : List ℤ) where
  pub card-gives : QueryAllGives c l out (card_listing c l out).0 (card_listing c l out).1
  card-gives = record {
    refused = λ n. (((answer_tells c 0).by_values.unsound n).0, unsound n);
    by_values = by_values;
    by_signs = λ S. gives_same (query-patterns (contents_of c)) (by_values S);
  }
    where
      by_values : Sound c → ListGives (polynomials c) (query_of c) l out (card_listing c l out).0 (card_listing c l out).1
      by_values S = listing-gives (polynomials c) (query_of c) l out (refusal c) (unrefused c S)

      unsound : (Sound c → ⊥) → Kept (refusal c) out (card_listing c l out).0 (card_listing c l out).1
      unsound n = rw (refused-card (refusal c) (polynomials c) (query_of c) l out (λ z. n (sound c z))) (refl, refl)

module _ (κs : Lfts 3) (card products : Bor (List ℕ)) (out out' : MutBor (List ℤ)) (o : Listed)
    (called : query-all.Learnt κs (card, (products, (out, tt))) o (card, (products, (out', tt)))) where
  -- WISH 5 on a card
  pub list_gives : QueryAllGives card.now products.now out.now o out'.now
  list_gives = rw (ap (λ g. g.0) called, ap (λ g. g.1) called) (card-gives card.now products.now out.now)

  -- number k is what the query of product k shows
  pub list_shows : o ≡ written → (k : ℕ) → k < length products.now → (κ : Lfts 1) (a : Product) (q : Result SignCounts Refusal)
      → a.0 ≡ get_or products.now k 0 → query.Learnt κ (card, (a, tt)) q (card, (a, tt))
      → shown_of q ≡ shown_by.number (get_or out'.now k (pos 0))
  list_shows w k h κ a q e asked =
      let c = card.now in
      let z = not_refused (refusal c) (polynomials c) (query_of c) products.now out.now (sym (ap (λ g. g.0) called) ∙ w) in
      let S = sound c z in
      let d = list_gives.by_values S in
      let b : a.0 < 3 ^ polynomials c = rw e ((d.is_written.0 w).1 k h) in
      rw asked ((answer-gives c a.0).by_values.inside S b)
      ∙ ap shown_by.number (ap (query_of c) e ∙ sym (d.shown w k h))

-- ---- an opened card

module _ (k : Opened) (l : List ℕ) (out : List ℤ) where
  kept : (m : ℕ) → opened_answer k 0 ≡ refusing m → Kept m out (opened_listing k l out).0 (opened_listing k l out).1
  kept m e =
      let (f, p) = own-refused k (by_number m) e in
      let g = refused-card (own_refusal k) k.s _ l out (λ z. omega (arith, p, z)) in
      (ap (λ t. t.0) g ∙ ap refused (ap by_number f ∙ by_own (by_number m)), ap (λ t. t.1) g)

  pub opened_list : AskAllGives k l out (opened_listing k l out).0 (opened_listing k l out).1
  opened_list = record {
    own = λ h. kept k.refusal ((opened-gives k 0).own h);
    no_card's = λ n h. kept 3 ((opened-gives k 0).no_card's n h);
    limits = λ e h. kept 3 ((opened-gives k 0).limits e h);
    by_bits = λ e h.
        listing-gives k.s (summed k) l out (own_refusal k) (own_none k _ ((opened-gives k 0).shown e h (one-le-pow _ 3 (omega arith))));
  }

module _ (κs : Lfts 2) (k : Opened) (products : Bor (List ℕ)) (out out' : MutBor (List ℤ)) (o : Listed)
    (called : ask-all.Learnt κs (k, (products, (out, tt))) o (k, (products, (out', tt)))) where
  -- WISH 5 on an opened card, whatever it holds
  pub opened_list_gives : AskAllGives k products.now out.now o out'.now
  opened_list_gives = rw (ap (λ g. g.0) called, ap (λ g. g.1) called) (opened_list k products.now out.now)

  -- number j is what the query of product j shows
  pub opened_list_shows : o ≡ written → (j : ℕ) → j < length products.now → (a : Product) (q : Result SignCounts Refusal)
      → a.0 ≡ get_or products.now j 0 → ask.Learnt tt (k, (a, tt)) q (k, (a, tt))
      → shown_of q ≡ shown_by.number (get_or out'.now j (pos 0))
  opened_list_shows w j h a q e asked =
      let l = products.now in
      let z = not_refused (own_refusal k) k.s (summed k) l out.now (sym (ap (λ g. g.0) called) ∙ w) in
      let d : ListGives k.s (summed k) l out.now o out'.now =
      rw (ap (λ g. g.0) called, ap (λ g. g.1) called) (listing-gives k.s (summed k) l out.now (own_refusal k) z) in
      let b : a.0 < 3 ^ k.s = rw e ((d.is_written.0 w).1 j h) in
      ap shown_of (asked ∙ sym (answer-within k a.0 z b))
      ∙ ap shown_by.number (counts-summed k a.0 ∙ ap (summed k) e ∙ sym (d.shown w j h))

  -- and on a card that was opened
  pub list_opened : (κ : Lfts 1) (card : Bor (List ℕ)) → open-card.Learnt κ (card, tt) k (card, tt)
      → QueryAllGives card.now products.now out.now o out'.now
  list_opened κ card e =
      let c = card.now in
      let f : (o, out'.now) ≡ card_listing c products.now out.now =
      called ∙ ap (λ (u : Opened). opened_listing u products.now out.now) e ∙ listing-opened c products.now out.now in
      rw (ap (λ g. g.0) f, ap (λ g. g.1) f) (card-gives c products.now out.now)
