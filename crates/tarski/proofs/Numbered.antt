-- THEOREM of the library for C: what it gives for a list of products is what the claims of `query_list` say, and the position is 0 but for
-- a bad product. A call is known by its contract alone, as `Learnt` or, on an opened card that is lent, as an assertion that held where the
-- call ended (`Held`), so that a weaker promise breaks the theorem.
use mathlib.Core.Path.{◌≡◌, refl, sym, ap, ◌∙◌}
use mathlib.Core.HLevel.{Σ_set}
use mathlib.Core.Logic.{◌≢◌}
use mathlib.Core.Bool.{Bool, true, false, cond}
use mathlib.Core.List.{List, is_set}
use Prim.Native.Nat.{ℕ, zero, suc, ◌^◌, ◌≤◌}
use native.Mathlib.Nat.{ℕ_set}
use native.Mathlib.Omega.{arith}
use borrow.Author.Tests.{ne_eqb}
use contract.Lifetimes.{Lfts}
use denote.Ref.{Bor, MutBor}
use denote.Triple.Entry.{Args}
use denote.Triple.Clauses.{AtExit}
use ghost.Sets.{retract_set}
use lib.Dec.{ltb, eqb-suc-zero}
use lib.IntN.{ℤ, ℤ_set}
use lib.ListN.{length}
use Rattle.refusals.specs.Numbers.{wrong_count, wrong_product, too_short, card_numbers, is_among, ◌when◌, ◌▸◌, unless}
use Rattle.refusals.specs.Refusals.{by_number}
use Rattle.refusals.proofs.Refusals.{number_by}
use Rattle.query.specs.Opened.{opened, summed, unlimited, own_number, own_refusal}
use Rattle.query.specs.declared.Opened.{Opened}
use Rattle.query.proofs.Listed.{card_number}
use Rattle.query_list.specs.Listing.{Listed, written, refused, refused_at, first_bad, numbers_put, listing, card_listing, opened_listing}
use Rattle.query_list.specs.Claim.{QueryAllGives, AskAllGives}
use Rattle.query_list.proofs.Listing.{listing-opened}
use Rattle.query_list.proofs.Calls.{card-gives, opened_list}
use Rattle.determination.proofs.Worlds.{World, Held, fact_held}
use Rattle.tarski.specs.declared.FlatNumbered.{FlatNumbered}
use Rattle.tarski.specs.Numbered.{flat_numbered_of, flat_listing, numbered_from, ListPlain}
use Rattle.tarski.proofs.tarski_open.Reads as open-card
use Rattle.tarski.proofs.tarski_query_all.Reads as query-all
use Rattle.tarski.specs.contracts.tarski_ask_all as ask-all

-- ---- an answer as plain numbers, and back

-- 13 is no number that refuses a card, and each is that of a refusal
pub record Own (m : ℕ) : Type 0 where
  pub no_product : m ≢ 13
  pub most : m ≤ 18

own-number : (m : ℕ) (u : Bool) → Own (own_number m ▸ wrong_count when u)
own-number zero true = record { no_product = λ e. omega arith; most = omega arith }
own-number zero false = record { no_product = λ e. omega arith; most = omega arith }
own-number (suc m) u = go (is_among (suc m) card_numbers) refl
  where
    go : (t : Bool) → is_among (suc m) card_numbers ≡ t → Own (cond t (suc m) wrong_count ▸ wrong_count when u)
    go false f = record { no_product = λ e. omega arith; most = omega arith }
    go true f = record {
      no_product = λ g. unfold is_among card_numbers in
          let x : false ≡ true = rw g at f in let y : ◌≡◌ {A = ℕ} 0 1 = cc in omega arith;
      most = (card_number (suc m) f).1;
    }

then-own : (m : ℕ) (t : Bool) → Own m → Own (m ▸ too_short when t)
then-own zero true h = record { no_product = λ e. omega arith; most = omega arith }
then-own zero false h = h
then-own (suc m) t h = h

module _ (Gives : Listed → Type 0) where
  plain_of : (k p : ℕ) (t : Bool) (out w : List ℤ) → Own k
      → let a = (unless {A = Listed × List ℤ} k (λ m. (refused (by_number m), out))
      (cond t (refused_at (by_number wrong_product) p, out) (written, w))).0 in
      Gives a → ListPlain Gives (flat_numbered_of a)
  unfolding flat_numbered_of numbered_from
  plain_of zero p true out w h g = record { gives = g; no_position = λ n. absurd (n refl); known = omega arith }
  plain_of zero p false out w h g = record { gives = g; no_position = λ n. refl; known = omega arith }
  plain_of (suc k) p t out w h g = record {
    gives = rw (number_by (suc k) (omega arith) h.most, eqb-suc-zero k, ne_eqb (suc k) 13 h.no_product) g;
    no_position = λ n. refl;
    known = rw (number_by (suc k) (omega arith) h.most) h.most;
  }

  plain : (k : Opened) (l : List ℕ) (out : List ℤ) → let a = (opened_listing k l out).0 in Gives a → ListPlain Gives (flat_numbered_of a)
  unfolding listing own_refusal
  plain k l out =
      let p = first_bad (3 ^ k.s) l in
      plain_of (own_refusal k ▸ too_short when ltb (length out) (length l)) p (ltb p (length l)) out (numbers_put (summed k) l out)
      (then-own (own_refusal k) (ltb (length out) (length l)) (own-number k.refusal (unlimited k)))

-- ---- the calls

module _ (l : List ℕ) (out out' : List ℤ) (o : FlatNumbered) where
  -- on a card, from the definition
  card_plain : (c : List ℕ) → (o, out') ≡ flat_listing (card_listing c l out) → ListPlain (λ a. QueryAllGives c l out a out') o
  card_plain c e =
      let f : (o, out') ≡ flat_listing (opened_listing (opened c) l out) = e ∙ ap flat_listing (sym (listing-opened c l out)) in
      rw (ap (λ t. t.0) f) (plain (λ a. QueryAllGives c l out a out') (opened c) l out
      (rw (ap (λ t. t.0) (listing-opened c l out), ap (λ t. t.1) e) (card-gives c l out)))

  -- on an opened card
  opened_plain : (k : Opened) → (o, out') ≡ flat_listing (opened_listing k l out) → ListPlain (λ a. AskAllGives k l out a out') o
  opened_plain k e = rw (ap (λ t. t.0) e) (plain (λ a. AskAllGives k l out a out') k l out (rw (ap (λ t. t.1) e) (opened_list k l out)))

-- WISH 5 of the library: on a card
pub library_query-all : (κs : Lfts 3) (card products : Bor (List ℕ)) (out out' : MutBor (List ℤ)) (o : FlatNumbered)
    → query-all.Learnt κs (card, (products, (out, tt))) o (card, (products, (out', tt)))
    → ListPlain (λ a. QueryAllGives card.now products.now out.now a out'.now) o
library_query-all κs card products out out' o e = card_plain products.now out.now out'.now o card.now e

-- a call of `tarski_ask_all` on the opened card k, by its contract
pub record AskedAll (k : Opened) (l : List ℕ) (out : List ℤ) (o : FlatNumbered) (out' : List ℤ) : Type 2 where
  pub world : World
  pub lifetimes : Lfts 3
  pub args : Args ask-all.signature lifetimes
  pub ends : AtExit ask-all.ended lifetimes
  pub kept : Held world
      ((ask-all.clauses world.𝓛 world.memory world.routines lifetimes args).ensures tt o ends)
  pub was : args.0.now ≡ k
  pub products : args.1.0.now ≡ l
  pub lent : args.1.1.0.now ≡ out
  pub left : ends.1.1.0.now ≡ out'

listed_set : IsSet (FlatNumbered × List ℤ)
listed_set =
    Σ_set (retract_set {B = ℕ × ℕ} (λ n. (n.position, n.refusal)) (λ (p, r). record { position = p; refusal = r }) (λ n. refl)
    (Σ_set ℕ_set (λ _. ℕ_set))) (λ _. is_set ℤ_set)

module _ (k : Opened) (l : List ℕ) (out : List ℤ) (o : FlatNumbered) (out' : List ℤ) (asked : AskedAll k l out o out') where
  asked-all : (o, out') ≡ flat_listing (opened_listing k l out)
  asked-all =
      rw (← asked.was, ← asked.products, ← asked.lent, ← asked.left)
      (fact_held asked.world ((o, asked.ends.1.1.0.now)
      ≡ flat_listing (opened_listing asked.args.0.now asked.args.1.0.now asked.args.1.1.0.now)) _ (listed_set _ _)
      (λ h. h) asked.kept)

  -- on an opened card, whatever it holds
  pub library_ask-all : ListPlain (λ a. AskAllGives k l out a out') o
  library_ask-all = opened_plain l out out' o k asked-all

  -- and on a card that was opened
  pub library_list_opened : (κs : Lfts 1) (card : Bor (List ℕ)) → open-card.Learnt κs (card, tt) k (card, tt)
      → ListPlain (λ a. QueryAllGives card.now l out a out') o
  library_list_opened κs card e =
      card_plain l out out' o card.now
      (asked-all ∙ ap (λ (u : Opened). flat_listing (opened_listing u l out)) e ∙ ap flat_listing (listing-opened card.now l out))
