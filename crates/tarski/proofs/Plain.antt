-- Refusals as plain numbers, and back.
use mathlib.Core.Path.{◌≡◌, refl, sym, ap, ◌∙◌}
use mathlib.Core.Logic.{◌≢◌}
use mathlib.Core.List.{List}
use Prim.Native.Nat.{ℕ, ◌<◌, ◌≤◌}
use native.Mathlib.Omega.{arith}
use Rattle.std.proofs.Common.{Result, Ok, Err}
use Rattle.refusals.specs.Numbers.{Among, card_numbers}
use Rattle.refusals.specs.Refusals.{number_of, by_number, refusing}
use Rattle.refusals.specs.declared.Refusal.{Refusal}
use Rattle.refusals.proofs.Refusals.{by_own, some_refuses}
use Rattle.card.specs.Claim.{CardGives, LineGives, PlaceGives}
use Rattle.query.specs.Claim.{OpenedGives}
use Rattle.query.specs.declared.Opened.{Opened}
use Rattle.query.proofs.Listed.{card_number}
use Rattle.tarski.specs.Flat.{refusal_of}
use Rattle.tarski.specs.Plain.{answered_from}

-- no refusal has the number 0
pub number_some : (e : Refusal) → number_of e ≢ 0
number_some e z =
    let n : ◌≡◌ {A = ℕ} 1 0 = ap (λ (m : ℕ). number_of (by_number m)) (sym z) ∙ ap number_of (by_own e) ∙ z in
    omega arith

-- an answer's number stands for the answer
pub answer_back : (a : Result (Unit {0}) Refusal) → answered_from (refusal_of a) ≡ a
unfolding refusal_of
answer_back (Ok u) = refl
answer_back (Err e) = sym (some_refuses (number_of e) (number_some e)) ∙ ap Err (by_own e)

-- ---- what a call gives, with the refusal as its number: what holds of a refusal with the number m, put into another form by f, is g m

module _ {A B : Type 0} (f : Result A Refusal → B) (g : ℕ → B) (same : (m : ℕ) → 0 < m → m ≤ 18 → f (refusing m) ≡ g m) where
  -- a number that refuses a card
  own-same : (m : ℕ) → Among card_numbers m → f (refusing m) ≡ g m
  own-same m h = let w = card_number m h.stands in same m w.0 w.1

  pub card_numbered : {c : List ℕ} {In : Type 0} {m : ℕ} {what o : Result A Refusal}
      → ((In → ⊥) → (0 < m) × (m ≤ 18)) → CardGives c In m refusing what o → CardGives c In m g (f what) (f o)
  card_numbered {m = m} w k = record {
    inside = λ s i. ap f (k.inside s i);
    outside = λ s n. ap f (k.outside s n) ∙ same m (w n).0 (w n).1;
    unsound = λ n. ((k.unsound n).0, ap f (k.unsound n).1 ∙ own-same _ (k.unsound n).0);
  }

  pub line_numbered : {c : List ℕ} {In : Type 0} {m : ℕ} {what o : Result A Refusal}
      → 0 < m → m ≤ 18 → LineGives c In m refusing what o → LineGives c In m g (f what) (f o)
  line_numbered {m = m} l h k = record {
    inside = λ s e i. ap f (k.inside s e i);
    outside = λ s e n. ap f (k.outside s e n) ∙ same m l h;
    other_kind = λ z n. ap f (k.other_kind z n) ∙ same 2 (omega arith) (omega arith);
    unsound = λ n w. ((k.unsound n w).0, ap f (k.unsound n w).1 ∙ own-same _ (k.unsound n w).0);
  }

  pub place_numbered : {c : List ℕ} {In : Type 0} {m : ℕ} {In' : Type 0} {m' : ℕ} {what o : Result A Refusal}
      → 0 < m → m ≤ 18 → 0 < m' → m' ≤ 18 → PlaceGives c In m In' m' refusing what o → PlaceGives c In m In' m' g (f what) (f o)
  place_numbered {m = m} {m' = m'} l h l' h' k = record {
    inside = λ s i j. ap f (k.inside s i j);
    outside = λ s n. ap f (k.outside s n) ∙ same m l h;
    outside' = λ s i n. ap f (k.outside' s i n) ∙ same m' l' h';
    unsound = λ n. ((k.unsound n).0, ap f (k.unsound n).1 ∙ own-same _ (k.unsound n).0);
  }

  pub opened_numbered : {o : Opened} {α : ℕ} {what r : Result A Refusal} → OpenedGives o α refusing what r
      → OpenedGives o α g (f what) (f r)
  opened_numbered k = record {
    own = λ h. ap f (k.own h) ∙ own-same _ h;
    no_card's = λ n h. ap f (k.no_card's n h) ∙ same 3 (omega arith) (omega arith);
    limits = λ e h. ap f (k.limits e h) ∙ same 3 (omega arith) (omega arith);
    past = λ e h b. ap f (k.past e h b) ∙ same 13 (omega arith) (omega arith);
    shown = λ e h b. ap f (k.shown e h b);
  }
