-- THEOREM of the code: the calls on a card give what `Claim` says. Each is known by its contract alone (`Learnt`), so that a weaker promise
-- of any of them breaks the theorem. `gives` is the law for every call on a card: the card's causes, then one of the call's own.
use mathlib.Core.Path.{◌≡◌, refl, sym, ap, subst}
use mathlib.Core.Bool.{Bool, true, false, ◌||◌}
use mathlib.Core.Logic.{◌⊎◌, inl, inr, ⊎_elim}
use mathlib.Core.List.{List, []}
use Prim.Native.Nat.{ℕ, zero, suc, ◌+◌, ◌≤◌, ◌<◌}
use native.Mathlib.Omega.{arith}
use borrow.Author.Tests.{leb-true, leb-false, lt-ltb, le-ltb, ltb-false, eq-eqb, ne_eqb}
use contract.Lifetimes.{Lfts}
use denote.Ref.{Bor}
use lib.Dec.{leb, eqb-suc-zero}
use lib.IntN.{ℤ, nat_abs}
use lib.ListN.{length}
use Rattle.refusals.specs.Numbers.{wrong_point, past_last, card_numbers, is_among, Among, ◌when◌, ◌▸◌, unless}
use Rattle.integers.specs.Search.{outside}
use Rattle.integers.proofs.Search.{or_false, left_false, right_false}
use Rattle.layout.specs.Format.{byte, polynomials}
use Rattle.layout.proofs.Twos.{below_or}
use Rattle.plane.specs.Format.{Point}
use Rattle.card.specs.Card.{refusal, position_refusal, kind_refusal, place_refusal}
use Rattle.card.specs.Sound.{Sound}
use Rattle.card.specs.Answers.{reading, stretch, body, start, value_answer, value_at_answer}
use Rattle.card.specs.Claim.{CardGives, LineGives, PlaceGives, Near, ReadGives, LocateGives, ValueGives, ValueAtGives, BodyGives}
use Rattle.std.proofs.Common.{Result}
use Rattle.refusals.specs.declared.Refusal.{Refusal}
use Rattle.card.specs.declared.Shape.{Shape}
use Rattle.card.specs.declared.Stretch.{Stretch}
use Rattle.card.proofs.Sound.{sound, unrefused, sound_headed}
use Rattle.card.proofs.Positions.{refused-short}
use Rattle.card.proofs.Listed.{Listed, refusal_listed}
use Rattle.card.proofs.read.Reads as read
use Rattle.card.proofs.locate.Reads as locate
use Rattle.card.proofs.body.Reads as bytes
use Rattle.card.proofs.value.Reads as evaluate
use Rattle.card.proofs.value_at.Reads as evaluate-at

-- ---- every call on a card

module _ {A : Type 0} (c : List ℕ) (refused : ℕ → A) (shown : A) where
  -- a card that is not sound, whatever cause of the call's own comes after those of the card
  unsound-gives : (k : ℕ) → (Sound c → ⊥) → Among card_numbers (refusal c) × (unless (refusal c ▸ k) refused shown ≡ refused (refusal c))
  unfolding is_among
  unsound-gives k n = go (refusal c) refl
    where
      go : (r : ℕ) → refusal c ≡ r → Among card_numbers (refusal c) × (unless (refusal c ▸ k) refused shown ≡ refused (refusal c))
      go zero e = absurd (n (sound c e))
      go (suc r) e = rw e (record { stands = rw (eqb-suc-zero r) at (subst Listed e (refusal_listed c)).stands }, refl)

  -- a call with a cause t of its own, which holds exactly where In does not
  pub gives : (In : Type 0) (m : ℕ) (t : Bool) → (t ≡ false → In) → (t ≡ true → In → ⊥)
      → CardGives c In (suc m) refused shown (unless (refusal c ▸ suc m when t) refused shown)
  gives In m true f g = record {
    inside = λ s i. absurd (g refl i);
    outside = λ s n. rw (unrefused c s) refl;
    unsound = unsound-gives (suc m);
  }
  gives In m false f g = record {
    inside = λ s i. rw (unrefused c s) refl;
    outside = λ s n. absurd (n (f refl));
    unsound = unsound-gives 0;
  }

  -- a call with none
  pub gives_all : CardGives c (Unit {0}) 0 refused shown (unless (refusal c) refused shown)
  gives_all = record {
    inside = λ s i. rw (unrefused c s) refl;
    outside = λ s n. absurd (n tt);
    unsound = λ n. subst (λ (k : ℕ). Among card_numbers (refusal c) × (unless k refused shown ≡ refused (refusal c)))
        (then_none (refusal c))
        (unsound-gives 0 n);
  }
    where
      then_none : (k : ℕ) → (k ▸ 0) ≡ k
      then_none zero = refl
      then_none (suc k) = refl

  -- a call with a position
  pub gives_at : (j : ℕ) → CardGives c (j < polynomials c) past_last refused shown (unless (position_refusal c j) refused shown)
  unfolding position_refusal
  gives_at j =
      gives (j < polynomials c) 13 (leb (polynomials c) j) (leb-false (polynomials c) j)
      (λ e i. let h = leb-true (polynomials c) j e in omega arith)

  -- a call that wants a card of points on the line, with a cause t of its own
  pub line_gives : (In : Type 0) (m : ℕ) (t : Bool) → (t ≡ false → In) → (t ≡ true → In → ⊥)
      → LineGives c In (suc m) refused shown (unless (kind_refusal c ▸ (refusal c ▸ suc m when t)) refused shown)
  unfolding kind_refusal
  line_gives In m t f g = record {
    inside = λ s e i. let k = on_line s e in rw k ((gives In m t f g).inside s i);
    outside = λ s e n. let k = on_line s e in rw k ((gives In m t f g).outside s n);
    other_kind = λ l n. rw (le-ltb (length c) 4 l, ne_eqb (byte c 0) 1 n) refl;
    unsound = λ n. ⊎_elim (λ l. short n l) (λ e. first n e (below_or (length c) 4));
  }
    where
      on_line : Sound c → byte c 0 ≡ 1 → kind_refusal c ≡ 0
      on_line s e = rw (le-ltb (length c) 4 (sound_headed c (unrefused c s)).long, eq-eqb (byte c 0) 1 e) refl

      Unsound : Type 0
      Unsound = Among card_numbers (refusal c) × (unless (kind_refusal c ▸ (refusal c ▸ suc m when t)) refused shown ≡ refused (refusal c))

      short : (Sound c → ⊥) → length c < 4 → Unsound
      short n l = (
        (unsound-gives 0 n).0,
        rw (lt-ltb (length c) 4 l) (ap refused (sym (refused-short c l))),
      )

      first : (Sound c → ⊥) → byte c 0 ≡ 1 → (length c < 4) ⊎ (4 ≤ length c) → Unsound
      first n e (inl l) = short n l
      first n e (inr l) = rw (le-ltb (length c) 4 l, eq-eqb (byte c 0) 1 e) ((gives In m t f g).unsound n)

  -- a call with two causes of its own, t and then u
  pub place-gives : (In : Type 0) (m : ℕ) (t : Bool) → (t ≡ false → In) → (t ≡ true → In → ⊥)
      → (In' : Type 0) (m' : ℕ) (u : Bool) → (u ≡ false → In') → (u ≡ true → In' → ⊥)
      → PlaceGives c In (suc m) In' (suc m') refused shown (unless ((refusal c ▸ suc m when t) ▸ suc m' when u) refused shown)
  place-gives In m t f g In' m' u f' g' = record {
    inside = λ s i i'. rw (unrefused c s) (by_inside t u f g f' g' i i');
    outside = λ s n. rw (unrefused c s) (by_outside t f n);
    outside' = λ s i n. rw (unrefused c s) (by_outside' t u g f' i n);
    unsound = λ n. go (refusal c) refl n;
  }
    where
      by_inside : (t u : Bool) → (t ≡ false → In) → (t ≡ true → In → ⊥) → (u ≡ false → In') → (u ≡ true → In' → ⊥) → In → In'
          → unless ((suc m when t) ▸ suc m' when u) refused shown ≡ shown
      by_inside true u f g f' g' i i' = absurd (g refl i)
      by_inside false true f g f' g' i i' = absurd (g' refl i')
      by_inside false false f g f' g' i i' = refl

      by_outside : (t : Bool) → (t ≡ false → In) → (In → ⊥) → unless ((suc m when t) ▸ suc m' when u) refused shown ≡ refused (suc m)
      by_outside true f n = refl
      by_outside false f n = absurd (n (f refl))

      by_outside' : (t u : Bool) → (t ≡ true → In → ⊥) → (u ≡ false → In') → In → (In' → ⊥)
          → unless ((suc m when t) ▸ suc m' when u) refused shown ≡ refused (suc m')
      by_outside' true u g f' i n = absurd (g refl i)
      by_outside' false true g f' i n = refl
      by_outside' false false g f' i n = absurd (n (f' refl))

      go : (r : ℕ) → refusal c ≡ r → (Sound c → ⊥)
          → Among card_numbers (refusal c) × (unless ((refusal c ▸ suc m when t) ▸ suc m' when u) refused shown ≡ refused (refusal c))
      go zero e n = absurd (n (sound c e))
      go (suc r) e n = ((unsound-gives 0 n).0, rw e refl)

  -- a call with a position, on the line; and one with a point beside it
  pub line-gives-at : (j : ℕ)
      → LineGives c (j < polynomials c) past_last refused shown (unless (kind_refusal c ▸ position_refusal c j) refused shown)
  unfolding position_refusal
  line-gives-at j =
      line_gives (j < polynomials c) 13 (leb (polynomials c) j) (leb-false (polynomials c) j)
      (λ e i. let h = leb-true (polynomials c) j e in omega arith)

  pub place-gives-at : (j : ℕ) (p : Point)
      → PlaceGives c (j < polynomials c) past_last (Near p) wrong_point refused shown (unless (place_refusal c j p) refused shown)
  unfolding position_refusal place_refusal
  place-gives-at j p =
      place-gives (j < polynomials c) 13 (leb (polynomials c) j) (leb-false (polynomials c) j)
      (λ e i. let h = leb-true (polynomials c) j e in omega arith)
      (Near p) 5 (outside 100 p.0 || outside 100 p.1)
      (λ e. (ltb-false 100 _ (left_false _ (outside 100 p.1) e), ltb-false 100 _ (right_false (outside 100 p.0) _ e)))
      (λ e n. let x : ◌≡◌ {A = ℕ} 0 1 = far (or_false _ _ (le-ltb 100 (nat_abs p.0) n.0) (le-ltb 100 (nat_abs p.1) n.1)) e in
      omega arith)
    where
      far : {b : Bool} → b ≡ false → b ≡ true → ◌≡◌ {A = ℕ} 0 1
      far e f = cc

-- what a call gives, put into another form by any function
pub gives_through : {A B : Type 0} (f : A → B) {c : List ℕ} {In : Type 0} {m : ℕ} {refused : ℕ → A} {shown o : A}
    → CardGives c In m refused shown o → CardGives c In m (λ k. f (refused k)) (f shown) (f o)
gives_through f g = record {
  inside = λ s i. ap f (g.inside s i);
  outside = λ s n. ap f (g.outside s n);
  unsound = λ n. ((g.unsound n).0, ap f (g.unsound n).1);
}

pub line-gives_through : {A B : Type 0} (f : A → B) {c : List ℕ} {In : Type 0} {m : ℕ} {refused : ℕ → A} {shown o : A}
    → LineGives c In m refused shown o → LineGives c In m (λ k. f (refused k)) (f shown) (f o)
line-gives_through f g = record {
  inside = λ s e i. ap f (g.inside s e i);
  outside = λ s e n. ap f (g.outside s e n);
  other_kind = λ l n. ap f (g.other_kind l n);
  unsound = λ n w. ((g.unsound n w).0, ap f (g.unsound n w).1);
}

pub place-gives_through : {A B : Type 0} (f : A → B) {c : List ℕ} {In : Type 0} {m : ℕ} {In' : Type 0} {m' : ℕ} {refused : ℕ → A}
    {shown o : A} → PlaceGives c In m In' m' refused shown o → PlaceGives c In m In' m' (λ k. f (refused k)) (f shown) (f o)
place-gives_through f g = record {
  inside = λ s i j. ap f (g.inside s i j);
  outside = λ s n. ap f (g.outside s n);
  outside' = λ s i n. ap f (g.outside' s i n);
  unsound = λ n. ((g.unsound n).0, ap f (g.unsound n).1);
}

-- ---- the calls

module _ (κs : Lfts 1) (card : Bor (List ℕ)) where
  pub read_gives : (o : Result Shape Refusal) → read.Learnt κs (card, tt) o (card, tt) → ReadGives card.now o
  unfolding reading
  read_gives o e = rw e (gives_all card.now _ _)

  pub locate_gives : (j : ℕ) (o : Result Stretch Refusal) → locate.Learnt κs (card, (j, tt)) o (card, (j, tt)) → LocateGives card.now j o
  unfolding stretch
  locate_gives j o e = rw e (gives_at card.now _ _ j)

  pub value-gives : (j : ℕ) (x : ℤ) (o : Result ℤ Refusal) → evaluate.Learnt κs (card, (j, (x, tt))) o (card, (j, (x, tt)))
      → ValueGives card.now j x o
  unfolding value_answer
  value-gives j x o e = rw e (line-gives-at card.now _ _ j)

  pub value-at-gives : (j : ℕ) (x y : ℤ) (o : Result ℤ Refusal)
      → evaluate-at.Learnt κs (card, (j, (x, (y, tt)))) o (card, (j, (x, (y, tt))))
      → ValueAtGives card.now j (x, y) o
  unfolding value_at_answer
  value-at-gives j x y o e = rw e (place-gives-at card.now _ _ j (x, y))

  pub body-gives : (j : ℕ) (r : Bor (List ℕ)) → bytes.Learnt κs (card, (j, tt)) r (card, (j, tt))
      → (r.ref_ptr.0 ≡ card.ref_ptr.0) × BodyGives card.now j card.ref_ptr.1 r.now r.ref_ptr.1
  unfolding body start
  body-gives j r (e, f, g) = (
    f,
    rw (e, g) (subst (λ (o : List ℕ × ℕ). BodyGives card.now j card.ref_ptr.1 o.0 o.1)
        (sym (both (position_refusal card.now j) _ _ _)) (gives_at card.now _ _ j)),
  )
    where
      both : (k base : ℕ) (l : List ℕ) (at : ℕ)
          → ◌≡◌ {A = List ℕ × ℕ} (unless k (λ m. []) l, base + unless k (λ m. 0) at) (unless k (λ m. ([], base)) (l, base + at))
      both zero base l at = refl
      both (suc k) base l at = ap (λ (n : ℕ). ([], n)) (omega arith)
