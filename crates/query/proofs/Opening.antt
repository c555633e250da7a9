-- An opened card: the words that `evaluate` leaves are those of `opened`, and what an opened card answers is `query_answer` of the card.
--
--   Filled K d s l == the list l holds the words of the first s polynomials of K for the sign digit d, and 0 for the others
use mathlib.Core.Path.{◌≡◌, refl, sym, ap, subst, ◌∙◌}
use mathlib.Core.Bool.{Bool, true, false, ◌||◌, ◌&&◌}
use mathlib.Core.Logic.{⊎_elim}
use mathlib.Core.List.{List, [], ◌∷◌, map, map-map}
use Prim.Native.Nat.{ℕ, zero, suc, ◌+◌, ◌^◌, ◌<◌, ◌≤◌}
use native.Mathlib.Omega.{arith}
use native.Mathlib.Numerals.{add-one}
use borrow.Author.Tests.{lt-ltb, le-ltb, le-leb, lt-leb, ne_eqb}
use lib.Dec.{ltb}
use lib.ListN.{length, get_or, set, replicate, length-map, length-set, length-replicate}
use lib.Seq.{ext_get_or, get_or-set_same, get_or-set_other}
use Rattle.std.specs.Ordering.{is_le, nat_cmp}
use Rattle.std.proofs.lemmas.Bool.Decides.{nat_tests}
use Rattle.refusals.specs.Numbers.{wrong_count, wrong_product, card_numbers, is_among, ◌▸◌, unless}
use Rattle.std.specs.Prelude.{Result, Ok, Err}
use Rattle.refusals.specs.Refusals.{number_of, by_number, refusing}
use Rattle.refusals.proofs.Refusals.{number_by}
use Rattle.query.proofs.Listed.{card_number}
use Rattle.refusals.specs.declared.Refusal.{Refusal}
use Rattle.refusals.specs.Limits.{most_polynomials, most_points}
use Rattle.integers.proofs.Tests.{eq_cases}
use Rattle.signs.specs.Lists.{Below, up_to}
use Rattle.signs.specs.Signs.{sign, sign_digit}
use Rattle.signs.specs.Bits.{bit_of}
use Rattle.signs.proofs.Digitwise.{bit_le}
use Rattle.signs.proofs.SignDigits.{digit-small}
use Rattle.sign_counts.specs.Counts.{sign_counts}
use Rattle.sign_counts.specs.declared.SignCounts.{SignCounts}
use Rattle.contents.specs.Contents.{Contents, pattern_to, values_at, pattern_at, patterns_in}
use Rattle.contents.specs.Counts.{counts_in, pattern_counts}
use Rattle.contents.proofs.Patterns.{map_below}
use Rattle.contents.proofs.Counts.{counts-patterns}
use Rattle.layout.specs.Format.{polynomials}
use Rattle.plane.specs.Contents.{contents_of}
use Rattle.layout.proofs.Contents.{up_to-long, map-up_to-at}
use Rattle.plane.proofs.Contents.{points-few}
use Rattle.layout.proofs.Twos.{below_or}
use Rattle.card.specs.Card.{refusal}
use Rattle.card.specs.Answers.{shape, reading}
use Rattle.card.specs.Sound.{Sound}
use Rattle.card.proofs.Sound.{sound, unrefused}
use Rattle.card.proofs.Listed.{refusal_listed}
use Rattle.query.specs.declared.Opened.{Opened}
use Rattle.query.specs.Query.{query_answer}
use Rattle.query.specs.Opened.{bit_at, point_bits, sign_word, word_in, words_in, digit_by, column_to, opened_sound, opened_refused, opened}
use Rattle.query.specs.Opened.{counts_on, unlimited, own_number, refused_by, opened_answer}
use Rattle.query.proofs.Words.{word_bit}

-- ---- the lists

none_at : (n k : ℕ) → get_or {A = ℕ} (replicate n 0) k 0 ≡ 0
none_at zero k = refl
none_at (suc n) zero = refl
none_at (suc n) (suc k) = none_at n k

pub record Filled {X : Type 0} (K : Contents X) (d s : ℕ) (l : List ℕ) : Type 0 where
  pub long : length l ≡ most_polynomials
  pub at : (j : ℕ) → get_or l j 0 ≡ word_in K d s j

module _ {X : Type 0} (K : Contents X) (d : ℕ) where
  word_in_lem : (s j : ℕ) → j < s → word_in K d s j ≡ sign_word K d j
  unfolding word_in
  word_in_lem s j h = rw (lt-ltb j s h) refl

  word-past : (s j : ℕ) → s ≤ j → word_in K d s j ≡ 0
  unfolding word_in
  word-past s j h = rw (le-ltb j s h) refl

  pub filled_none : Filled K d 0 (replicate most_polynomials 0)
  filled_none =
      record {
        long = length-replicate {A = ℕ} most_polynomials 0;
        at = λ j. none_at most_polynomials j
            ∙ sym (word-past 0 j (omega arith));
      }

  -- one polynomial more
  pub filled_next : (s : ℕ) (l : List ℕ) (v : ℕ) → Filled K d s l → s < most_polynomials → v ≡ sign_word K d s
      → Filled K d (s + 1) (set l s v)
  filled_next s l v m h e =
      rw (add-one s) (record {
        long = simp length-set m.long;
        at = λ j. ⊎_elim (λ w. here j w.0) (λ w. other j w.0) (eq_cases j s);
      })
    where
      here : (j : ℕ) → j ≡ s → get_or (set l s v) j 0 ≡ word_in K d (suc s) j
      here j x =
          subst (λ (i : ℕ). get_or (set l s v) i 0 ≡ word_in K d (suc s) i) (sym x)
          (get_or-set_same l s v 0 (omega (arith, m.long)) ∙ e ∙ sym (word_in_lem (suc s) s (omega arith)))

      other : (j : ℕ) → (j ≡ s → ⊥) → get_or (set l s v) j 0 ≡ word_in K d (suc s) j
      other j x =
          get_or-set_other l s j v 0 x ∙ m.at j
          ∙ ⊎_elim (λ g. word_in_lem s j g ∙ sym (word_in_lem (suc s) j (omega arith)))
          (λ g. word-past s j g ∙ sym (word-past (suc s) j (omega arith)))
          (below_or j s)

  words_at : (j : ℕ) → j < most_polynomials → get_or (words_in K d) j 0 ≡ word_in K d K.s j
  unfolding words_in
  words_at j h = map-up_to-at (word_in K d K.s) most_polynomials j 0 h

  words_long : length (words_in K d) ≡ most_polynomials
  unfolding words_in
  words_long = length-map (up_to most_polynomials) (word_in K d K.s) ∙ up_to-long most_polynomials

  filled_all : (s : ℕ) (l : List ℕ) → s ≡ K.s → Filled K d s l → l ≡ words_in K d
  filled_all s l e m =
      ext_get_or 0 l (words_in K d) (m.long ∙ sym words_long)
      (λ j h. m.at j ∙ ap (λ (i : ℕ). word_in K d i j) e ∙ sym (words_at j (omega (arith, m.long))))

  -- each is a bit
  pub bits_small : (j : ℕ) → Below 2 (point_bits K d j)
  bits_small j =
      map_below (λ x. bit_of (sign_digit (K.value j x)) d) 2 (λ x. omega (arith, bit_le (sign_digit (K.value j x)) d)) K.points

-- ---- the opened card

pub evaluated_is : {X : Type 0} (K : Contents X) (s n : ℕ) (positive negative : List ℕ) → s ≡ K.s → n ≡ length K.points
    → Filled K 1 s positive → Filled K 2 s negative
    → ◌≡◌ {A = Opened} (record { refusal = 0; s = s; n = n; positive = positive; negative = negative }) (opened_sound K)
evaluated_is K s n positive negative es en m₁ m₂ =
    let e₁ = filled_all K 1 s positive es m₁ in
    let e₂ = filled_all K 2 s negative es m₂ in
    rw (e₁, e₂, es, en) refl

pub opened-sound : (c : List ℕ) → refusal c ≡ 0 → opened c ≡ opened_sound (contents_of c)
unfolding opened
opened-sound c e = rw e refl

pub opened-refused : (c : List ℕ) (m : ℕ) → refusal c ≡ m → (m ≡ 0 → ⊥) → opened c ≡ opened_refused m
unfolding opened
opened-refused c zero e h = absurd (h refl)
opened-refused c (suc m) e h = rw e refl

-- a refused card's number is a card's
pub refused_among : (c : List ℕ) → (refusal c ≡ 0 → ⊥) → is_among (refusal c) card_numbers ≡ true
unfolding is_among
refused_among c h = rw (ne_eqb (refusal c) 0 h) at (refusal_listed c).stands

-- so its refusal has this number
pub refusal_number : (c : List ℕ) → (refusal c ≡ 0 → ⊥) → number_of (by_number (refusal c)) ≡ refusal c
refusal_number c h = let w = card_number (refusal c) (refused_among c h) in number_by (refusal c) w.0 w.1

-- what `card::read` gives is what is opened
pub opened_read : (c : List ℕ) (e : Refusal) → reading c ≡ Err e → opened_refused (number_of e) ≡ opened c
unfolding reading opened
opened_read c e = go (refusal c) refl
  where
    go : (k : ℕ) → refusal c ≡ k → unless k refusing (Ok (shape c)) ≡ Err e
        → opened_refused (number_of e) ≡ unless k opened_refused (opened_sound (contents_of c))
    go zero f q = let z : ◌≡◌ {A = ℕ} 0 1 = cc in absurd (omega arith)
    go (suc k) f q =
        let z : by_number (suc k) ≡ e = cc in
        let n : number_of e ≡ suc k =
        ap number_of (sym z) ∙ ap (λ (i : ℕ). number_of (by_number i)) (sym f) ∙ refusal_number c (λ h. omega (arith, h, f)) ∙ f in
        ap opened_refused n

-- ---- what an opened card answers

own : (m x : ℕ) (a : Result SignCounts Refusal) → (m ≡ 0 → ⊥) → refusing m ≡ unless (m ▸ x) refusing a
own zero x a h = absurd (h refl)
own (suc m) x a h = refl

-- its own number, or 3 where that is no card's
own-card : (m x : ℕ) (a : Result SignCounts Refusal) → (m ≡ 0 → ⊥) → is_among m card_numbers ≡ true
    → refusing m ≡ unless (own_number m ▸ x) refusing a
own-card zero x a z h = absurd (z refl)
own-card (suc m) x a z h = rw h refl

own_other : (m x : ℕ) (a : Result SignCounts Refusal) → (m ≡ 0 → ⊥) → is_among m card_numbers ≡ false
    → refusing wrong_count ≡ unless (own_number m ▸ x) refusing a
own_other zero x a z h = absurd (z refl)
own_other (suc m) x a z h = rw h refl

-- the limits of s and n
abbrev out_limits : ℕ → ℕ → Bool
out_limits s n = ltb s 1 || (ltb most_polynomials s || ltb most_points n)

pub few : (s n : ℕ) → s < 1 → out_limits s n ≡ true
few s n h = rw (lt-ltb s 1 h) refl

pub many : (s n : ℕ) → 1 ≤ s → most_polynomials < s → out_limits s n ≡ true
many s n l h = rw (le-ltb s 1 l, lt-ltb most_polynomials s h) refl

-- as a range of s says it
pub beyond : (s n : ℕ) → (is_le (nat_cmp 1 s) && is_le (nat_cmp s most_polynomials)) ≡ false → out_limits s n ≡ true
beyond s n e = grind (arith, nat_tests)

pub within : (s : ℕ) → (is_le (nat_cmp 1 s) && is_le (nat_cmp s most_polynomials)) ≡ true → (1 ≤ s) × (s ≤ most_polynomials)
within s e = (grind (arith, nat_tests), grind (arith, nat_tests))

pub crowded : (s n : ℕ) → 1 ≤ s → s ≤ most_polynomials → most_points < n → out_limits s n ≡ true
crowded s n l m h = rw (le-ltb s 1 l, le-ltb most_polynomials s m, lt-ltb most_points n h) refl

pub limits : (s n : ℕ) → 1 ≤ s → s ≤ most_polynomials → n ≤ most_points → out_limits s n ≡ false
limits s n l m h = rw (le-ltb s 1 l, le-ltb most_polynomials s m, le-ltb most_points n h) refl

module _ (o : Opened) (α : ℕ) where
  pub answer_foreign : (o.refusal ≡ 0 → ⊥) → is_among o.refusal card_numbers ≡ false → refusing wrong_count ≡ opened_answer o α
  unfolding opened_answer refused_by
  answer_foreign z h = own_other o.refusal _ _ z h

  pub answer-own : (o.refusal ≡ 0 → ⊥) → is_among o.refusal card_numbers ≡ true → refusing o.refusal ≡ opened_answer o α
  unfolding opened_answer refused_by
  answer-own z h = own-card o.refusal _ _ z h

  pub answer-limits : o.refusal ≡ 0 → unlimited o ≡ true → refusing wrong_count ≡ opened_answer o α
  unfolding opened_answer refused_by
  answer-limits e u = rw (e, u) refl

  pub answer_product : o.refusal ≡ 0 → unlimited o ≡ false → 3 ^ o.s ≤ α → refusing wrong_product ≡ opened_answer o α
  unfolding opened_answer refused_by
  answer_product e u h = rw (e, u, le-leb (3 ^ o.s) α h) refl

  pub answer-counts : o.refusal ≡ 0 → unlimited o ≡ false → α < 3 ^ o.s
      → Ok (counts_on o α) ≡ opened_answer o α
  unfolding opened_answer refused_by
  answer-counts e u h = rw (e, u, lt-leb (3 ^ o.s) α h) refl

-- ---- the law: opened once or not, the answer is the same

-- the digit that the bits of a sign digit say is that digit
digit_bits : (t : ℕ) → t < 3 → digit_by (bit_of t 1) (bit_of t 2) ≡ t
digit_bits zero h = refl
digit_bits (suc zero) h = refl
digit_bits (suc (suc zero)) h = refl
digit_bits (suc (suc (suc t))) h = absurd (omega arith)

-- the point at a place
record Place {X : Type 0} (l : List X) (k : ℕ) : Type 1 where
  x : X
  there : {B : Type 0} (f : X → B) (b : B) → get_or (map f l) k b ≡ f x

place : {X : Type 0} (l : List X) (k : ℕ) → k < length l → Place l k
place [] k h = absurd (omega arith)
place (x ∷ l) zero h = record { x = x; there = λ f b. refl }
place (x ∷ l) (suc k) h = let p = place l k (omega arith) in record { x = p.x; there = λ f b. p.there f b }

module _ {X : Type 0} (K : Contents X) (few-s : K.s ≤ most_polynomials) where
  module _ (k : ℕ) (p : Place K.points k) where
    bit_there : (d j : ℕ) → j < K.s → bit_at (get_or (words_in K d) j 0) k ≡ bit_of (sign_digit (K.value j p.x)) d
    bit_there d j b =
        ap (λ (w : ℕ). bit_at w k) (words_at K d j (omega arith) ∙ word_in_lem K d K.s j b)
        ∙ word_bit (point_bits K d j) (bits_small K d j) k
        ∙ p.there (λ x. bit_of (sign_digit (K.value j x)) d) 0

    column_is : (s : ℕ) → s ≤ K.s → column_to (opened_sound K) s k ≡ pattern_to (values_at K p.x) s
    unfolding column_to pattern_to
    column_is zero b = refl
    column_is (suc s) b =
        let v = K.value s p.x in
        rw (column_is s (omega arith), bit_there 1 s b, bit_there 2 s b, digit_bits (sign_digit v) (digit-small v)) refl

  -- the columns are the points' patterns
  columns : map (column_to (opened_sound K) K.s) (up_to (length K.points)) ≡ patterns_in K
  unfolding patterns_in
  columns =
      ext_get_or 0 (map (column_to (opened_sound K) K.s) (up_to n)) (map (pattern_at K) K.points)
      (length-map (up_to n) (column_to (opened_sound K) K.s) ∙ up_to-long n ∙ sym (length-map K.points (pattern_at K)))
      (λ k h. let b : k < n = omega (arith, length-map (up_to n) (column_to (opened_sound K) K.s), up_to-long n) in
      let p = place K.points k b in
      map-up_to-at (column_to (opened_sound K) K.s) n k 0 b ∙ column_is k p K.s (omega arith) ∙ sym (p.there (pattern_at K) 0))
    where
      n : ℕ
      n = length K.points

  pub counts_are : (α : ℕ) → counts_on (opened_sound K) α ≡ counts_in K α
  unfolding counts_on
  counts_are α =
      ap sign_counts (sym (map-map (sign K.s α) (column_to (opened_sound K) K.s) (up_to (length K.points))))
      ∙ ap (λ (E : List ℕ). sign_counts (map (sign K.s α) E)) columns
      ∙ (unfold pattern_counts in sym (counts-patterns K α))

module _ (c : List ℕ) (α : ℕ) where
  answer-sound : Sound c → opened_answer (opened_sound (contents_of c)) α ≡ query_answer c α
  unfolding query_answer
  answer-sound h =
      let K = contents_of c in
      let u = limits (polynomials c) (length K.points) h.s_least h.s_most (omega (arith, points-few c, h.n_most)) in
      let e = unrefused c h in
      ⊎_elim (λ b. rw (e, lt-leb (3 ^ polynomials c) α b)
      (sym (answer-counts (opened_sound K) α refl u b) ∙ ap Ok (counts_are K h.s_most α)))
      (λ b. rw (e, le-leb (3 ^ polynomials c) α b) (sym (answer_product (opened_sound K) α refl u b))) (below_or α (3 ^ polynomials c))

  answer-refused : (refusal c ≡ 0 → ⊥) → opened_answer (opened_refused (refusal c)) α ≡ query_answer c α
  unfolding query_answer
  answer-refused h = sym (answer-own (opened_refused (refusal c)) α h (refused_among c h)) ∙ own (refusal c) _ _ h

  pub answer-opened : opened_answer (opened c) α ≡ query_answer c α
  answer-opened =
      ⊎_elim (λ w. ap (λ (o : Opened). opened_answer o α) (opened-sound c w.0) ∙ answer-sound (sound c w.0))
      (λ w. ap (λ (o : Opened). opened_answer o α) (opened-refused c (refusal c) refl w.0) ∙ answer-refused w.0)
      (eq_cases (refusal c) 0)
