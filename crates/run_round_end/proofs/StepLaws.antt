-- Laws for the loops of a round's end: a test and a list of rows from place k on, as one more element is passed.
use mathlib.Core.Path.{◌≡◌, refl, sym, ap, ◌∙◌}
use mathlib.Core.Bool.{Bool, true, false, ◌&&◌}
use mathlib.Core.List.{List, [], ◌∷◌, ◌++◌}
use Prim.Native.Nat.{ℕ, zero, suc, ◌+◌, ◌*◌, ◌-◌, ◌^◌, ◌≤◌, ◌<◌}
use native.Mathlib.Nat.{mul-le-mul_right, zero-mul, one-mul}
use native.Mathlib.Numerals.{add-one}
use native.Mathlib.Omega.{arith}
use borrow.Author.Tests.{lt-ltb, le-ltb, le-leb, lt-leb, leb-true, leb-false}
use lib.Dec.{leb, ltb}
use lib.IntN.{ℤ, pos}
use lib.ListN.{length, get_or, take, drop, drop_of_length-le, length-append}
use lib.Seq.{drop-cons, sets}
use Rattle.refusals.specs.Limits.{most_polynomials, most_points}
use Rattle.integers.proofs.Parts.{same_test}
use Rattle.signs.specs.Lists.{Below, is_below, is_rising}
use Rattle.signs.proofs.Orders.{both_left, both_right, below_from}
use Rattle.adapted.proofs.Stores.{sets_append, take_sets}
use Rattle.rounds.specs.Rows.{Row, patterns, counts, rows_with, row_if}
use Rattle.rounds.specs.Moments.{with_zero, with_plus, with_minus, splits, all_split, extended_by, extended_rows}
use Rattle.rounds.specs.RoundEnd.{all_positive, sum, proper_rows}
use Rattle.run_round_end.specs.Steps.{with_sign, sign_rows, proper_counts}
use Rattle.rounds.proofs.RowLaws.{patterns-append, length-patterns}
use Rattle.rounds.proofs.Restrict.{three_mono}
use Rattle.rounds.proofs.Moments.{splits_yes}

-- ---- counts

-- the counts are above 0, and add up to at most m
abbrev pub up_to_sum : ℕ → List ℕ → Bool
up_to_sum m C = all_positive C && leb (sum C) m

no_and : (a : Bool) → a && false ≡ false
no_and true = refl
no_and false = refl

counts_next : (m : ℕ) (C : List ℕ) (k : ℕ) → k < length C
    → up_to_sum m (drop k C) ≡ (ltb 0 (get_or C k 0) && all_positive (drop (suc k) C)) && leb (get_or C k 0 + sum (drop (suc k) C)) m
unfolding all_positive sum
counts_next m C k h = rw (drop-cons C k 0 h) refl

less_left : (m c s : ℕ) → c ≤ m → leb (c + s) m ≡ leb s (m - c)
less_left m c s h =
    same_test (λ t. le-leb s (m - c) (omega (arith, leb-true (c + s) m t))) (λ t. lt-leb s (m - c) (omega (arith, leb-false (c + s) m t)))

pub counts_here : (m : ℕ) (C : List ℕ) (k : ℕ) → k < length C → 0 < get_or C k 0 → get_or C k 0 ≤ m
    → up_to_sum m (drop k C) ≡ up_to_sum (m - get_or C k 0) (drop (k + 1) C)
counts_here m C k h b u =
    rw (add-one k, counts_next m C k h, lt-ltb 0 (get_or C k 0) b, less_left m (get_or C k 0) (sum (drop (suc k) C)) u) refl

pub counts_zero : (m : ℕ) (C : List ℕ) (k : ℕ) → k < length C → get_or C k 0 ≡ 0 → up_to_sum m (drop k C) ≡ false
counts_zero m C k h e = rw (counts_next m C k h, le-ltb 0 (get_or C k 0) (omega arith)) refl

pub counts-many : (m : ℕ) (C : List ℕ) (k : ℕ) → k < length C → m < get_or C k 0 → up_to_sum m (drop k C) ≡ false
counts-many m C k h b =
    rw (counts_next m C k h, lt-leb (get_or C k 0 + sum (drop (suc k) C)) m (omega arith))
    (no_and (ltb 0 (get_or C k 0) && all_positive (drop (suc k) C)))

pub counts-done : (m : ℕ) (C : List ℕ) (k : ℕ) → length C ≤ k → up_to_sum m (drop k C) ≡ true
unfolding all_positive sum
counts-done m C k h = rw (drop_of_length-le C h) (le-leb 0 m (omega arith))

-- counts above 0 are at most as many as their sum
pub length-sum : (C : List ℕ) → all_positive C ≡ true → length C ≤ sum C
unfolding all_positive sum
length-sum [] t = omega arith
length-sum (zero ∷ C) t = let x : ◌≡◌ {A = ℕ} 0 1 = cc in absurd (omega arith)
length-sum (suc c ∷ C) t = omega (arith, length-sum C (both_right (ltb 0 (suc c)) (all_positive C) t))

-- and none is more than it
pub count_at : (C : List ℕ) (k : ℕ) → get_or C k 0 ≤ sum C
unfolding sum
count_at [] zero = omega arith
count_at [] (suc k) = omega arith
count_at (c ∷ C) zero = omega arith
count_at (c ∷ C) (suc k) = omega (arith, count_at C k)

-- ---- rows

pub patterns-rows_with : (P C : List ℕ) → length C ≡ length P → patterns (rows_with P C) ≡ P
unfolding patterns rows_with
patterns-rows_with [] C e = refl
patterns-rows_with (q ∷ P) [] e = absurd (omega arith)
patterns-rows_with (q ∷ P) (c ∷ C) e = ap (λ (l : List ℕ). q ∷ l) (patterns-rows_with P C (omega arith))

pub counts-rows_with : (P C : List ℕ) → length C ≡ length P → counts (rows_with P C) ≡ C
unfolding counts rows_with
counts-rows_with [] [] e = refl
counts-rows_with [] (c ∷ C) e = absurd (omega arith)
counts-rows_with (q ∷ P) [] e = absurd (omega arith)
counts-rows_with (q ∷ P) (c ∷ C) e = ap (λ (l : List ℕ). c ∷ l) (counts-rows_with P C (omega arith))

pub length-rows_with : (P C : List ℕ) → length C ≡ length P → length (rows_with P C) ≡ length P
unfolding rows_with
length-rows_with [] C e = refl
length-rows_with (q ∷ P) [] e = absurd (omega arith)
length-rows_with (q ∷ P) (c ∷ C) e = ap suc (length-rows_with P C (omega arith))

-- the test of the rows, by their two lists
pub proper_is : (i : ℕ) (P C : List ℕ) → length C ≡ length P
    → proper_rows i (rows_with P C) ≡ is_rising P && (is_below (3 ^ i) P && proper_counts C)
unfolding proper_rows proper_counts
proper_is i P C e = rw (patterns-rows_with P C e, counts-rows_with P C e) refl

pub counts-append : (R R' : List Row) → counts (R ++ R') ≡ counts R ++ counts R'
unfolding counts
counts-append [] R' = refl
counts-append (r ∷ R) R' = ap (λ (l : List ℕ). r.count ∷ l) (counts-append R R')

pub length-counts : (R : List Row) → length (counts R) ≡ length R
unfolding counts
length-counts [] = refl
length-counts (r ∷ R) = ap suc (length-counts R)

pub row_if_none : (q n : ℕ) → n ≡ 0 → row_if q n ≡ []
unfolding row_if
row_if_none q zero e = refl
row_if_none q (suc n) e = absurd (omega arith)

pub row_if-some : (q n : ℕ) → (n ≡ 0 → ⊥) → row_if q n ≡ record { pattern = q; count = n } ∷ []
unfolding row_if
row_if-some q zero e = absurd (e refl)
row_if-some q (suc n) e = refl

row_if-length : (q n : ℕ) → length (row_if q n) ≤ n
unfolding row_if
row_if-length q zero = omega arith
row_if-length q (suc n) = omega arith

-- ---- the rows of one sign, from place j on

-- those of the digit t, whose weight is c
abbrev pub rows_left : (c t : ℕ) (P C : List ℕ) (es gs : List ℤ) (j : ℕ) → List Row
rows_left c t P C es gs j = extended_by c (with_sign t) (rows_with (drop j P) (drop j C)) (drop j es) (drop j gs)

abbrev pub fair_left : (P C : List ℕ) (es gs : List ℤ) (j : ℕ) → Bool
fair_left P C es gs j = all_split (rows_with (drop j P) (drop j C)) (drop j es) (drop j gs)

module _ (P C : List ℕ) (es gs : List ℤ) (j : ℕ) (h : j < length P) (hC : length C ≡ length P) (he : length es ≡ length P)
    (hg : length gs ≡ length P) where
  pub splits_next : fair_left P C es gs j ≡ splits (get_or C j 0) (get_or es j (pos 0)) (get_or gs j (pos 0)) && fair_left P C es gs (j + 1)
  unfolding all_split rows_with
  splits_next =
      rw (
        add-one j,
        drop-cons P j 0 h,
        drop-cons C j 0 (omega arith),
        drop-cons es j (pos 0) (omega arith),
        drop-cons gs j (pos 0) (omega arith),
      )
      refl

  pub splits-now : fair_left P C es gs j ≡ true → splits (get_or C j 0) (get_or es j (pos 0)) (get_or gs j (pos 0)) ≡ true
  splits-now t = both_left (splits (get_or C j 0) (get_or es j (pos 0)) (get_or gs j (pos 0))) (fair_left P C es gs (j + 1))
      (sym splits_next ∙ t)

  pub splits_later : fair_left P C es gs j ≡ true → fair_left P C es gs (j + 1) ≡ true
  splits_later t =
      both_right (splits (get_or C j 0) (get_or es j (pos 0)) (get_or gs j (pos 0))) (fair_left P C es gs (j + 1)) (sym splits_next ∙ t)

  pub rows_next : (c t n : ℕ) → n ≡ with_sign t (get_or C j 0) (get_or es j (pos 0)) (get_or gs j (pos 0))
      → rows_left c t P C es gs j ≡ row_if (get_or P j 0 + c) n ++ rows_left c t P C es gs (j + 1)
  unfolding extended_by rows_with
  rows_next c t n e =
      rw (
        e,
        add-one j,
        drop-cons P j 0 h,
        drop-cons C j 0 (omega arith),
        drop-cons es j (pos 0) (omega arith),
        drop-cons gs j (pos 0) (omega arith),
      )
      refl

pub splits-done : (P C : List ℕ) (es gs : List ℤ) (j : ℕ) → length P ≤ j → fair_left P C es gs j ≡ true
unfolding all_split rows_with
splits-done P C es gs j h = rw (drop_of_length-le P h) refl

pub rows_done : (c t : ℕ) (P C : List ℕ) (es gs : List ℤ) (j : ℕ) → length P ≤ j → rows_left c t P C es gs j ≡ []
unfolding extended_by rows_with
rows_done c t P C es gs j h = rw (drop_of_length-le P h) refl

-- a digit's weight
pub digit_base : (t w : ℕ) → t < 3 → t * w ≤ 2 * w
digit_base t w h = mul-le-mul_right w (omega arith)

-- ---- few rows

-- the extended rows are at most as many as the points
thirds_few : (a b c : ℕ) (R : List Row) (es gs : List ℤ) → all_split R es gs ≡ true
    → length (extended_by a with_zero R es gs) + length (extended_by b with_plus R es gs)
    + length (extended_by c with_minus R es gs) ≤ sum (counts R)
unfolding extended_by all_split counts sum
thirds_few a b c [] es gs t = omega arith
thirds_few a b c (r ∷ R) [] gs t = omega arith
thirds_few a b c (r ∷ R) (e ∷ es) [] t = omega arith
thirds_few a b c (r ∷ R) (e ∷ es) (g ∷ gs) t =
    let d = r.count in
    let F = splits_yes d e g (both_left (splits d e g) (all_split R es gs) t) in
    omega (
      arith,
      F.adds,
      row_if-length (r.pattern + a) (with_zero d e g),
      row_if-length (r.pattern + b) (with_plus d e g),
      row_if-length (r.pattern + c) (with_minus d e g),
      length-append (row_if (r.pattern + a) (with_zero d e g)) (extended_by a with_zero R es gs),
      length-append (row_if (r.pattern + b) (with_plus d e g)) (extended_by b with_plus R es gs),
      length-append (row_if (r.pattern + c) (with_minus d e g)) (extended_by c with_minus R es gs),
      thirds_few a b c R es gs (both_right (splits d e g) (all_split R es gs) t),
    )

pub extended-few : (i : ℕ) (R : List Row) (es gs : List ℤ) → all_split R es gs ≡ true → length (extended_rows i R es gs) ≤ sum (counts R)
unfolding extended_rows
extended-few i R es gs t =
    omega (
      arith,
      thirds_few 0 (3 ^ i) (2 * 3 ^ i) R es gs t,
      length-append (extended_by 0 with_zero R es gs) (extended_by (3 ^ i) with_plus R es gs ++ extended_by (2 * 3 ^ i) with_minus R es gs),
      length-append (extended_by (3 ^ i) with_plus R es gs) (extended_by (2 * 3 ^ i) with_minus R es gs),
    )

-- ---- lists written one after the other

-- a list of rows T, of which A is written from k on and B is left
pub put-length : (A B T : List Row) (k k' : ℕ) → T ≡ A ++ B → k' ≡ k + length A → k' + length B ≡ k + length T
put-length A B T k k' e next = omega (arith, ap length e, length-append A B)

-- of each row its pattern, or its count
module _ (f : List Row → List ℕ) (f-append : (R R' : List Row) → f (R ++ R') ≡ f R ++ f R')
    (f-length : (R : List Row) → length (f R) ≡ length R) where
  put : (A B T : List Row) (l l' : List ℕ) (k k' : ℕ) → T ≡ A ++ B → k' ≡ k + length A → l' ≡ sets l k (f A)
      → sets l' k' (f B) ≡ sets l k (f T)
  put A B T l l' k k' e next w = rw (e, next, w, f-append A B, sets_append (f A) (f B) l k, f-length A) refl

  -- three parts, from the front on
  put_three : (A B C : List Row) (l l₁ l₂ l₃ : List ℕ) (k₁ k₂ : ℕ) → k₁ ≡ 0 + length A → k₂ ≡ k₁ + length B → l₁ ≡ sets l 0 (f A)
      → l₂ ≡ sets l₁ k₁ (f B) → l₃ ≡ sets l₂ k₂ (f C) → length (A ++ (B ++ C)) ≤ length l
      → take (length (A ++ (B ++ C))) l₃ ≡ f (A ++ (B ++ C))
  put_three A B C l l₁ l₂ l₃ k₁ k₂ e₁ e₂ w₁ w₂ w₃ h =
      let x = w₃ ∙ put B C (B ++ C) l₁ l₂ k₁ k₂ refl e₂ w₂ ∙ put A (B ++ C) (A ++ (B ++ C)) l l₁ 0 k₁ refl e₁ w₁ in
      rw x (take_sets (f (A ++ (B ++ C))) l (length (A ++ (B ++ C))) (sym (f-length (A ++ (B ++ C)))) h)

pub put-patterns : (A B T : List Row) (l l' : List ℕ) (k k' : ℕ) → T ≡ A ++ B → k' ≡ k + length A → l' ≡ sets l k (patterns A)
    → sets l' k' (patterns B) ≡ sets l k (patterns T)
put-patterns = put patterns patterns-append length-patterns

pub put-counts : (A B T : List Row) (l l' : List ℕ) (k k' : ℕ) → T ≡ A ++ B → k' ≡ k + length A → l' ≡ sets l k (counts A)
    → sets l' k' (counts B) ≡ sets l k (counts T)
put-counts = put counts counts-append length-counts

-- ---- the rows of the three signs

pub extended_is : (i w : ℕ) (R : List Row) (es gs : List ℤ) → w ≡ 3 ^ i
    → extended_rows i R es gs ≡ sign_rows w 0 R es gs ++ (sign_rows w 1 R es gs ++ sign_rows w 2 R es gs)
unfolding extended_rows with_sign
extended_is i w R es gs e = rw (e, zero-mul (3 ^ i), one-mul (3 ^ i)) refl

pub put-all-patterns : (A B C : List Row) (l l₁ l₂ l₃ : List ℕ) (k₁ k₂ : ℕ) → k₁ ≡ 0 + length A → k₂ ≡ k₁ + length B
    → l₁ ≡ sets l 0 (patterns A)
    → l₂ ≡ sets l₁ k₁ (patterns B) → l₃ ≡ sets l₂ k₂ (patterns C) → length (A ++ (B ++ C)) ≤ length l
    → take (length (A ++ (B ++ C))) l₃ ≡ patterns (A ++ (B ++ C))
put-all-patterns = put_three patterns patterns-append length-patterns

pub put-all-counts : (A B C : List Row) (l l₁ l₂ l₃ : List ℕ) (k₁ k₂ : ℕ) → k₁ ≡ 0 + length A → k₂ ≡ k₁ + length B
    → l₁ ≡ sets l 0 (counts A)
    → l₂ ≡ sets l₁ k₁ (counts B) → l₃ ≡ sets l₂ k₂ (counts C) → length (A ++ (B ++ C)) ≤ length l
    → take (length (A ++ (B ++ C))) l₃ ≡ counts (A ++ (B ++ C))
put-all-counts = put_three counts counts-append length-counts

-- ---- what proper rows are

pub record Proper (i : ℕ) (P C : List ℕ) : Type 0 where
  pub rising : is_rising P ≡ true
  pub below : is_below (3 ^ i) P ≡ true
  pub total : sum C ≤ most_points
  pub few : length P ≤ most_points

pub proper_from : (i : ℕ) (P C : List ℕ) → length C ≡ length P → proper_rows i (rows_with P C) ≡ true → Proper i P C
unfolding proper_counts
proper_from i P C e t =
    let u = sym (proper_is i P C e) ∙ t in
    let v = both_right (is_rising P) (is_below (3 ^ i) P && proper_counts C) u in
    let w = both_right (is_below (3 ^ i) P) (proper_counts C) v in
    let p = both_left (all_positive C) (leb (sum C) most_points) w in
    let q = leb-true (sum C) most_points (both_right (all_positive C) (leb (sum C) most_points) w) in
    record {
      rising = both_left (is_rising P) (is_below (3 ^ i) P && proper_counts C) u;
      below = both_left (is_below (3 ^ i) P) (proper_counts C) v;
      total = q;
      few = omega (arith, length-sum C p);
    }

-- what the code of the three signs needs
pub record Ready (w : ℕ) (P C : List ℕ) (es gs : List ℤ) : Type 0 where
  pub base : w ≤ 2187
  pub below : Below w P
  pub total : sum C ≤ most_points
  pub splits : all_split (rows_with P C) es gs ≡ true
  pub room :
      length (sign_rows w 0 (rows_with P C) es gs) + length (sign_rows w 1 (rows_with P C) es gs)
      + length (sign_rows w 2 (rows_with P C) es gs) ≤ most_points

pub ready : (i w : ℕ) (P C : List ℕ) (es gs : List ℤ) → i < most_polynomials → w ≡ 3 ^ i → length C ≡ length P
    → proper_rows i (rows_with P C) ≡ true
    → all_split (rows_with P C) es gs ≡ true → Ready w P C es gs
ready i w P C es gs h e l t u =
    let R = rows_with P C in
    let p = proper_from i P C l t in
    let A = sign_rows w 0 R es gs in
    let B = sign_rows w 1 R es gs in
    let D = sign_rows w 2 R es gs in
    record {
      base = omega (arith, three_mono i 7 (omega arith));
      below = rw e (below_from (3 ^ i) P p.below);
      total = p.total;
      splits = u;
      room =
          omega (
            arith,
            p.total,
            extended-few i R es gs u,
            ap length (extended_is i w R es gs e),
            ap sum (counts-rows_with P C l),
            length-append A (B ++ D),
            length-append B D,
          );
    }
