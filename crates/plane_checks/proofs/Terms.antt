-- One polynomial of a card of points in the plane, case by case.
--
--   above a b          == one above the place, in the order of terms, of a term with the powers a of X and b of Y: 256 a + b
--   Least c at i least == least is one above the place of the term before term i, or 0 where i is 0
use mathlib.Core.Path.{◌≡◌, refl, sym, ap, ◌∙◌}
use mathlib.Core.Bool.{Bool, true, false, ◌||◌, ◌&&◌}
use mathlib.Core.Logic.{◌≢◌, ◌⊎◌, inl, inr}
use mathlib.Core.List.{List}
use Prim.Native.Nat.{ℕ, zero, suc, ◌+◌, ◌*◌, ◌≤◌, ◌<◌}
use native.Mathlib.Omega.{arith}
use native.Mathlib.Numerals.{add-one}
use borrow.Author.Tests.{lt-ltb, le-ltb, le-leb, lt-leb, eq-eqb, ne_eqb, ltb-false, leb-false, eqb-false}
use lib.Dec.{ltb, leb, eqb}
use lib.IntN.{nat_abs}
use lib.ListN.{length}
use Rattle.integers.proofs.Abs.{abs_zero}
use Rattle.integers.proofs.Parts.{int}
use Rattle.integers.proofs.Tests.{eq_cases}
use Rattle.integers.specs.Search.{any_below, outside}
use Rattle.integers.proofs.Search.{or_left, or_right, or_false, left_false, right_false, some_true, some_false, none_below}
use Rattle.refusals.specs.Numbers.{◌when◌, ◌▸◌}
use Rattle.refusals.proofs.Causes.{first_none, then_none, holds_not}
use Rattle.plane.specs.Format.{term_count, plane_size, x_power, y_power, term_coefficient}
use Rattle.plane.specs.Body.{Before, WholePlane, Terms, PlaneBody}
use Rattle.plane_checks.specs.Checks.{unordered, wrong_term, plane_refusal}

-- ---- one cause: it holds of a number below n, or of none
pub cause-some : (m : ℕ) (f : ℕ → Bool) (n k : ℕ) → k < n → f k ≡ true → m ≡ (m when any_below f n)
cause-some m f n k h e = rw (some_true f n k h e) refl

pub cause_none : (m : ℕ) (f : ℕ → Bool) (n k : ℕ) → k ≡ n → any_below f k ≡ false → 0 ≡ (m when any_below f n)
cause_none m f n k e h = rw (← e, h) refl

-- ---- the order of terms: a test of two terms, and what it says
abbrev above : ℕ → ℕ → ℕ
above a b = 256 * a + b + 1

module _ (a b a' b' : ℕ) where
  abbrev second : Bool
  second = leb b' b

  abbrev late : Bool
  late = ltb a' a || (eqb a' a && second)

  abbrev Powers : Type 0
  Powers = ((a' ≡ a) × (eqb a' a ≡ true)) ⊎ ((a' ≢ a) × (eqb a' a ≡ false))

  -- by the places of the terms
  module _ (h : b < 256) (h' : b' < 256) where
    low-late : 256 * a' + b' < above a b → late ≡ true
    low-late l = go (eq_cases a' a)
      where
        go : Powers → late ≡ true
        go (inl (s, t)) = let f : second ≡ true = omega int in or_right (ltb a' a) _ (rw (t, f) refl)
        go (inr (n, t)) = or_left _ _ (lt-ltb a' a (omega (arith, n)))

    high_not_late : above a b ≤ 256 * a' + b' → late ≡ false
    high_not_late l = or_false _ _ (le-ltb a' a (omega arith)) (go (eq_cases a' a))
      where
        go : Powers → eqb a' a && second ≡ false
        go (inl (s, t)) = let f : second ≡ false = omega int in rw (t, f) refl
        go (inr (n, t)) = rw t refl

  before_of : late ≡ false → Before a b a' b'
  before_of e = go (eq_cases a' a)
    where
      go : Powers → Before a b a' b'
      go (inl (s, t)) = let f : second ≡ false = rw t at (right_false (ltb a' a) _ e) in inr (sym s, omega int)
      go (inr (n, t)) = inl (let l = ltb-false a' a (left_false (ltb a' a) _ e) in omega (arith, n))

  not_late : Before a b a' b' → late ≡ false
  not_late (inl l) = rw (le-ltb a' a (omega arith), ne_eqb a' a (λ e. omega arith)) refl
  not_late (inr (s, l)) = let f : second ≡ false = omega int in rw (le-ltb a' a (omega arith), f, eq-eqb a' a (sym s)) refl

abbrev pub Least : List ℕ → ℕ → ℕ → ℕ → Type 0
Least c at zero least = least ≡ 0
Least c at (suc i) least = (least ≡ above (x_power c at i) (y_power c at i)) × (y_power c at i < 256)

module _ (c : List ℕ) (at : ℕ) where
  -- ---- one term
  pub least_next : (i a b : ℕ) → a ≡ x_power c at i → b ≡ y_power c at i → b < 256 → Least c at (i + 1) (above a b)
  least_next i a b e f h = rw (add-one i) (omega arith, omega arith)

  abbrev high : ℕ → Bool
  high i = ltb 6 (x_power c at i + y_power c at i)

  pub too_high : (i : ℕ) → 6 < x_power c at i + y_power c at i → wrong_term c at i ≡ true
  too_high i h = or_left _ _ (lt-ltb 6 _ h)

  pub not_rising : (i : ℕ) → unordered c at i ≡ true → wrong_term c at i ≡ true
  not_rising i e = or_right (high i) _ (or_left _ _ e)

  pub zero_term : (i : ℕ) → nat_abs (term_coefficient c at i) ≡ 0 → wrong_term c at i ≡ true
  zero_term i e = or_right (high i) _ (or_right (unordered c at i) _ (eq-eqb _ 0 e))

  -- the place of a term, and that of the one before it
  pub falls : (i least : ℕ) → Least c at i least → y_power c at i < 256 → 256 * x_power c at i + y_power c at i < least
      → wrong_term c at i ≡ true
  falls zero least l h p = absurd (omega arith)
  falls (suc i) least l h p =
      not_rising (suc i)
      (low-late (x_power c at i) (y_power c at i) (x_power c at (suc i)) (y_power c at (suc i)) l.1 h (omega (arith, l.0)))

  pub rises : (i least : ℕ) → Least c at i least → y_power c at i < 256 → least ≤ 256 * x_power c at i + y_power c at i
      → unordered c at i ≡ false
  rises zero least l h p = refl
  rises (suc i) least l h p =
      high_not_late (x_power c at i) (y_power c at i) (x_power c at (suc i)) (y_power c at (suc i)) l.1 h (omega (arith, l.0))

  pub right : (i : ℕ) → x_power c at i + y_power c at i ≤ 6 → unordered c at i ≡ false → (nat_abs (term_coefficient c at i) ≡ 0 → ⊥)
      → wrong_term c at i ≡ false
  right i l o z = or_false _ _ (le-ltb 6 _ l) (or_false _ _ o (ne_eqb _ 0 z))

  -- ---- all terms
  abbrev AnyWrong : Bool → Type 0
  AnyWrong t = any_below (wrong_term c at) (term_count c at) ≡ t

  abbrev AnyLarge : Bool → Type 0
  AnyLarge t = any_below (λ i. outside 1000000 (term_coefficient c at i)) (term_count c at) ≡ t

  pub terms_of : WholePlane c at → AnyWrong false → Terms c at
  terms_of w e =
      record {
        whole = w;
        low = λ i h. let l : high i ≡ false = left_false (high i) _ (one i h) in omega int;
        some = λ i h z. eqb-false (nat_abs (term_coefficient c at i)) 0 (right_false (unordered c at i) _ (rest i h)) (ap nat_abs z);
        rising = λ i h. before_of (x_power c at i) (y_power c at i) (x_power c at (suc i)) (y_power c at (suc i))
            (left_false (unordered c at (suc i)) _ (rest (suc i) h));
      }
    where
      one : (i : ℕ) → i < term_count c at → wrong_term c at i ≡ false
      one i h = some_false (wrong_term c at) (term_count c at) e i h

      rest : (i : ℕ) → i < term_count c at → unordered c at i || eqb (nat_abs (term_coefficient c at i)) 0 ≡ false
      rest i h = right_false (high i) _ (one i h)

  pub none_wrong : Terms c at → AnyWrong false
  none_wrong t = none_below (wrong_term c at) (term_count c at) (λ i h. right i (low i h) (order i h) (λ z. t.some i h (abs_zero _ z)))
    where
      low : (i : ℕ) → i < term_count c at → x_power c at i + y_power c at i ≤ 6
      low i h = let l = t.low i h in omega arith

      order : (i : ℕ) → i < term_count c at → unordered c at i ≡ false
      order zero h = refl
      order (suc i) h = not_late (x_power c at i) (y_power c at i) (x_power c at (suc i)) (y_power c at (suc i)) (t.rising i h)

  pub body_of : Terms c at → AnyLarge false → PlaneBody c at
  body_of t e =
      record {
        terms = t;
        small = λ i h. ltb-false 1000000 _ (some_false (λ k. outside 1000000 (term_coefficient c at k)) (term_count c at) e i h);
      }

  pub none_large : PlaneBody c at → AnyLarge false
  none_large b =
      none_below (λ k. outside 1000000 (term_coefficient c at k)) (term_count c at) (λ i h. le-ltb 1000000 _ (b.small i h))

  -- ---- the number that refuses
  pub no_count : length c ≤ at → plane_refusal c at ≡ 1
  unfolding plane_refusal
  no_count h = simp (le-leb (length c) at h)

  module _ (begins : at < length c) where
    pub many-terms : 9 < term_count c at → plane_refusal c at ≡ 18
    unfolding plane_refusal
    many-terms h = simp (lt-leb (length c) at begins, lt-ltb 9 (term_count c at) h)

    pub cut_body : term_count c at ≤ 9 → length c < at + plane_size c at → plane_refusal c at ≡ 1
    unfolding plane_refusal
    cut_body l h =
        simp (lt-leb (length c) at begins, le-ltb 9 (term_count c at) l, lt-ltb (length c) (at + plane_size c at) h)

  pub whole-body : WholePlane c at
      → plane_refusal c at
      ≡ (18 when any_below (wrong_term c at) (term_count c at)
      ▸ 5 when any_below (λ i. outside 1000000 (term_coefficient c at i)) (term_count c at))
  unfolding plane_refusal
  whole-body w =
      simp (
        lt-leb (length c) at w.begins,
        le-ltb 9 (term_count c at) w.few,
        le-ltb (length c) (at + plane_size c at) w.ends,
      )

  pub wrong-terms : WholePlane c at → AnyWrong true → plane_refusal c at ≡ 18
  wrong-terms w e = whole-body w ∙ rw e refl

  pub wrong-limits : WholePlane c at → AnyWrong false → AnyLarge true → plane_refusal c at ≡ 5
  wrong-limits w e f = whole-body w ∙ rw (e, f) refl

  pub sound-body : WholePlane c at → AnyWrong false → AnyLarge false → plane_refusal c at ≡ 0
  sound-body w e f = whole-body w ∙ rw (e, f) refl

  -- ---- a body that no number refuses lies on the card
  pub plane-whole : plane_refusal c at ≡ 0 → WholePlane c at
  unfolding plane_refusal
  plane-whole e =
      let e1 = then_none (1 when leb (length c) at) _ e in
      let e2 = then_none (18 when ltb 9 (term_count c at)) _ e1 in
      record {
        begins = leb-false (length c) at (holds_not 0 (leb (length c) at) (first_none _ _ e));
        few = ltb-false 9 (term_count c at) (holds_not 17 (ltb 9 (term_count c at)) (first_none _ _ e1));
        ends = ltb-false (length c) (at + plane_size c at) (holds_not 0 (ltb (length c) (at + plane_size c at)) (first_none _ _ e2));
      }
