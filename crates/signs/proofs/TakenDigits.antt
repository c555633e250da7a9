-- THEOREM of the code: the digits that `digit` gives, called from the top on what is left, are those of division and remainder, and
-- weighed by what `power` gives they add up to the number; `digit_sets` gives the same digits; what `bound` gives is made of these powers.
-- Each call is known by its contract alone (`Learnt`), so that a weaker promise of any of them breaks a theorem.
use mathlib.Core.Path.{◌≡◌, refl, sym, ap, ap₂, ◌∙◌}
use Prim.Native.Nat.{ℕ, zero, suc, ◌+◌, ◌*◌, ◌-◌, ◌/◌, ◌%◌, ◌^◌, ◌≤◌, ◌<◌}
use native.Mathlib.Omega.{arith}
use native.Mathlib.Nat.{pow-succ', one-le-pow, mod-eq_of_lt, mod-lt}
use lib.Arith.{digits_div, digits_mod, mod-mul}
use Rattle.refusals.specs.Limits.{most_polynomials}
use Rattle.signs.specs.Lists.{total}
use Rattle.signs.specs.Order.{power_at}
use Rattle.signs.specs.Bits.{bit_of, digit_set}
use Rattle.signs.specs.Digits.{Taken, RightDigits, RightSets}
use Rattle.signs.specs.declared.DigitSets.{DigitSets}
use Rattle.signs.proofs.Size.{total_ext}
use Rattle.signs.proofs.NumericOrder.{numeric_order}
use Rattle.signs.proofs.power.Reads as power
use Rattle.signs.proofs.digit.Reads as digit
use Rattle.signs.proofs.digit_sets.Reads as digit-sets
use Rattle.signs.proofs.bound.Reads as bound

-- what a call of each may answer
abbrev pub Weighs : ℕ → ℕ → Type 0
Weighs j w = power.Learnt tt (j, tt) w (j, tt)

abbrev pub Shows : ℕ → ℕ → ℕ → Type 0
Shows n w d = digit.Learnt tt (n, (w, tt)) d (n, (w, tt))

abbrev pub Sets : ℕ → ℕ → DigitSets → Type 0
Sets n s o = digit-sets.Learnt tt (n, (s, tt)) o (n, (s, tt))

abbrev pub Bounds : ℕ → ℕ → Type 0
Bounds s b = bound.Learnt tt (s, tt) b (s, tt)

positive : (j : ℕ) → 0 < 3 ^ j
positive j = one-le-pow j 3 (omega arith)

-- ---- a low part by its top digit

by_top : (n j : ℕ) → n % 3 ^ suc j ≡ n / 3 ^ j % 3 * 3 ^ j + n % 3 ^ j
by_top n j = ap (λ (x : ℕ). n % x) (pow-succ' 3 j) ∙ mod-mul n {m = 3} {c = 3 ^ j} (omega arith) (positive j)

top_digit : (n j : ℕ) → n % 3 ^ suc j / 3 ^ j ≡ n / 3 ^ j % 3
top_digit n j = rw (by_top n j) (digits_div (n / 3 ^ j % 3) (mod-lt n (positive j)))

lower : (n j : ℕ) → n % 3 ^ suc j % 3 ^ j ≡ n % 3 ^ j
lower n j = rw (by_top n j) (digits_mod (n / 3 ^ j % 3) (mod-lt n (positive j)))

-- ---- one digit after the other

module _ (s n : ℕ) (below : n < 3 ^ s) (t : Taken Weighs Shows s n) where
  digit_is : (j : ℕ) → j < s → t.left (suc j) ≡ n % 3 ^ suc j → t.digit j ≡ n / 3 ^ j % 3
  digit_is j h e = t.answered j h ∙ rw (e, t.weighed j h) (top_digit n j)

  left_is : (k j : ℕ) → j + k ≡ s → t.left j ≡ n % 3 ^ j
  left_is zero j e = let f : j ≡ s = omega arith in rw f (t.whole ∙ sym (mod-eq_of_lt below))
  left_is (suc k) j e =
      let h : j < s = omega arith in
      let above = left_is k (suc j) (omega arith) in
      t.taken_off j h ∙ rw (above, digit_is j h above, t.weighed j h) (omega (arith, by_top n j))

  above_is : (j : ℕ) → j < s → t.left (suc j) ≡ n % 3 ^ suc j
  above_is j h = left_is (s - suc j) (suc j) (omega arith)

  pub digits_right : RightDigits s n t.weight t.digit
  unfolding power_at
  digits_right = record {
    by_division = by_division;
    add_up = total_ext _ _ s (λ j h. ap₂ ◌*◌ (by_division j h) (t.weighed j h)) ∙ (numeric_order s).sum_of_digits n below;
  }
    where
      by_division : (j : ℕ) → j < s → t.digit j ≡ n / 3 ^ j % 3
      by_division j h = digit_is j h (above_is j h)

  -- each call is one that may be made
  pub digits_asked : s ≤ most_polynomials → (j : ℕ) → j < s → power.Asked tt (j, tt) × digit.Asked tt (t.left (suc j), (t.weight j, tt))
  digits_asked most j h =
      (omega arith, rw (t.weighed j h, above_is j h) (omega (arith, mod-lt n (positive (suc j)), pow-succ' 3 j)))

-- and there are calls that answer so
pub digits_taken : (s n : ℕ) → n < 3 ^ s → Taken Weighs Shows s n
digits_taken s n below = record {
  weight = λ j. 3 ^ j;
  digit = λ j. n / 3 ^ j % 3;
  left = λ j. n % 3 ^ j;
  whole = mod-eq_of_lt below;
  weighed = λ j h. refl;
  answered = λ j h. sym (top_digit n j);
  taken_off = λ j h. omega (arith, by_top n j);
}

-- ---- as sets of polynomials

set_is : (d n s : ℕ) → digit_set d s (n % 3 ^ s) ≡ total (λ j. bit_of (n / 3 ^ j % 3) d * 2 ^ j) s
unfolding digit_set total
set_is d n zero = refl
set_is d n (suc s) = rw (top_digit n s, lower n s, set_is d n s) (omega arith)

pub sets_right : (s n : ℕ) → n < 3 ^ s → (o : DigitSets) → Sets n s o → RightSets s n o.ones o.twos
sets_right s n below o e = record { ones_are = e.0 ∙ whole 1; twos_are = e.1 ∙ whole 2 }
  where
    whole : (d : ℕ) → digit_set d s n ≡ total (λ j. bit_of (n / 3 ^ j % 3) d * 2 ^ j) s
    whole d = ap (digit_set d s) (sym (mod-eq_of_lt below)) ∙ set_is d n s

-- ---- the bound

-- the numbers of s + 1 polynomials are those below three times the last one's weight; with no polynomial there is one number, 0
pub bound_right : (s w b : ℕ) → Weighs s w → Bounds (suc s) b → b ≡ 3 * w
bound_right s w b e f = f ∙ pow-succ' 3 s ∙ ap (λ (x : ℕ). 3 * x) (sym e)

pub bound_of_none : (b : ℕ) → Bounds 0 b → b ≡ 1
bound_of_none b f = f

-- ---- document 02's words: every number up to 6,560, every position from 0 to 7

pub eight_digits : (n : ℕ) → n ≤ 6560 → (t : Taken Weighs Shows 8 n) → RightDigits 8 n t.weight t.digit
eight_digits n h = digits_right 8 n (omega arith)

pub eight_sets : (n : ℕ) → n ≤ 6560 → (o : DigitSets) → Sets n 8 o → RightSets 8 n o.ones o.twos
eight_sets n h = sets_right 8 n (omega arith)
