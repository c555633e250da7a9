-- Theorem: numeric order is 000's lexicographic order. Numbers are taken apart from the bottom: digit j + 1 of n is digit j of n / 3.
use mathlib.Core.Path.{◌≡◌, refl, sym, ap, ◌∙◌}
use Prim.Native.Nat.{ℕ, zero, suc, ◌*◌, ◌^◌, ◌/◌, ◌%◌, ◌<◌}
use native.Mathlib.Omega.{arith}
use native.Mathlib.Decide.{dec_lt}
use native.Mathlib.Nat.{pow-succ', one-le-pow, div-one, div-div-eq-div-mul, mod-eq_of_lt}
use lib.Arith.{mod-mul}
use lib.IntN.{ℤ}
use Rattle.signs.specs.Lists.{total}
use Rattle.signs.specs.Signs.{sign_of, sign_digit}
use Rattle.signs.specs.Order.{power_at, sign_at, ◌≺◌, zero_plus, zero_minus, plus_minus, Lexicographic, NumericOrder}

digit-0 : (n : ℕ) → power_at 0 n ≡ n % 3
unfolding power_at
digit-0 n = ap (λ (x : ℕ). x % 3) (div-one n)

digit-suc : (j n : ℕ) → power_at (suc j) n ≡ power_at j (n / 3)
unfolding power_at
digit-suc j n = ap (λ (x : ℕ). x % 3) (ap (λ (x : ℕ). n / x) (pow-succ' 3 j) ∙ sym (div-div-eq-div-mul n 3 (3 ^ j)))

less : (s n : ℕ) → n < 3 ^ suc s → n / 3 < 3 ^ s
less s n h = omega (arith, pow-succ' 3 s)

-- a number is the sum of its digits, each times its power of 3
sum-mod : (s n : ℕ) → total (λ j. power_at j n * 3 ^ j) s ≡ n % 3 ^ s
unfolding total power_at
sum-mod zero n = omega arith
sum-mod (suc s) n =
    omega (
      arith,
      sum-mod s n,
      mod-mul n {m = 3} {c = 3 ^ s} (omega arith) (one-le-pow s 3 (omega arith)),
      ap (λ (x : ℕ). n % x) (pow-succ' 3 s),
    )

abbrev Earlier : ℕ → ℕ → ℕ → Type 0
Earlier s p q = Lexicographic s ◌<◌ (λ j. power_at j p) (λ j. power_at j q)

-- numbers with the same digits are the same
same_digits : (s p q : ℕ) → p < 3 ^ s → q < 3 ^ s → ((j : ℕ) → j < s → power_at j p ≡ power_at j q) → p ≡ q
same_digits zero p q a b e = omega arith
same_digits (suc s) p q a b e =
    omega (
      arith,
      e 0 (omega arith),
      digit-0 p,
      digit-0 q,
      same_digits s (p / 3) (q / 3) (less s p a) (less s q b)
          (λ j h. sym (digit-suc j p) ∙ e (suc j) (omega arith) ∙ digit-suc j q),
    )

earlier : (s p q : ℕ) → p < 3 ^ s → q < 3 ^ s → p < q → Earlier s p q
earlier zero p q a b h = absurd (omega arith)
earlier (suc s) p q a b h = go (dec_lt (p / 3) (q / 3)) (earlier s (p / 3) (q / 3) (less s p a) (less s q b))
  where
    go : Dec (p / 3 < q / 3) → (p / 3 < q / 3 → Earlier s (p / 3) (q / 3)) → Earlier (suc s) p q
    go (yes k) ih =
        let l = ih k in
        record {
          place = suc l.place;
          inside = omega (arith, l.inside);
          before = omega (arith, l.before, digit-suc l.place p, digit-suc l.place q);
          same_later = λ j m i. later l j m i;
        }
      where
        later : (l : Earlier s (p / 3) (q / 3)) (j : ℕ) → suc l.place < j → j < suc s → power_at j p ≡ power_at j q
        later l zero m i = absurd (omega arith)
        later l (suc j) m i = digit-suc j p ∙ l.same_later j (omega arith) (omega arith) ∙ sym (digit-suc j q)
    go (no k) ih =
        record {
          place = 0;
          inside = omega arith;
          before = omega (arith, digit-0 p, digit-0 q);
          same_later = λ j m i. later j m;
        }
      where
        later : (j : ℕ) → 0 < j → power_at j p ≡ power_at j q
        later zero m = absurd (omega arith)
        later (suc j) m =
            let e : p / 3 ≡ q / 3 = omega arith in
            digit-suc j p ∙ ap (power_at j) e ∙ sym (digit-suc j q)

smaller : (s p q : ℕ) → p < 3 ^ s → q < 3 ^ s → Earlier s p q → p < q
smaller zero p q a b l = absurd (omega (arith, l.inside))
smaller (suc s) p q a b l = go (smaller s (p / 3) (q / 3) (less s p a) (less s q b)) l.place l.inside l.before l.same_later
  where
    go : (Earlier s (p / 3) (q / 3) → p / 3 < q / 3) → (i : ℕ) → i < suc s → power_at i p < power_at i q
        → ((j : ℕ) → i < j → j < suc s → power_at j p ≡ power_at j q) → p < q
    go ih zero i h e =
        omega (
          arith,
          digit-0 p,
          digit-0 q,
          same_digits s (p / 3) (q / 3) (less s p a) (less s q b)
              (λ j k. sym (digit-suc j p) ∙ e (suc j) (omega arith) (omega arith) ∙ digit-suc j q),
        )
    go ih (suc n) i h e =
        let k : p / 3 < q / 3 =
        ih
        (record {
          place = n;
          inside = omega arith;
          before = omega (arith, digit-suc n p, digit-suc n q);
          same_later = λ j m o. sym (digit-suc j p) ∙ e (suc j) (omega arith) (omega arith) ∙ digit-suc j q;
        }) in
        omega arith

-- ---- signs as digits: those in 000's order of signs are those in the order of the digits

digit_back : (d : ℕ) → d < 3 → sign_digit (sign_of d) ≡ d
unfolding sign_of sign_digit
digit_back zero h = refl
digit_back (suc zero) h = refl
digit_back (suc (suc zero)) h = refl
digit_back (suc (suc (suc d))) h = absurd (omega arith)

sign-before : (d e : ℕ) → e < 3 → d < e → sign_of d ≺ sign_of e
unfolding sign_of
sign-before zero zero b h = absurd (omega arith)
sign-before zero (suc zero) b h = zero_plus
sign-before zero (suc (suc e)) b h = zero_minus
sign-before (suc zero) zero b h = absurd (omega arith)
sign-before (suc zero) (suc zero) b h = absurd (omega arith)
sign-before (suc zero) (suc (suc e)) b h = plus_minus
sign-before (suc (suc d)) e b h = absurd (omega arith)

digit-before : (x y : ℤ) → x ≺ y → sign_digit x < sign_digit y
unfolding sign_digit
digit-before x y zero_plus = omega arith
digit-before x y zero_minus = omega arith
digit-before x y plus_minus = omega arith

digit_lt : (j n : ℕ) → power_at j n < 3
unfolding power_at
digit_lt j n = omega arith

digit_of : (j n : ℕ) → sign_digit (sign_at j n) ≡ power_at j n
unfolding sign_at power_at
digit_of j n = digit_back (n / 3 ^ j % 3) (omega arith)

-- by signs and by digits the order is the same
by_signs : (s σ τ : ℕ) → Earlier s σ τ → Lexicographic s ◌≺◌ (λ j. sign_at j σ) (λ j. sign_at j τ)
unfolding sign_at power_at
by_signs s σ τ l =
    record {
      place = l.place;
      inside = l.inside;
      before = sign-before (power_at l.place σ) (power_at l.place τ) (digit_lt l.place τ) l.before;
      same_later = λ j h i. ap sign_of (l.same_later j h i);
    }

by_digits : (s σ τ : ℕ) → Lexicographic s ◌≺◌ (λ j. sign_at j σ) (λ j. sign_at j τ) → Earlier s σ τ
by_digits s σ τ l =
    record {
      place = l.place;
      inside = l.inside;
      before = omega (
        arith,
        digit-before (sign_at l.place σ) (sign_at l.place τ) l.before,
        digit_of l.place σ,
        digit_of l.place τ,
      );
      same_later = λ j h i. sym (digit_of j σ) ∙ ap sign_digit (l.same_later j h i) ∙ digit_of j τ;
    }

-- the theorem
pub numeric_order : (s : ℕ) → NumericOrder s
numeric_order s =
    record {
      sum_of_digits = λ n h. sum-mod s n ∙ mod-eq_of_lt h;
      of_products = λ α β a b. (earlier s α β a b, smaller s α β a b);
      of_patterns = λ σ τ a b. ((λ h. by_signs s σ τ (earlier s σ τ a b h)), (λ l. smaller s σ τ a b (by_digits s σ τ l)));
    }
