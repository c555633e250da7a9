-- Decimal text: what `io::decimal` writes is `decimal n`; and what such text is, in other words: its value is n, every byte is a digit, and
-- it has no leading zero.
use mathlib.Core.Path.{◌≡◌, refl, ap, ◌∙◌}
use mathlib.Core.Bool.{true, cond}
use mathlib.Core.List.{List, [], ◌∷◌, ◌++◌}
use Prim.Native.Nat.{ℕ, zero, suc, ◌+◌, ◌*◌, ◌-◌, ◌/◌, ◌%◌, ◌^◌, ◌<◌, ◌≤◌}
use native.Mathlib.Omega.{arith}
use native.Mathlib.Decide.{dec_lt}
use native.Mathlib.Nat.{pow-suc, one-le-pow, mod-eq_of_lt, mod-lt, div-add-mod'}
use mir.Syntax.{w16}
use mir.Val.{Fits}
use borrow.Author.Tests.{lt-ltb, le-ltb}
use lib.Dec.{ltb}
use lib.ListN.{length, length-append, get_or, get_or-append}
use Rattle.io.specs.Digits.{last_digits, hex_digit_ascii, IsDigitCount}
use Rattle.lines.specs.Text.{digit, decimal_to, decimal}

-- ---- one digit less

ten_pos : (k : ℕ) → 1 ≤ 10 ^ k
ten_pos k = one-le-pow k 10 (omega arith)

pub last_digit : (n : ℕ) → n % 10 < 10
last_digit n = mod-lt n (omega arith)

split : (n : ℕ) → n / 10 * 10 + n % 10 ≡ n
split n = div-add-mod' n 10

pub tens_less : (n m : ℕ) → n < 10 * m → n / 10 < m
tens_less n m h = omega (arith, split n)

-- ---- what `io::decimal` writes

glyph_digit : (d : ℕ) → d < 10 → hex_digit_ascii d ≡ digit d
glyph_digit d h = rw (lt-ltb d 10 h) refl

digits_to : (f k n : ℕ) → n < 10 ^ suc k → (0 < k → 10 ^ k ≤ n) → n < f → last_digits 10 (suc k) n ≡ decimal_to f n
unfolding decimal_to
digits_to zero k n h l m = absurd (omega arith)
digits_to (suc f) zero n h l m =
    let e : n % 10 ≡ n = mod-eq_of_lt (omega arith) in
    let t : ltb n 10 ≡ true = lt-ltb n 10 (omega arith) in
    rw (e, t) refl
digits_to (suc f) (suc k) n h l m =
    let b : 10 ^ suc k ≤ n = l (omega arith) in
    rw (
      le-ltb n 10 (omega (arith, pow-suc 10 k, ten_pos k)),
      digits_to f k (n / 10) (omega (arith, split n, last_digit n, pow-suc 10 (suc k)))
          (λ x. omega (arith, split n, last_digit n, pow-suc 10 k))
          (omega (arith, split n, last_digit n, pow-suc 10 k, ten_pos k)),
      glyph_digit (n % 10) (last_digit n),
    )
    refl

pub digits_decimal : (n k : ℕ) → IsDigitCount 10 1 n k → last_digits 10 k n ≡ decimal n
unfolding decimal
digits_decimal n zero (a, b, c) = absurd (omega arith)
digits_decimal n (suc k) (a, b, c) =
    let e : suc k - 1 ≡ k = omega arith in
    digits_to (suc n) k n b (λ h. rw e at (c (omega arith))) (omega arith)

-- ---- digit by digit

-- any f that is large enough
to_same : (f g n : ℕ) → n < f → n < g → decimal_to f n ≡ decimal_to g n
unfolding decimal_to
to_same zero g n h k = absurd (omega arith)
to_same (suc f) zero n h k = absurd (omega arith)
to_same (suc f) (suc g) n h k = go (dec_lt n 10) (to_same f g (n / 10))
  where
    go : Dec (n < 10) → (n / 10 < f → n / 10 < g → decimal_to f (n / 10) ≡ decimal_to g (n / 10))
        → cond (ltb n 10) (digit n ∷ []) (decimal_to f (n / 10) ++ (digit (n % 10) ∷ []))
        ≡ cond (ltb n 10) (digit n ∷ []) (decimal_to g (n / 10) ++ (digit (n % 10) ∷ []))
    go (yes t) r = rw (lt-ltb n 10 t) refl
    go (no t) r = rw (r (omega (arith, split n)) (omega (arith, split n))) refl

pub decimal-one : (n : ℕ) → n < 10 → decimal n ≡ digit n ∷ []
unfolding decimal decimal_to
decimal-one n h = rw (lt-ltb n 10 h) refl

pub decimal_more : (n : ℕ) → 10 ≤ n → decimal n ≡ decimal (n / 10) ++ (digit (n % 10) ∷ [])
unfolding decimal
decimal_more n h =
    step ∙ ap (λ (l : List ℕ). l ++ (digit (n % 10) ∷ [])) (to_same n (suc (n / 10)) (n / 10) (omega (arith, split n)) (omega arith))
  where
    step : decimal_to (suc n) n ≡ decimal_to n (n / 10) ++ (digit (n % 10) ∷ [])
    step = unfold decimal_to in rw (le-ltb n 10 h) refl

pub decimal_two : (n : ℕ) → 10 ≤ n → n < 100 → decimal n ≡ digit (n / 10) ∷ digit (n % 10) ∷ []
decimal_two n h k = decimal_more n h ∙ ap (λ (l : List ℕ). l ++ (digit (n % 10) ∷ [])) (decimal-one (n / 10) (tens_less n 10 k))

pub decimal-ends : (n : ℕ) → 100 ≤ n → decimal n ≡ (decimal (n / 10 / 10) ++ (digit (n / 10 % 10) ∷ [])) ++ (digit (n % 10) ∷ [])
decimal-ends n h =
    decimal_more n (omega arith)
    ∙ ap (λ (l : List ℕ). l ++ (digit (n % 10) ∷ [])) (decimal_more (n / 10) (omega (arith, split n, last_digit n)))

-- ---- its length

length_to : (f k n : ℕ) → n < 10 ^ suc k → length (decimal_to f n) ≤ suc k
unfolding decimal_to
length_to zero k n h = omega arith
length_to (suc f) zero n h = rw (lt-ltb n 10 (omega arith)) (omega arith)
length_to (suc f) (suc k) n h = go (dec_lt n 10) (length_to f k (n / 10) (omega (arith, split n, last_digit n, pow-suc 10 (suc k))))
  where
    go : Dec (n < 10) → length (decimal_to f (n / 10)) ≤ suc k
        → length (cond (ltb n 10) (digit n ∷ []) (decimal_to f (n / 10) ++ (digit (n % 10) ∷ []))) ≤ suc (suc k)
    go (yes t) r = rw (lt-ltb n 10 t) (omega arith)
    go (no t) r = rw (le-ltb n 10 (omega arith)) (omega (arith, length-append (decimal_to f (n / 10)) (digit (n % 10) ∷ [])))

pub decimal-length : (k n : ℕ) → n < 10 ^ suc k → length (decimal n) ≤ suc k
unfolding decimal
decimal-length k n h = length_to (suc n) k n h

-- of a 16-bit number that was made a longer one
pub decimal-length-16 : {m n : ℕ} → m ≡ n → Fits w16 n → length (decimal m) ≤ 5
decimal-length-16 {m} e h = decimal-length 4 m (omega (arith, e, h))

-- ---- its value, digit by digit from the front

unfoldable pub value_from : ℕ → List ℕ → ℕ
value_from a [] = a
value_from a (b ∷ t) = value_from (a * 10 + (b - 48)) t

value_snoc : (a : ℕ) (t : List ℕ) (b : ℕ) → value_from a (t ++ (b ∷ [])) ≡ value_from a t * 10 + (b - 48)
unfolding value_from
value_snoc a [] b = refl
value_snoc a (x ∷ t) b = value_snoc (a * 10 + (x - 48)) t b

value_to : (f n : ℕ) → n < f → value_from 0 (decimal_to f n) ≡ n
unfolding decimal_to
value_to zero n h = absurd (omega arith)
value_to (suc f) n h = go (dec_lt n 10) (value_to f (n / 10))
  where
    go : Dec (n < 10) → (n / 10 < f → value_from 0 (decimal_to f (n / 10)) ≡ n / 10)
        → value_from 0 (cond (ltb n 10) (digit n ∷ []) (decimal_to f (n / 10) ++ (digit (n % 10) ∷ []))) ≡ n
    go (yes t) r = rw (lt-ltb n 10 t) (unfold value_from in omega arith)
    go (no t) r =
        rw (le-ltb n 10 (omega arith), value_snoc 0 (decimal_to f (n / 10)) (digit (n % 10)), r (omega (arith, split n, last_digit n)))
        (omega (arith, split n))

pub decimal-value : (n : ℕ) → value_from 0 (decimal n) ≡ n
unfolding decimal
decimal-value n = value_to (suc n) n (omega arith)

-- ---- its bytes

unfoldable pub AllDigits : List ℕ → Type 0
AllDigits [] = Unit {0}
AllDigits (b ∷ t) = (48 ≤ b) × (b ≤ 57) × AllDigits t

digits_snoc : (t : List ℕ) (d : ℕ) → d < 10 → AllDigits t → AllDigits (t ++ (digit d ∷ []))
unfolding AllDigits
digits_snoc [] d h a = (omega arith, omega arith, tt)
digits_snoc (x ∷ t) d h (a, b, c) = (a, b, digits_snoc t d h c)

all_to : (f n : ℕ) → AllDigits (decimal_to f n)
unfolding decimal_to
all_to zero n = unfold AllDigits in tt
all_to (suc f) n = go (dec_lt n 10) (all_to f (n / 10))
  where
    go : Dec (n < 10) → AllDigits (decimal_to f (n / 10))
        → AllDigits (cond (ltb n 10) (digit n ∷ []) (decimal_to f (n / 10) ++ (digit (n % 10) ∷ [])))
    go (yes t) r = rw (lt-ltb n 10 t) (unfold AllDigits in (omega arith, omega arith, tt))
    go (no t) r = rw (le-ltb n 10 (omega arith)) (digits_snoc (decimal_to f (n / 10)) (n % 10) (last_digit n) r)

pub decimal_digits : (n : ℕ) → AllDigits (decimal n)
unfolding decimal
decimal_digits n = all_to (suc n) n

-- the first byte of a number above 0 is no `0`
abbrev First : List ℕ → Type 0
First t = (0 < length t) × (48 < get_or t 0 0)

first_to : (f n : ℕ) → n < f → 0 < n → First (decimal_to f n)
unfolding decimal_to
first_to zero n h p = absurd (omega arith)
first_to (suc f) n h p = go (dec_lt n 10) (first_to f (n / 10))
  where
    go : Dec (n < 10) → (n / 10 < f → 0 < n / 10 → First (decimal_to f (n / 10)))
        → First (cond (ltb n 10) (digit n ∷ []) (decimal_to f (n / 10) ++ (digit (n % 10) ∷ [])))
    go (yes t) r = rw (lt-ltb n 10 t) (omega arith, omega arith)
    go (no t) r =
        let (l, b) = r (omega (arith, split n, last_digit n)) (omega (arith, split n, last_digit n)) in
        rw (le-ltb n 10 (omega arith)) (
          omega (arith, length-append (decimal_to f (n / 10)) (digit (n % 10) ∷ [])),
          rw (get_or-append (decimal_to f (n / 10)) (digit (n % 10) ∷ []) 0 0 l) b,
        )

pub decimal-first : (n : ℕ) → 0 < n → 48 < get_or (decimal n) 0 0
unfolding decimal
decimal-first n p = (first_to (suc n) n (omega arith) p).1

pub decimal-zero : decimal 0 ≡ 48 ∷ []
unfolding decimal decimal_to
decimal-zero = refl
