-- Words as rows of bits: the bits of what &, | and ^ give, of the first n bits set, and of the word of a list of bits, made from the top;
-- and how many bits are set.
use mathlib.Core.Path.{◌≡◌, refl, sym, ap, ap₂, subst, ◌∙◌}
use mathlib.Core.List.{List, [], ◌∷◌}
use Prim.Native.Nat.{ℕ, zero, suc, ◌+◌, ◌*◌, ◌-◌, ◌/◌, ◌%◌, ◌^◌, ◌<◌, ◌≤◌, min, max}
use native.Mathlib.Omega.{arith}
use native.Mathlib.Nat.{pow-suc, pow-succ', zero-div, mod-lt, div-lt_iff_lt-mul, div-div-eq-div-mul}
use lib.Arith.{digits_mod, lt-one}
use lib.Bits.{bit_and, bit_or, bit_xor, differ, and_step, or_step, xor_step, and_shr, or_shr, xor_shr}
use lib.Count.{ones, ones_step}
use lib.ListN.{length, get_or, drop, length-drop, drop_of_length-le}
use lib.Pow.{pow_pos, pow_mono, ones_split, high, ones_lt}
use lib.Seq.{drop-cons}
use Rattle.signs.specs.Lists.{total, Below}
use Rattle.query.specs.Opened.{bit_at, word_of}

-- ---- one bit

pub bit_small : (w k : ℕ) → bit_at w k < 2
unfolding bit_at
bit_small w k = mod-lt (w / 2 ^ k) (omega arith)

pub bit_and_lem : (a b k : ℕ) → bit_at (bit_and a b) k ≡ min (bit_at a k) (bit_at b k)
unfolding bit_at
bit_and_lem a b k =
    let x = a / 2 ^ k in
    let y = b / 2 ^ k in
    ap (λ (z : ℕ). z % 2) (and_shr a b k ∙ and_step x y)
    ∙ digits_mod (bit_and (x / 2) (y / 2)) {m = 2} {r = min (x % 2) (y % 2)} (omega arith)

pub bit_or_lem : (a b k : ℕ) → bit_at (bit_or a b) k ≡ max (bit_at a k) (bit_at b k)
unfolding bit_at
bit_or_lem a b k =
    let x = a / 2 ^ k in
    let y = b / 2 ^ k in
    ap (λ (z : ℕ). z % 2) (or_shr a b k ∙ or_step x y) ∙ digits_mod (bit_or (x / 2) (y / 2)) {m = 2} {r = max (x % 2) (y % 2)} (omega arith)

differ_small : (x y : ℕ) → x < 2 → y < 2 → differ x y < 2
differ_small zero y h g = g
differ_small (suc x) zero h g = h
differ_small (suc x) (suc y) h g = let ex : x ≡ 0 = omega arith in let ey : y ≡ 0 = omega arith in rw (ex, ey) (omega arith)

pub bit_xor_lem : (a b k : ℕ) → bit_at (bit_xor a b) k ≡ differ (bit_at a k) (bit_at b k)
unfolding bit_at
bit_xor_lem a b k =
    let x = a / 2 ^ k in
    let y = b / 2 ^ k in
    ap (λ (z : ℕ). z % 2) (xor_shr a b k ∙ xor_step x y)
    ∙ digits_mod (bit_xor (x / 2) (y / 2)) {m = 2} {r = differ (x % 2) (y % 2)} (differ_small (x % 2) (y % 2) (omega arith) (omega arith))

pub bit_none : (k : ℕ) → bit_at 0 k ≡ 0
unfolding bit_at
bit_none k = rw (zero-div (2 ^ k)) refl

-- the first n bits
pub bit_first : (n k : ℕ) → k < n → bit_at (2 ^ n - 1) k ≡ 1
unfolding bit_at
bit_first n k h =
    let m = n - suc k in
    let e : n ≡ suc m + k = omega arith in
    let p = pow_pos m in
    subst (λ (i : ℕ). (2 ^ i - 1) / 2 ^ k % 2 ≡ 1) (sym e)
    (rw (ones_split (suc m) k, high (2 ^ suc m - 1) k (ones_lt k)) (omega (arith, pow-suc 2 m)))

pub bit_half : (w k : ℕ) → bit_at (w / 2) k ≡ bit_at w (suc k)
unfolding bit_at
bit_half w k = ap (λ (x : ℕ). x % 2) (div-div-eq-div-mul w 2 (2 ^ k) ∙ ap (λ (x : ℕ). w / x) (sym (pow-succ' 2 k)))

lowest : (w : ℕ) → w % 2 ≡ bit_at w 0
unfolding bit_at
lowest w = omega arith

-- ---- the word of a list of bits

pub word_lt : (l : List ℕ) → Below 2 l → word_of l < 2 ^ length l
unfolding word_of Below
word_lt [] h = omega arith
word_lt (b ∷ l) h = omega (arith, h.0, word_lt l h.1, pow-suc 2 (length l))

pub word_bit : (l : List ℕ) → Below 2 l → (k : ℕ) → bit_at (word_of l) k ≡ get_or l k 0
unfolding word_of Below
word_bit [] h k = bit_none k
word_bit (b ∷ l) h zero = sym (lowest (2 * word_of l + b)) ∙ omega (arith, h.0)
word_bit (b ∷ l) h (suc k) =
    let e : (2 * word_of l + b) / 2 ≡ word_of l = omega (arith, h.0) in
    sym (bit_half (2 * word_of l + b) k) ∙ ap (λ (w : ℕ). bit_at w k) e ∙ word_bit l h.1 k

below-drop : (n : ℕ) (l : List ℕ) (k : ℕ) → Below n l → Below n (drop k l)
unfolding Below
below-drop n l zero h = h
below-drop n [] (suc k) h = tt
below-drop n (x ∷ l) (suc k) h = below-drop n l k h.1

-- the loop that makes the word from the top: x holds the bits from k on
module _ (l : List ℕ) where
  pub word_none : (n : ℕ) → length l ≤ n → 0 ≡ word_of (drop n l)
  unfolding word_of
  word_none n h = rw (drop_of_length-le l h) refl

  pub word_turn : (k x b : ℕ) → 0 < k → k ≤ length l → b ≡ get_or l (k - 1) 0 → x ≡ word_of (drop k l) → 2 * x + b
      ≡ word_of (drop (k - 1) l)
  unfolding word_of
  word_turn k x b h g eb e =
      let ek : k ≡ suc (k - 1) = omega arith in
      let e' : x ≡ word_of (drop (suc (k - 1)) l) = subst (λ (i : ℕ). x ≡ word_of (drop i l)) ek e in
      rw (drop-cons l (k - 1) 0 (omega arith), eb, e') refl

  -- for which there is room
  pub word_room : Below 2 l → (k x : ℕ) → 0 < k → x ≡ word_of (drop k l) → length l ≤ 64 → 2 * x + 1 < 2 ^ 64
  word_room s k x h e g =
      let d = length-drop k l in
      omega (arith, e, word_lt (drop k l) (below-drop 2 l k s), pow_mono {i = length (drop k l)} {j = 63} (omega (arith, d)))

-- ---- how many bits are set

total_ext : (f g : ℕ → ℕ) (n : ℕ) → ((k : ℕ) → f k ≡ g k) → total f n ≡ total g n
unfolding total
total_ext f g zero e = refl
total_ext f g (suc n) e = ap₂ ◌+◌ (total_ext f g n e) (e n)

total_first : (f : ℕ → ℕ) (n : ℕ) → total f (suc n) ≡ f 0 + total (λ k. f (suc k)) n
unfolding total
total_first f zero = omega arith
total_first f (suc n) = omega (arith, total_first f n)

pub ones_bits : (n w : ℕ) → w < 2 ^ n → ones w ≡ total (bit_at w) n
unfolding total ones
ones_bits zero w h = ap ones (lt-one h)
ones_bits (suc n) w h =
    let g : w / 2 < 2 ^ n = (div-lt_iff_lt-mul {k = 2} {x = w} {y = 2 ^ n} (omega arith)).1 (omega (arith, pow-suc 2 n)) in
    ones_step w
    ∙ ap₂ ◌+◌ (lowest w) (ones_bits n (w / 2) g ∙ total_ext (bit_at (w / 2)) (λ k. bit_at w (suc k)) n (bit_half w))
    ∙ sym (total_first (bit_at w) n)
