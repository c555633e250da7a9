-- Numbers in bytes, read back: what stands on a list from a place on, numbers of two and four bytes, and two's complement.
use mathlib.Core.Path.{◌≡◌, sym, ap, ◌∙◌}
use mathlib.Core.List.{List, [], ◌∷◌, ◌++◌, flat_map, append_assoc}
use Prim.Native.Nat.{ℕ, zero, suc, ◌+◌, ◌*◌, ◌-◌, ◌^◌, ◌<◌}
use native.Mathlib.Omega.{arith}
use lib.IntN.{ℤ, pos, negsuc, nat_abs}
use lib.ListN.{length, get_or, drop, get_or-append}
use lib.Seq.{drop-drop, drop_at, get_or-drop}
use Rattle.integers.proofs.Parts.{int, dif}
use Rattle.layout.specs.Format.{byte, two's, word}
use Rattle.layout.proofs.Twos.{twos-low, twos_high}
use Rattle.card_bytes.specs.Bytes.{bytes, complement}
use Rattle.card_bytes.proofs.Lengths.{length-bytes}

-- ---- what stands from a place on

module _ (c : List ℕ) (at : ℕ) (x y : List ℕ) (stands : drop at c ≡ x ++ y) where
  -- what follows it
  pub drop_next : (n : ℕ) → length x ≡ n → drop (at + n) c ≡ y
  drop_next n l = sym (drop-drop n at c) ∙ ap (drop n) stands ∙ drop_at x y n l

  -- its bytes
  pub byte_of : (i : ℕ) → i < length x → byte c (at + i) ≡ get_or x i 0
  byte_of i h = sym (get_or-drop at c i 0) ∙ ap (λ (l : List ℕ). get_or l i 0) stands ∙ get_or-append x y 0 i h

  pub byte-first : 0 < length x → byte c at ≡ get_or x 0 0
  byte-first h = let e : at + 0 ≡ at = omega arith in rw e at (byte_of 0 h)

-- ---- two and four bytes

bytes_2 : (v : ℕ) → v < 2 ^ 16 → get_or (bytes 2 v) 0 0 * 256 + get_or (bytes 2 v) 1 0 ≡ v
unfolding bytes
bytes_2 v h = omega arith

bytes_4 : (v : ℕ) → v < 2 ^ 32
    → ((get_or (bytes 4 v) 0 0 * 256 + get_or (bytes 4 v) 1 0) * 256 + get_or (bytes 4 v) 2 0) * 256 + get_or (bytes 4 v) 3 0 ≡ v
unfolding bytes
bytes_4 v h = omega arith

module _ (c : List ℕ) (at v : ℕ) (r : List ℕ) where
  pub pair_of : drop at c ≡ bytes 2 v ++ r → v < 2 ^ 16 → byte c at * 256 + byte c (at + 1) ≡ v
  pair_of e h =
      let l = length-bytes 2 v in
      rw (byte-first c at (bytes 2 v) r e (omega arith), byte_of c at (bytes 2 v) r e 1 (omega arith)) (bytes_2 v h)

  pub word_of : drop at c ≡ bytes 4 v ++ r → v < 2 ^ 32 → word c at ≡ v
  unfolding word
  word_of e h =
      let l = length-bytes 4 v in
      let b = byte_of c at (bytes 4 v) r e in
      rw (byte-first c at (bytes 4 v) r e (omega arith), b 1 (omega arith), b 2 (omega arith), b 3 (omega arith)) (bytes_4 v h)

-- ---- two's complement

pub complement_less : (h : ℕ) (z : ℤ) → nat_abs z < h → complement h z < 2 * h
unfolding complement
complement_less h (pos n) l = omega arith
complement_less h (negsuc n) l = omega arith

pub twos-complement : (h : ℕ) (z : ℤ) → nat_abs z < h → two's h (complement h z) ≡ z
unfolding complement
twos-complement h (pos n) l = twos-low h n l
twos-complement h (negsuc n) l =
    twos_high h (2 * h - suc n) (omega arith) ∙ omega (int, dif (pos (2 * h - suc n)) (pos (2 * h)))

-- ---- a list of numbers of four bytes

pub words_at : (f : ℤ → ℕ) (l : List ℤ) (c r : List ℕ) (at : ℕ) → drop at c ≡ flat_map (λ z. bytes 4 (f z)) l ++ r
    → (i : ℕ) → i < length l → (s : List ℕ) × (drop (at + 4 * i) c ≡ bytes 4 (f (get_or l i (pos 0))) ++ s)
unfolding flat_map
words_at f [] c r at e i h = absurd (omega arith)
words_at f (z ∷ l) c r at e zero h =
    let n : at + 4 * 0 ≡ at = omega arith in
    (flat_map (λ z. bytes 4 (f z)) l ++ r, rw n (e ∙ append_assoc (bytes 4 (f z)) (flat_map (λ z. bytes 4 (f z)) l) r))
words_at f (z ∷ l) c r at e (suc i) h =
    let g = e ∙ append_assoc (bytes 4 (f z)) (flat_map (λ z. bytes 4 (f z)) l) r in
    let n : at + 4 * suc i ≡ at + 4 + 4 * i = omega arith in
    rw n (words_at f l c r (at + 4) (drop_next c at (bytes 4 (f z)) _ g 4 (length-bytes 4 (f z))) i (omega arith))
