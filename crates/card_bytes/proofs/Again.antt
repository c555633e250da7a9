-- Each accepted card is, byte for byte, what is written of the degrees, coefficients and points read from it: `read_written`.
use mathlib.Core.Path.{◌≡◌, refl, sym, ◌∙◌}
use mathlib.Core.Bool.{Bool, false, ◌||◌, or_comm, or_assoc}
use mathlib.Core.List.{List, [], ◌∷◌, ◌++◌, map, flat_map, append-nil, map-append}
use Prim.Native.Nat.{ℕ, zero, suc, ◌+◌, ◌*◌, ◌^◌, ◌≤◌, ◌<◌}
use native.Mathlib.Omega.{arith}
use borrow.Author.Tests.{le-ltb, eq-eqb}
use lib.Dec.{ltb}
use lib.IntN.{ℤ, pos}
use lib.ListN.{length, get_or, drop, length-append, length-map, length-drop}
use lib.Seq.{drop-cons, take_at, drop_at, get_or-drop, ext_get_or}
use Rattle.signs.specs.Lists.{Below, up_to}
use Rattle.signs.proofs.Positions.{below_at}
use Rattle.layout.specs.Format.{byte, two's, polynomials, point_count, offset, bodies_at, degree, size, word, coefficient, points_at}
use Rattle.layout.specs.Format.{point_of}
use Rattle.layout.specs.Body.{Body}
use Rattle.layout.proofs.Contents.{up_to-long, map-up_to-at, points-long, map-point-at}
use Rattle.integers.specs.Search.{any_below, outside}
use Rattle.card.specs.Card.{coefficients_refusal, refusal}
use Rattle.card.proofs.OnLine.{LineSound, of_sound}
use Rattle.integers.proofs.Search.{none_below}
use Rattle.card.proofs.Polynomial.{whole-body, unrefused_polynomial}
use Rattle.card.proofs.Sound.{sound}
use Rattle.card_bytes.specs.Bytes.{bytes, complement, body_size, wanted, bodies_from, offsets, body, bodies, card_bytes}
use Rattle.card_bytes.specs.Causes.{some, polynomial_cause, polynomials_cause, write_cause}
use Rattle.card_bytes.specs.Lists.{degrees_of, coefficients_of, points_of}
use Rattle.card_bytes.specs.Claim.{Rising, IsWritten}
use Rattle.card_bytes.proofs.Digits.{bytes_two, bytes_four, complement-twos}
use Rattle.card_bytes.proofs.Pieces.{map_first, flat_map_map, flat_map_first, pieces}
use Rattle.card_bytes.proofs.Refused.{rising_words}

-- ---- the definitions by pieces

module _ (d : ℕ → ℕ) (C : ℕ → List ℤ) (long : (i : ℕ) → length (C i) ≡ d i + 1) where
  bodies_pieces : (l : List ℕ) → bodies (map d l) (flat_map C l) ≡ flat_map (λ i. body (d i) (C i)) l
  unfolding bodies flat_map
  bodies_pieces [] = refl
  bodies_pieces (i ∷ l) =
      rw (take_at (C i) (flat_map C l) (d i + 1) (long i), drop_at (C i) (flat_map C l) (d i + 1) (long i), bodies_pieces l)

  wanted_pieces : (l : List ℕ) → length (flat_map C l) ≡ wanted (map d l)
  unfolding wanted flat_map
  wanted_pieces [] = refl
  wanted_pieces (i ∷ l) = omega (arith, length-append (C i) (flat_map C l), long i, wanted_pieces l)

offsets_pieces : (p d : ℕ → ℕ) (n : ℕ) → ((i : ℕ) → i < n → p (suc i) ≡ p i + body_size (d i))
    → offsets (p 0) (map d (up_to n)) ≡ flat_map (λ i. bytes 2 (p i)) (up_to (suc n))
unfolding offsets flat_map up_to
offsets_pieces p d zero h = sym (append-nil (bytes 2 (p 0)))
offsets_pieces p d (suc n) h =
    let r = offsets_pieces (λ i. p (suc i)) (λ i. d (suc i)) n (λ i l. h (suc i) (omega arith)) in
    rw (map_first d n, ← h 0 (omega arith), r, flat_map_first (λ i. bytes 2 (p i)) (suc n))

-- ---- the causes by pieces

polynomials_none : (d : ℕ → ℕ) (C : ℕ → List ℤ) (n : ℕ) → ((i : ℕ) → length (C i) ≡ d i + 1)
    → ((i : ℕ) → i < n → polynomial_cause (d i) (C i) ≡ 0) → polynomials_cause (map d (up_to n)) (flat_map C (up_to n)) ≡ 0
unfolding polynomials_cause up_to flat_map
polynomials_none d C zero long h = refl
polynomials_none d C (suc n) long h =
    let K : ℕ → List ℤ = λ i. C (suc i) in
    rw (map_first d n, flat_map_first C n)
    (rw (
      take_at (C 0) (flat_map K (up_to n)) (d 0 + 1) (long 0),
      drop_at (C 0) (flat_map K (up_to n)) (d 0 + 1) (long 0),
      h 0 (omega arith),
    )
    (polynomials_none (λ i. d (suc i)) K n (λ i. long (suc i)) (λ i l. h (suc i) (omega arith))))

module _ {A : Type 0} (f : A → Bool) where
  some_last : (l : List A) (x : A) → some f (l ++ (x ∷ [])) ≡ some f l || f x
  unfolding some
  some_last [] x = or_comm (f x) false
  some_last (y ∷ l) x = rw (some_last l x) (sym (or_assoc (f y) (some f l) (f x)))

  some-up_to : (g : ℕ → A) (n : ℕ) → some f (map g (up_to n)) ≡ any_below (λ i. f (g i)) n
  unfolding some any_below up_to
  some-up_to g zero = refl
  some-up_to g (suc n) = rw (map-append g (up_to n) (n ∷ []), some_last (map g (up_to n)) (g n), some-up_to g n)

-- ---- what is read from an accepted card

module _ (c : List ℕ) where
  abbrev degrees : ℕ → ℕ
  degrees j = degree c (offset c j)

  abbrev coefficients : ℕ → List ℤ
  coefficients at = map (coefficient c at) (up_to (degree c at + 1))

  abbrev parts : ℕ → List ℤ
  parts j = coefficients (offset c j)

  degrees-long : length (degrees_of c) ≡ polynomials c
  unfolding degrees_of
  degrees-long = length-map (up_to (polynomials c)) degrees ∙ up_to-long (polynomials c)

  coefficients-long : (at : ℕ) → length (coefficients at) ≡ degree c at + 1
  coefficients-long at = length-map (up_to (degree c at + 1)) (coefficient c at) ∙ up_to-long (degree c at + 1)

  coefficients-wanted : length (coefficients_of c) ≡ wanted (degrees_of c)
  unfolding degrees_of coefficients_of
  coefficients-wanted = wanted_pieces degrees parts (λ j. coefficients-long (offset c j)) (up_to (polynomials c))

  polynomial_none : (at : ℕ) → Body c at → polynomial_cause (degree c at) (coefficients at) ≡ 0
  unfolding polynomial_cause coefficients_refusal
  polynomial_none at b =
      let w = b.small.whole in
      let r : coefficients_refusal c at ≡ 0 = sym (whole-body c at w.begins w.low w.ends) ∙ unrefused_polynomial c at b in
      rw (
        some-up_to (outside 1000000) (coefficient c at) (degree c at + 1),
        map-up_to-at (coefficient c at) (degree c at + 1) (degree c at) (pos 0) (omega arith),
      )
      r

  module _ (s : LineSound c) where
    degrees_none : some (ltb 6) (degrees_of c) ≡ false
    unfolding degrees_of
    degrees_none =
        some-up_to (ltb 6) degrees (polynomials c)
        ∙ none_below (λ j. ltb 6 (degrees j)) (polynomials c) (λ j h. le-ltb 6 (degrees j) (s.body j h).small.whole.low)

    all_none : polynomials_cause (degrees_of c) (coefficients_of c) ≡ 0
    unfolding degrees_of coefficients_of
    all_none =
        polynomials_none degrees parts (polynomials c) (λ j. coefficients-long (offset c j))
        (λ j h. polynomial_none (offset c j) (s.body j h))

    points-rising : Rising (points_of c)
    points-rising =
        let at : (k : ℕ) → k < point_count c → get_or (points_of c) k (pos 0) ≡ point_of c k =
        λ k h. map-up_to-at (point_of c) (point_count c) k (pos 0) h in
        record {
          limits = λ k h. let g : k < point_count c = omega (arith, points-long c) in rw (at k g) (s.limits k g);
          rising = λ k h. let g : suc k < point_count c = omega (arith, points-long c) in
              rw (at k (omega arith), at (suc k) g) (s.rising k g);
        }

    read_accepted : write_cause (degrees_of c) (coefficients_of c) (points_of c) ≡ 0
    unfolding write_cause
    read_accepted =
        rw (
          le-ltb (length (degrees_of c)) 1 (omega (arith, degrees-long, s.s_least)),
          le-ltb 8 (length (degrees_of c)) (omega (arith, degrees-long, s.s_most)),
          le-ltb 64 (length (points_of c)) (omega (arith, points-long c, s.n_most)),
          degrees_none,
          eq-eqb (length (coefficients_of c)) (wanted (degrees_of c)) coefficients-wanted,
          all_none,
          (rising_words (points_of c)).1 points-rising,
        )

-- ---- the bytes of a card from a place on

module _ (c : List ℕ) where
  drop-byte : (i k : ℕ) → k ≡ suc i → k ≤ length c → drop i c ≡ byte c i ∷ drop k c
  drop-byte i k e h = rw (drop-cons c i 0 (omega arith), e)

  module _ (small : Below 256 c) where
    drop_two : (i j k : ℕ) → j ≡ suc i → k ≡ suc j → k ≤ length c → drop i c ≡ bytes 2 (byte c i * 256 + byte c j) ++ drop k c
    drop_two i j k e g h =
        rw (bytes_two (byte c i) (byte c j) (below_at 256 c small i (omega arith)) (below_at 256 c small j (omega arith)))
        (drop-byte i j e (omega arith) ∙ rw (drop-byte j k g (omega arith)))

    drop-offset : (j : ℕ) → 4 + 2 * suc j ≤ length c → drop (4 + 2 * j) c ≡ bytes 2 (offset c j) ++ drop (4 + 2 * suc j) c
    unfolding offset
    drop-offset j h = drop_two (4 + 2 * j) (5 + 2 * j) (4 + 2 * suc j) (omega arith) (omega arith) h

    module _ (i k : ℕ) (e : k ≡ i + 4) (h : k ≤ length c) where
      drop-word : drop i c ≡ bytes 4 (word c i) ++ drop k c
      unfolding word
      drop-word =
          let b = below_at 256 c small in
          rw (bytes_four (byte c i) (byte c (i + 1)) (byte c (i + 2)) (byte c (i + 3))
          (b i (omega arith)) (b (i + 1) (omega arith)) (b (i + 2) (omega arith)) (b (i + 3) (omega arith)))
          (drop-byte i (i + 1) (omega arith) (omega arith) ∙ rw (drop-byte (i + 1) (i + 2) (omega arith) (omega arith))
          (rw (drop-byte (i + 2) (i + 3) (omega arith) (omega arith), drop-byte (i + 3) k (omega arith) (omega arith))))

      word-most : word c i < 2 * 2 ^ 31
      unfolding word
      word-most =
          let b = below_at 256 c small in
          omega (arith, b i (omega arith), b (i + 1) (omega arith), b (i + 2) (omega arith), b (i + 3) (omega arith))

      drop-coefficient : drop i c ≡ bytes 4 (complement (2 ^ 31) (two's (2 ^ 31) (word c i))) ++ drop k c
      drop-coefficient = rw (complement-twos (2 ^ 31) (word c i) word-most) drop-word

    drop-body : (at : ℕ) → at + size c at ≤ length c → drop at c ≡ body (degree c at) (coefficients c at) ++ drop (at + size c at) c
    unfolding body
    drop-body at h =
        let W : ℤ → List ℕ = λ z. bytes 4 (complement (2 ^ 31) z) in
        let p = pieces c (λ i. at + 1 + 4 * i) (λ i. W (coefficient c at i)) (degree c at + 1)
        (λ i l. drop-coefficient (at + 1 + 4 * i) (at + 1 + 4 * suc i) (omega arith) (omega arith)) in
        let e : at + 1 + 4 * (degree c at + 1) ≡ at + size c at = omega arith in
        drop-byte at (at + 1 + 4 * 0) (omega arith) (omega arith)
        ∙ rw (flat_map_map W (coefficient c at) (up_to (degree c at + 1)), ← e, p)

    -- ---- the parts of an accepted card

    module _ (s : LineSound c) where
      header-long : bodies_at c < length c
      header-long = let b = (s.body 0 s.s_least).small.whole.begins in omega (arith, s.begins)

      drop-header : c ≡ 1 ∷ length (degrees_of c) ∷ length (points_of c) ∷ 0 ∷ drop 4 c
      drop-header =
          let h = header-long in
          drop-byte 0 1 refl (omega arith) ∙ rw (drop-byte 1 2 refl (omega arith))
          (rw (drop-byte 2 3 refl (omega arith), drop-byte 3 4 refl (omega arith), s.kind, s.zero, degrees-long c, points-long c))

      drop-contents : drop 4 c ≡ offsets (bodies_from (length (degrees_of c))) (degrees_of c) ++ drop (bodies_at c) c
      unfolding degrees_of
      drop-contents =
          let n = polynomials c in
          let o = offsets_pieces (offset c) (degrees c) n s.follows in
          let p : drop 4 c ≡ flat_map (λ j. bytes 2 (offset c j)) (up_to (suc n)) ++ drop (4 + 2 * suc n) c =
          pieces c (λ j. 4 + 2 * j) (λ j. bytes 2 (offset c j)) (suc n) (λ j l. drop-offset j (omega (arith, header-long))) in
          let e : 4 + 2 * suc n ≡ offset c 0 = omega (arith, s.begins) in
          rw (degrees-long c, ← s.begins, o) (rw e at p)

      drop-bodies : drop (bodies_at c) c ≡ bodies (degrees_of c) (coefficients_of c) ++ drop (points_at c) c
      unfolding degrees_of coefficients_of
      drop-bodies =
          let p = pieces c (offset c) (λ j. body (degrees c j) (parts c j)) (polynomials c)
          (λ j l. rw (s.follows j l) (drop-body (offset c j) (s.body j l).small.whole.ends)) in
          rw (bodies_pieces (degrees c) (parts c) (λ j. coefficients-long c (offset c j)) (up_to (polynomials c)), ← s.begins) p

      drop-points : drop (points_at c) c ≡ map (complement 128) (points_of c)
      drop-points =
          ext_get_or 0 (drop (points_at c) c) (map (complement 128) (points_of c))
          (omega (arith, s.ends, length-drop (points_at c) c, length-map (points_of c) (complement 128), points-long c))
          (λ k l. let h : k < point_count c = omega (arith, s.ends, length-drop (points_at c) c) in
          let b = below_at 256 c small (points_at c + k) (omega (arith, s.ends)) in
          get_or-drop (points_at c) c k 0
          ∙ sym (map-point-at c (complement 128) k 0 h ∙ complement-twos 128 (byte c (points_at c + k)) b))

      written-again : card_bytes (degrees_of c) (coefficients_of c) (points_of c) ≡ c
      unfolding card_bytes
      written-again = sym (drop-header ∙ rw (drop-contents, drop-bodies, drop-points))

-- ---- the whole

pub read_written : (c : List ℕ) → Below 256 c → byte c 0 ≡ 1 → refusal c ≡ 0 → IsWritten c
read_written c small kind e =
    let s = of_sound c (sound c e) kind in
    record { accepted = read_accepted c s; again = written-again c small s }
