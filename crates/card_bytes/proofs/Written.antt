-- Each written card is read to the same polynomials and points: `written_read`.
--
--   starts at ds j  == where body j begins, if the first begins at byte `at`; where the points begin, if there are j bodies
--   Stands c at d l == the body that begins at byte `at` of the card c lies on it, and has the degree d and the coefficients l
use mathlib.Core.Path.{◌≡◌, refl, sym, ap, ◌∙◌}
use mathlib.Core.List.{List, [], ◌∷◌, ◌++◌, map, flat_map, append_assoc}
use Prim.Native.Nat.{ℕ, zero, suc, ◌+◌, ◌*◌, ◌-◌, ◌^◌, ◌≤◌, ◌<◌}
use native.Mathlib.Omega.{arith}
use lib.IntN.{ℤ, pos, nat_abs, ◌*ℤ◌, +ℤ_idr, zero-*ℤ}
use lib.ListN.{length, get_or, take, drop, length-append, length-drop, take-append-drop, get_or-map, get_or-eq_default}
use lib.Seq.{length-take-le, get_or-drop}
use Rattle.integers.specs.Sums.{sum_to}
use Rattle.integers.specs.Powers.{power}
use Rattle.integers.proofs.Sums.{sum_to_ext}
use Rattle.signs.specs.Lists.{up_to}
use Rattle.polynomials.specs.Values.{evaluate}
use Rattle.layout.specs.Format.{byte, two's, polynomials, point_count, offset, degree, coefficient, points_at, point_of}
use Rattle.layout.specs.Body.{Body}
use Rattle.layout.specs.Values.{value}
use Rattle.card.proofs.OnLine.{LineSound, to_sound}
use Rattle.card_bytes.specs.Bytes.{bytes, complement, wanted, body_size, bodies_from, offsets, body, bodies, card_bytes}
use Rattle.card_bytes.specs.Causes.{write_cause}
use Rattle.card_bytes.specs.Lists.{degrees_of, coefficients_of, part}
use Rattle.card_bytes.specs.Claim.{Low, Small, Topped, Writable, IsRead}
use Rattle.card_bytes.proofs.Lengths.{length-bytes, length-offsets, length-body, length-card}
use Rattle.card_bytes.proofs.Pieces.{map-up_to_is, flat_map_first, flat_map_ext}
use Rattle.card_bytes.proofs.Refused.{refuses}
use Rattle.card_bytes.proofs.Numbers.{drop_next, byte-first, pair_of, word_of, complement_less, twos-complement, words_at}

-- ---- where the bodies begin

unfoldable starts : ℕ → List ℕ → ℕ → ℕ
starts at ds zero = at
starts at [] (suc j) = at
starts at (d ∷ ds) (suc j) = starts (at + body_size d) ds j

starts_first : (at : ℕ) (ds : List ℕ) → starts at ds 0 ≡ at
unfolding starts
starts_first at ds = refl

starts_next : (at : ℕ) (ds : List ℕ) (j : ℕ) → j < length ds → starts at ds (suc j) ≡ starts at ds j + body_size (get_or ds j 0)
unfolding starts
starts_next at [] j h = absurd (omega arith)
starts_next at (d ∷ ds) zero h = refl
starts_next at (d ∷ ds) (suc j) h = starts_next (at + body_size d) ds j (omega arith)

starts_last : (at : ℕ) (ds : List ℕ) → starts at ds (length ds) ≡ at + (length ds + 4 * wanted ds)
unfolding starts wanted
starts_last at [] = omega arith
starts_last at (d ∷ ds) = omega (arith, starts_last (at + body_size d) ds)

starts-most : (at : ℕ) (ds : List ℕ) → Low ds → (j : ℕ) → starts at ds j ≤ at + 29 * j
unfolding starts
starts-most at ds low zero = omega arith
starts-most at [] low (suc j) = omega arith
starts-most at (d ∷ ds) low (suc j) =
    omega (arith, starts-most (at + body_size d) ds (λ i h. low (suc i) (omega arith)) j, low 0 (omega arith))

-- ---- the contents and the bodies, from a place on

offsets-at : (c r : List ℕ) (i at : ℕ) (ds : List ℕ) → drop i c ≡ offsets at ds ++ r → (j : ℕ) → j ≤ length ds
    → (s : List ℕ) × (drop (i + 2 * j) c ≡ bytes 2 (starts at ds j) ++ s)
unfolding offsets starts
offsets-at c r i at [] e zero h = let n : i + 2 * 0 ≡ i = omega arith in (r, rw n e)
offsets-at c r i at [] e (suc j) h = absurd (omega arith)
offsets-at c r i at (d ∷ ds) e zero h =
    let n : i + 2 * 0 ≡ i = omega arith in
    (offsets (at + body_size d) ds ++ r, rw n (e ∙ append_assoc (bytes 2 at) (offsets (at + body_size d) ds) r))
offsets-at c r i at (d ∷ ds) e (suc j) h =
    let g = e ∙ append_assoc (bytes 2 at) (offsets (at + body_size d) ds) r in
    let n : i + 2 * suc j ≡ i + 2 + 2 * j = omega arith in
    rw n (offsets-at c r (i + 2) (at + body_size d) ds (drop_next c i (bytes 2 at) _ g 2 (length-bytes 2 at)) j (omega arith))

-- the coefficients of one polynomial, and those of the others
rest-long : (d : ℕ) (ds : List ℕ) (cs : List ℤ) → length cs ≡ wanted (d ∷ ds) → length (drop (d + 1) cs) ≡ wanted ds
unfolding wanted
rest-long d ds cs l = omega (arith, length-drop (d + 1) cs)

part-long : (ds : List ℕ) (cs : List ℤ) → length cs ≡ wanted ds → (j : ℕ) → j < length ds → length (part ds cs j) ≡ get_or ds j 0 + 1
unfolding part wanted
part-long [] cs e j h = absurd (omega arith)
part-long (d ∷ ds) cs e zero h = length-take-le (d + 1) cs (omega arith)
part-long (d ∷ ds) cs e (suc j) h = part-long ds (drop (d + 1) cs) (rest-long d ds cs e) j (omega arith)

module _ (c r : List ℕ) where
  -- the first body, and what stands after it
  body-first : (at d : ℕ) (ds : List ℕ) (cs : List ℤ) → drop at c ≡ bodies (d ∷ ds) cs ++ r
      → drop at c ≡ body d (take (d + 1) cs) ++ (bodies ds (drop (d + 1) cs) ++ r)
  unfolding bodies
  body-first at d ds cs e = e ∙ append_assoc (body d (take (d + 1) cs)) (bodies ds (drop (d + 1) cs)) r

  bodies-rest : (at d : ℕ) (ds : List ℕ) (cs : List ℤ) → length cs ≡ wanted (d ∷ ds) → drop at c ≡ bodies (d ∷ ds) cs ++ r
      → drop (at + body_size d) c ≡ bodies ds (drop (d + 1) cs) ++ r
  unfolding wanted
  bodies-rest at d ds cs l e =
      drop_next c at (body d (take (d + 1) cs)) _ (body-first at d ds cs e) (body_size d)
      (omega (arith, length-body d (take (d + 1) cs), length-take-le (d + 1) cs (omega arith)))

  bodies-at : (at : ℕ) (ds : List ℕ) (cs : List ℤ) → length cs ≡ wanted ds → drop at c ≡ bodies ds cs ++ r → (j : ℕ) → j < length ds
      → (s : List ℕ) × (drop (starts at ds j) c ≡ body (get_or ds j 0) (part ds cs j) ++ s)
  unfolding starts part
  bodies-at at [] cs l e j h = absurd (omega arith)
  bodies-at at (d ∷ ds) cs l e zero h = (_, body-first at d ds cs e)
  bodies-at at (d ∷ ds) cs l e (suc j) h =
      bodies-at (at + body_size d) ds (drop (d + 1) cs) (rest-long d ds cs l) (bodies-rest at d ds cs l e) j (omega arith)

  bodies_end : (at : ℕ) (ds : List ℕ) (cs : List ℤ) → length cs ≡ wanted ds → drop at c ≡ bodies ds cs ++ r
      → drop (starts at ds (length ds)) c ≡ r
  unfolding starts bodies
  bodies_end at [] cs l e = e
  bodies_end at (d ∷ ds) cs l e =
      bodies_end (at + body_size d) ds (drop (d + 1) cs) (rest-long d ds cs l) (bodies-rest at d ds cs l e)

-- ---- the coefficients of all polynomials, one after the other

parts_all : (ds : List ℕ) (cs : List ℤ) → length cs ≡ wanted ds → flat_map (part ds cs) (up_to (length ds)) ≡ cs
unfolding flat_map up_to wanted part
parts_all [] [] e = refl
parts_all [] (z ∷ cs) e = absurd (omega arith)
parts_all (d ∷ ds) cs e =
    flat_map_first (part (d ∷ ds) cs) (length ds)
    ∙ ap (λ (r : List ℤ). take (d + 1) cs ++ r) (parts_all ds (drop (d + 1) cs) (rest-long d ds cs e))
    ∙ take-append-drop (d + 1) cs

-- ---- one body

record Stands (c : List ℕ) (at d : ℕ) (l : List ℤ) : Type 0 where
  lies : at + body_size d ≤ length c
  has_degree : degree c at ≡ d
  has_coefficients : (i : ℕ) → i < length l → coefficient c at i ≡ get_or l i (pos 0)

body-stands : (c : List ℕ) (at d : ℕ) (l : List ℤ) (s : List ℕ) → drop at c ≡ body d l ++ s → length l ≡ d + 1 → Small l
    → Stands c at d l
unfolding body
body-stands c at d l s e n small =
    let w = drop_next c at (d ∷ []) (flat_map (λ z. bytes 4 (complement (2 ^ 31) z)) l ++ s) e 1 refl in
    record {
      lies = omega (arith, length-body d l, length-append (body d l) s, length-drop at c, ap length e);
      has_degree = byte-first c at (body d l) s e (omega arith);
      has_coefficients = λ i h.
          let (t, g) = words_at (complement (2 ^ 31)) l c s (at + 1) w i h in
          let m : nat_abs (get_or l i (pos 0)) < 2 ^ 31 = omega (arith, small i h) in
          ap (two's (2 ^ 31)) (word_of c (at + 1 + 4 * i) _ t g (omega (arith, complement_less (2 ^ 31) (get_or l i (pos 0)) m)))
          ∙ twos-complement (2 ^ 31) (get_or l i (pos 0)) m;
    }

-- the end of a sum that adds nothing to it
sum_to_tail : (f : ℕ → ℤ) (m t : ℕ) → ((k : ℕ) → m ≤ k → f k ≡ pos 0) → sum_to f (m + t) ≡ sum_to f m
unfolding sum_to
sum_to_tail f m zero h = let e : m + 0 ≡ m = omega arith in rw e
sum_to_tail f m (suc t) h =
    let e : m + suc t ≡ suc (m + t) = omega arith in
    rw (e, sum_to_tail f m t h, h (m + t) (omega arith)) (+ℤ_idr (sum_to f m))

-- its coefficients as a list, its values, and that it is sound
module _ (c : List ℕ) (at d : ℕ) (l : List ℤ) (n : length l ≡ d + 1) (b : Stands c at d l) where
  stands_list : map (coefficient c at) (up_to (degree c at + 1)) ≡ l
  stands_list =
      map-up_to_is (coefficient c at) (degree c at + 1) l (pos 0) (omega (arith, b.has_degree)) b.has_coefficients

  stands-value : d ≤ 6 → (x : ℤ) → value c at x ≡ evaluate l x
  unfolding value evaluate
  stands-value h x =
      let f : ℕ → ℤ = λ i. get_or l i (pos 0) *ℤ power x i in
      let t : d + 1 + (6 - d) ≡ 7 = omega arith in
      rw b.has_degree
      (sum_to_ext _ f (d + 1) (λ k g. ap (λ (z : ℤ). z *ℤ power x k) (b.has_coefficients k (omega arith)))
      ∙ sym (sum_to_tail f (d + 1) (6 - d)
      (λ k g. ap (λ (z : ℤ). z *ℤ power x k) (get_or-eq_default l (pos 0) {n = k} (omega arith)) ∙ zero-*ℤ (power x k)))
      ∙ ap (sum_to f) t)

  stands-body : d ≤ 6 → Small l → Topped d l → Body c at
  stands-body h small top =
      record {
        small = record {
          whole = record {
            begins = omega (arith, b.lies);
            low = omega (arith, b.has_degree);
            ends = omega (arith, b.lies, b.has_degree);
          };
          small = λ i g. rw (b.has_coefficients i (omega (arith, b.has_degree))) (small i (omega (arith, b.has_degree)));
        };
        top = λ z. b.has_degree
            ∙ top (sym (b.has_coefficients d (omega arith)) ∙ ap (coefficient c at) (sym b.has_degree) ∙ z);
      }

-- ---- the whole card

module _ (ds : List ℕ) (cs ps : List ℤ) where
  card-counts : (polynomials (card_bytes ds cs ps) ≡ length ds) × (point_count (card_bytes ds cs ps) ≡ length ps)
  unfolding card_bytes
  card-counts = (refl, refl)

  card_edges : (byte (card_bytes ds cs ps) 0 ≡ 1) × (byte (card_bytes ds cs ps) 3 ≡ 0)
  unfolding card_bytes
  card_edges = (refl, refl)

  card-contents : drop 4 (card_bytes ds cs ps) ≡ offsets (bodies_from (length ds)) ds ++ (bodies ds cs ++ map (complement 128) ps)
  unfolding card_bytes
  card-contents = refl

  module _ (w : Writable ds cs ps) where
    abbrev c : List ℕ
    c = card_bytes ds cs ps

    abbrev at : ℕ → ℕ
    at j = starts (bodies_from (length ds)) ds j

    card-bodies : drop (bodies_from (length ds)) c ≡ bodies ds cs ++ map (complement 128) ps
    card-bodies = drop_next c 4 (offsets (bodies_from (length ds)) ds) _ card-contents _ (length-offsets (bodies_from (length ds)) ds)

    offset_is : (j : ℕ) → j ≤ length ds → offset c j ≡ at j
    unfolding offset
    offset_is j h =
        let (s, e) = offsets-at c _ 4 (bodies_from (length ds)) ds card-contents j h in
        let n : 5 + 2 * j ≡ 4 + 2 * j + 1 = omega arith in
        let k = w.fitting.counted.s_most in
        rw n (pair_of c (4 + 2 * j) (at j) s e (omega (arith, starts-most (bodies_from (length ds)) ds w.fitting.low j)))

    stands : (j : ℕ) → j < length ds → Stands c (offset c j) (get_or ds j 0) (part ds cs j)
    stands j h =
        let (s, e) = bodies-at c _ (bodies_from (length ds)) ds cs w.fitting.long card-bodies j h in
        rw (offset_is j (omega arith))
        (body-stands c (at j) (get_or ds j 0) (part ds cs j) s e (part-long ds cs w.fitting.long j h) (w.good j h).0)

    points_begin : points_at c ≡ at (length ds)
    points_begin = ap (offset c) card-counts.0 ∙ offset_is (length ds) (omega arith)

    point-byte : (k : ℕ) → byte c (at (length ds) + k) ≡ complement 128 (get_or ps k (pos 0))
    unfolding complement
    point-byte k =
        sym (get_or-drop (at (length ds)) c k 0)
        ∙ ap (λ (l : List ℕ). get_or l k 0) (bodies_end c _ (bodies_from (length ds)) ds cs w.fitting.long card-bodies)
        ∙ get_or-map (complement 128) ps k (pos 0)

    point_is : (k : ℕ) → k < length ps → point_of c k ≡ get_or ps k (pos 0)
    point_is k h =
        ap (λ (p : ℕ). two's 128 (byte c (p + k))) points_begin
        ∙ ap (two's 128) (point-byte k)
        ∙ twos-complement 128 (get_or ps k (pos 0)) (omega (arith, w.points.limits k h))

    card-sound : LineSound c
    card-sound =
        let (s, n) = card-counts in
        let l = w.fitting.long in
        let b = bodies_from (length ds) in
        record {
          kind = card_edges.0;
          zero = card_edges.1;
          s_least = omega (arith, w.fitting.counted.s_least);
          s_most = omega (arith, w.fitting.counted.s_most);
          n_most = omega (arith, w.fitting.counted.n_most);
          begins = omega (arith, offset_is 0 (omega arith), starts_first b ds);
          body = λ j h. let g : j < length ds = omega arith in
              stands-body c (offset c j) (get_or ds j 0) (part ds cs j) (part-long ds cs l j g) (stands j g)
              (w.fitting.low j g) (w.good j g).0 (w.good j g).1;
          follows = λ j h. let g : j < length ds = omega arith in
              omega (arith, offset_is (suc j) g, offset_is j (omega arith), starts_next b ds j g, (stands j g).has_degree);
          ends = omega (arith, length-card ds cs ps l, starts_last b ds, points_begin);
          limits = λ k h. rw (point_is k (omega arith)) (w.points.limits k (omega arith));
          rising = λ k h. rw (point_is k (omega arith), point_is (suc k) (omega arith)) (w.points.rising k (omega arith));
        }

    card_read : IsRead ds cs ps c
    unfolding degrees_of coefficients_of
    card_read =
        let (s, n) = card-counts in
        let l = w.fitting.long in
        record {
          sound = to_sound c card-sound;
          line = card-sound.kind;
          degrees = map-up_to_is (λ j. degree c (offset c j)) (polynomials c) ds 0 s (λ j h. (stands j h).has_degree);
          coefficients =
              ap (λ (k : ℕ). flat_map (λ j. map (coefficient c (offset c j)) (up_to (degree c (offset c j) + 1))) (up_to k)) s
              ∙ flat_map_ext _ (part ds cs) (length ds)
              (λ j h. stands_list c (offset c j) (get_or ds j 0) (part ds cs j) (part-long ds cs l j h) (stands j h))
              ∙ parts_all ds cs l;
          contents = record {
            polynomials = s;
            values = λ j h x. let g : j < length ds = omega arith in
                stands-value c (offset c j) (get_or ds j 0) (part ds cs j) (part-long ds cs l j g) (stands j g) (w.fitting.low j g) x;
            points = map-up_to_is (point_of c) (point_count c) ps (pos 0) n point_is;
          };
        }

-- ---- THE LAWS

pub written-counts : (ds : List ℕ) (cs ps : List ℤ) → write_cause ds cs ps ≡ 0
    → (polynomials (card_bytes ds cs ps) ≡ length ds) × (point_count (card_bytes ds cs ps) ≡ length ps)
written-counts ds cs ps e = card-counts ds cs ps

pub written_read : (ds : List ℕ) (cs ps : List ℤ) → write_cause ds cs ps ≡ 0 → IsRead ds cs ps (card_bytes ds cs ps)
written_read ds cs ps e = card_read ds cs ps ((refuses ds cs ps).is_0.0 e)
