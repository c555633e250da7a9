-- What the code of `adapted` works out is the adapted list: the merge leaves `restrictions`, and the three parts are written one after the
-- other.
use mathlib.Core.Path.{◌≡◌, refl, sym, ap, ap₂, ◌∙◌, subst}
use mathlib.Core.Bool.{Bool, true, false, cond}
use mathlib.Core.Logic.{◌≢◌, ◌⊎◌, inl, inr}
use mathlib.Core.List.{List, [], ◌∷◌, ◌++◌}
use Prim.Native.Nat.{ℕ, zero, suc, ◌+◌, ◌*◌, ◌%◌, ◌^◌, ◌<◌, ◌≤◌, min}
use native.Mathlib.Omega.{arith}
use native.Mathlib.Decide.{ℕ_discrete, dec_lt}
use native.Mathlib.Nat.{zero-add, one-le-pow}
use lib.Dec.{leb, leb→le}
use lib.ListN.{length, get_or, take, set, replicate, length-append}
use lib.Seq.{sets, length-take-le, get_or-take}
use borrow.Author.Tests.{le-leb}
use Rattle.integers.proofs.Tests.{T_of}
use Rattle.signs.specs.Lists.{times, Below, Rising, shift}
use Rattle.signs.specs.Adapted.{signs_of, restrictions, adapted}
use Rattle.adapted.specs.Split.{marks_of, count_of, chosen, parts_of, Split}
use Rattle.signs.proofs.Lists.{times-nil, times-same, times_other, times-one, times-cons, restrictions_in, restrictions_holds}
use Rattle.signs.proofs.Digits.{low as low_digits, digits}
use Rattle.signs.proofs.Size.{length_shift, as_many}
use Rattle.signs.proofs.Extend.{rising_ext, restrictions-rising}
use Rattle.adapted.proofs.Stores.{sets_append, take_sets}
use Rattle.signs.proofs.Positions.{stands_at, place_of}
use Rattle.adapted.proofs.Merge.{chosen-length}

-- ---- shift

pub shift-append : (b : ℕ) (l m : List ℕ) → shift b (l ++ m) ≡ shift b l ++ shift b m
unfolding shift
shift-append b [] m = refl
shift-append b (x ∷ l) m = ap (λ (t : List ℕ). (x + b) ∷ t) (shift-append b l m)

pub shift-shift : (b c : ℕ) (l : List ℕ) → shift b (shift c l) ≡ shift (b + c) l
unfolding shift
shift-shift b c [] = refl
shift-shift b c (x ∷ l) = ap₂ ◌∷◌ (omega arith) (shift-shift b c l)

-- ---- at most one pattern

empty : (l : List ℕ) → ((q : ℕ) → 0 < times q l → ⊥) → l ≡ []
empty [] h = refl
empty (x ∷ l) h = absurd (h x (omega (arith, times-same x l)))

restrictions-nil : (k i : ℕ) → 1 ≤ k → restrictions k i [] ≡ []
restrictions-nil k i h =
    empty (restrictions k i [])
    (λ q m. let (b, e) = restrictions_holds k i [] q m in unfold signs_of in
    omega (arith, times-nil q, times-nil (q + 3 ^ i), times-nil (q + 2 * 3 ^ i)))

pub adapted-nil : (i : ℕ) → adapted i [] ≡ []
unfolding adapted shift
adapted-nil zero = refl
adapted-nil (suc i) =
    rw (restrictions-nil 1 i (omega arith), restrictions-nil 2 i (omega arith), restrictions-nil 3 i (omega arith), adapted-nil i) refl

-- q is x and stands once in the list of x alone, or is another and does not
abbrev Single : ℕ → ℕ → Type 0
Single x q = ((q ≡ x) × (times q (x ∷ []) ≡ 1)) ⊎ ((q ≢ x) × (times q (x ∷ []) ≡ 0))

single : (x q : ℕ) → Single x q
single x q = go (ℕ_discrete q x)
  where
    go : Dec (q ≡ x) → Single x q
    go (yes e) = inl (e, rw e (omega (arith, times-same x [], times-nil x)))
    go (no e) = inr (e, omega (arith, times_other q x [] e, times-nil q))

-- a single pattern stands with one sign
signs_single : (i q x : ℕ) → signs_of i (x ∷ []) q ≤ 1
unfolding signs_of
signs_single i q x = go (single x q) (single x (q + 3 ^ i)) (single x (q + 2 * 3 ^ i)) (one-le-pow i 3 (omega arith))
  where
    go : Single x q → Single x (q + 3 ^ i) → Single x (q + 2 * 3 ^ i) → 1 ≤ 3 ^ i
        → min 1 (times q (x ∷ [])) + min 1 (times (q + 3 ^ i) (x ∷ [])) + min 1 (times (q + 2 * 3 ^ i) (x ∷ [])) ≤ 1
    go (inl (a, _)) (inl (b, _)) c p = absurd (omega arith)
    go (inl (a, _)) (inr (b, m)) (inl (c, _)) p = absurd (omega arith)
    go (inl (a, _)) (inr (b, m)) (inr (c, n)) p = omega arith
    go (inr (a, _)) (inl (b, _)) (inl (c, _)) p = absurd (omega arith)
    go (inr (a, l)) (inl (b, _)) (inr (c, n)) p = omega arith
    go (inr (a, l)) (inr (b, m)) c p = omega arith

-- a pattern stands with some sign where it stands in the list, extended by that sign
pub some-sign : (i : ℕ) (L : List ℕ) (q : ℕ) → 1 ≤ signs_of i L q → (d : ℕ) × (d < 3) × (0 < times (q + d * 3 ^ i) L)
unfolding signs_of
some-sign i L q h = go (dec_lt 0 (times q L)) (dec_lt 0 (times (q + 3 ^ i) L))
  where
    moved : (d : ℕ) {p : ℕ} → p ≡ q + d * 3 ^ i → 0 < times p L → 0 < times (q + d * 3 ^ i) L
    moved d e m = rw e at m

    go : Dec (0 < times q L) → Dec (0 < times (q + 3 ^ i) L) → (d : ℕ) × (d < 3) × (0 < times (q + d * 3 ^ i) L)
    go (yes a) b = (0, omega arith, moved 0 (omega arith) a)
    go (no a) (yes b) = (1, omega arith, moved 1 (omega arith) b)
    go (no a) (no b) = (2, omega arith, omega arith)

pub sign-some : (i : ℕ) (L : List ℕ) (q d : ℕ) → d < 3 → 0 < times (q + d * 3 ^ i) L → 1 ≤ signs_of i L q
unfolding signs_of
sign-some i L q zero h m = let e : q + 0 * 3 ^ i ≡ q = omega arith in let m' : 0 < times q L = (rw e at m) in omega arith
sign-some i L q (suc zero) h m =
    let e : q + 1 * 3 ^ i ≡ q + 3 ^ i = omega arith in
    let m' : 0 < times (q + 3 ^ i) L = (rw e at m) in
    omega arith
sign-some i L q (suc (suc zero)) h m = omega arith
sign-some i L q (suc (suc (suc d))) h m = absurd (omega arith)

restrictions_single : (i r d : ℕ) → r < 3 ^ i → d < 3 → restrictions 1 i ((r + d * 3 ^ i) ∷ []) ≡ r ∷ []
restrictions_single i r d h k =
    rising_ext (restrictions 1 i (x ∷ [])) (r ∷ []) (restrictions-rising 1 i (x ∷ [])) rises (λ q. (forth q, back q))
  where
    x : ℕ
    x = r + d * 3 ^ i

    rises : Rising (r ∷ [])
    rises = unfold Rising in ((λ y m. absurd (omega (arith, times-nil y))), tt)

    forth : (q : ℕ) → 0 < times q (restrictions 1 i (x ∷ [])) → 0 < times q (r ∷ [])
    forth q m =
        let (b, s) = restrictions_holds 1 i (x ∷ []) q m in
        let (d', k', m') = some-sign i (x ∷ []) q s in
        let e : q ≡ r = sym (low_digits i d' b) ∙ ap (λ (y : ℕ). y % 3 ^ i) (times-one (q + d' * 3 ^ i) x m') ∙ low_digits i d h in
        rw e (omega (arith, times-same r []))

    back : (q : ℕ) → 0 < times q (r ∷ []) → 0 < times q (restrictions 1 i (x ∷ []))
    back q m = rw (times-one q r m) (restrictions_in 1 i (x ∷ []) r h (sign-some i (x ∷ []) r d k (omega (arith, times-same x []))))

restrictions_single_more : (k i x : ℕ) → 2 ≤ k → restrictions k i (x ∷ []) ≡ []
restrictions_single_more k i x h =
    empty (restrictions k i (x ∷ [])) (λ q m. let (b, e) = restrictions_holds k i (x ∷ []) q m in omega (arith, signs_single i q x))

pub adapted_single : (i x : ℕ) → x < 3 ^ i → adapted i (x ∷ []) ≡ 0 ∷ []
unfolding adapted shift
adapted_single zero x h = refl
adapted_single (suc i) x h = go (digits i x h) (adapted_single i)
  where
    go : (r d : ℕ) × (r < 3 ^ i) × (d < 3) × (x ≡ r + d * 3 ^ i) → ((r : ℕ) → r < 3 ^ i → adapted i (r ∷ []) ≡ 0 ∷ [])
        → adapted (suc i) (x ∷ []) ≡ 0 ∷ []
    go (r, d, b, c, e) ih =
        rw (
          e,
          restrictions_single i r d b c,
          restrictions_single_more 2 i (r + d * 3 ^ i) (omega arith),
          restrictions_single_more 3 i (r + d * 3 ^ i) (omega arith),
          ih r b,
          adapted-nil i,
        ) refl

-- a rising list of patterns of no polynomials has at most one
pub one_at_most : (l : List ℕ) → Rising l → Below 1 l → length l ≤ 1
unfolding Rising Below
one_at_most [] r b = omega arith
one_at_most (x ∷ []) r b = omega arith
one_at_most (x ∷ y ∷ l) r b = absurd (omega (arith, r.0 y (omega (arith, times-same y l))))

-- ---- patterns chosen by their marks

chosen-inside : (k q : ℕ) (l m : List ℕ) → 0 < times q (chosen k l m)
    → (j : ℕ) × (j < length l) × (get_or l j 0 ≡ q) × (k ≤ count_of (get_or m j 0))
unfolding chosen
chosen-inside k q [] m h = absurd (omega (arith, times-nil q))
chosen-inside k q (x ∷ l) [] h = absurd (omega (arith, times-nil q))
chosen-inside k q (x ∷ l) (c ∷ m) h = go (leb k (count_of c)) refl h (chosen-inside k q l m) (ℕ_discrete q x)
  where
    later : (j : ℕ) × (j < length l) × (get_or l j 0 ≡ q) × (k ≤ count_of (get_or m j 0))
        → (j : ℕ) × (j < length (x ∷ l)) × (get_or (x ∷ l) j 0 ≡ q) × (k ≤ count_of (get_or (c ∷ m) j 0))
    later (j, a, e, n) = (suc j, omega arith, e, n)

    go : (b : Bool) → leb k (count_of c) ≡ b → 0 < times q (cond b (x ∷ chosen k l m) (chosen k l m))
        → (0 < times q (chosen k l m) → (j : ℕ) × (j < length l) × (get_or l j 0 ≡ q) × (k ≤ count_of (get_or m j 0)))
        → Dec (q ≡ x)
        → (j : ℕ) × (j < length (x ∷ l)) × (get_or (x ∷ l) j 0 ≡ q) × (k ≤ count_of (get_or (c ∷ m) j 0))
    go true t h' ih (yes e) = (0, omega arith, sym e, leb→le k (count_of c) (T_of t))
    go true t h' ih (no e) = later (ih (omega (arith, times_other q x (chosen k l m) e)))
    go false t h' ih d = later (ih h')

chosen-stands : (k : ℕ) (l m : List ℕ) (j : ℕ) → j < length l → j < length m → k ≤ count_of (get_or m j 0)
    → 0 < times (get_or l j 0) (chosen k l m)
unfolding chosen
chosen-stands k [] m j a b h = absurd (omega arith)
chosen-stands k (x ∷ l) [] j a b h = absurd (omega arith)
chosen-stands k (x ∷ l) (c ∷ m) zero a b h = rw (le-leb k (count_of c) h) (omega (arith, times-same x (chosen k l m)))
chosen-stands k (x ∷ l) (c ∷ m) (suc j) a b h = go (leb k (count_of c)) (chosen-stands k l m j (omega arith) (omega arith) h)
  where
    go : (t : Bool) → 0 < times (get_or l j 0) (chosen k l m) → 0 < times (get_or l j 0) (cond t (x ∷ chosen k l m) (chosen k l m))
    go true i = omega (arith, times-cons (get_or l j 0) x (chosen k l m))
    go false i = i

pub chosen-rising : (k : ℕ) (l m : List ℕ) → Rising l → Rising (chosen k l m)
unfolding chosen Rising
chosen-rising k [] m r = tt
chosen-rising k (x ∷ l) [] r = tt
chosen-rising k (x ∷ l) (c ∷ m) r = go (leb k (count_of c)) (chosen-rising k l m r.1)
  where
    inside : (y : ℕ) → 0 < times y (chosen k l m) → 0 < times y l
    inside y h = let (j, a, e, n) = chosen-inside k y l m h in rw e at (stands_at l j a)

    go : (t : Bool) → Rising (chosen k l m) → Rising (cond t (x ∷ chosen k l m) (chosen k l m))
    go true ih = (λ y h. r.0 y (inside y h), ih)
    go false ih = ih

pub chosen-below : (k b : ℕ) (l m : List ℕ) → Below b l → Below b (chosen k l m)
unfolding chosen Below
chosen-below k b [] m r = tt
chosen-below k b (x ∷ l) [] r = tt
chosen-below k b (x ∷ l) (c ∷ m) r = go (leb k (count_of c)) (chosen-below k b l m r.1)
  where
    go : (t : Bool) → Below b (chosen k l m) → Below b (cond t (x ∷ chosen k l m) (chosen k l m))
    go true ih = (r.0, ih)
    go false ih = ih

-- ---- what the merge leaves

below_by : (b : ℕ) (l : List ℕ) → ((j : ℕ) → j < length l → get_or l j 0 < b) → Below b l
unfolding Below
below_by b [] h = tt
below_by b (x ∷ l) h = (h 0 (omega arith), below_by b l (λ j a. h (suc j) (omega arith)))

count_bits : (x y z : ℕ) → x ≤ 1 → y ≤ 1 → z ≤ 1 → count_of (x + 2 * y + 4 * z) ≡ x + y + z
unfolding count_of
count_bits zero zero zero h k l = refl
count_bits zero zero (suc zero) h k l = refl
count_bits zero (suc zero) zero h k l = refl
count_bits zero (suc zero) (suc zero) h k l = refl
count_bits (suc zero) zero zero h k l = refl
count_bits (suc zero) zero (suc zero) h k l = refl
count_bits (suc zero) (suc zero) zero h k l = refl
count_bits (suc zero) (suc zero) (suc zero) h k l = refl
count_bits (suc (suc x)) y z h k l = absurd (omega arith)
count_bits zero (suc (suc y)) z h k l = absurd (omega arith)
count_bits (suc zero) (suc (suc y)) z h k l = absurd (omega arith)
count_bits zero zero (suc (suc z)) h k l = absurd (omega arith)
count_bits zero (suc zero) (suc (suc z)) h k l = absurd (omega arith)
count_bits (suc zero) zero (suc (suc z)) h k l = absurd (omega arith)
count_bits (suc zero) (suc zero) (suc (suc z)) h k l = absurd (omega arith)

-- a mark has as many signs as the pattern stands with
count-signs : (i : ℕ) (L : List ℕ) (q : ℕ) → count_of (marks_of (3 ^ i) L q) ≡ signs_of i L q
unfolding marks_of signs_of
count-signs i L q =
    count_bits (min 1 (times q L)) (min 1 (times (q + 3 ^ i) L)) (min 1 (times (q + 2 * 3 ^ i) L)) (omega arith) (omega arith) (omega arith)

-- a mark that is not 0 has a sign
signs-marked : (i : ℕ) (L : List ℕ) (q : ℕ) → 0 < marks_of (3 ^ i) L q → 1 ≤ signs_of i L q
unfolding marks_of signs_of
signs-marked i L q h = omega arith

marks-few : (w : ℕ) (L : List ℕ) (q : ℕ) → marks_of w L q < 8
unfolding marks_of
marks-few w L q = omega arith

module _ (i n : ℕ) (L low mark at : List ℕ) (s : Split (3 ^ i) L n low mark at) (a : n ≤ length low) (b : n ≤ length mark) where
  pub fronts_below : Below (3 ^ i) (take n low)
  fronts_below =
      below_by (3 ^ i) (take n low)
      (λ j h. let k : j < n = omega (arith, length-take-le n low a) in rw (get_or-take n low j 0 k) (s.below j k))

  pub fronts_marks : Below 8 (take n mark)
  fronts_marks =
      below_by 8 (take n mark)
      (λ j h. let k : j < n = omega (arith, length-take-le n mark b) in
      rw (get_or-take n mark j 0 k, s.marks j k) (marks-few (3 ^ i) L (get_or low j 0)))

  -- a pattern that stands with some sign has a place
  fronts_place : (q : ℕ) → q < 3 ^ i → 1 ≤ signs_of i L q → (j : ℕ) × (j < n) × (get_or low j 0 ≡ q)
  fronts_place q h m =
      let (d, k, t) = some-sign i L q m in
      let (p, f, e) = place_of (q + d * 3 ^ i) L t in
      (get_or at p 0, s.noted p f, s.places p f ∙ ap (λ (y : ℕ). y % 3 ^ i) e ∙ low_digits i d h)

  fronts_signs : (j : ℕ) → j < n → count_of (get_or (take n mark) j 0) ≡ signs_of i L (get_or low j 0)
  fronts_signs j h = rw (get_or-take n mark j 0 h, s.marks j h) (count-signs i L (get_or low j 0))

  -- by their marks, the patterns left are chosen as document 01's L2 and L3 are
  pub fronts_chosen : (k : ℕ) → 1 ≤ k → chosen k (take n low) (take n mark) ≡ restrictions k i L
  fronts_chosen k h =
      rising_ext (chosen k (take n low) (take n mark)) (restrictions k i L) (chosen-rising k (take n low) (take n mark) s.rising)
      (restrictions-rising k i L) (λ q. (forth q, back q))
    where
      forth : (q : ℕ) → 0 < times q (chosen k (take n low) (take n mark)) → 0 < times q (restrictions k i L)
      forth q m =
          let (j, f, e, c) = chosen-inside k q (take n low) (take n mark) m in
          let f' : j < n = omega (arith, length-take-le n low a) in
          let e' : get_or low j 0 ≡ q = sym (get_or-take n low j 0 f') ∙ e in
          subst (λ (y : ℕ). 0 < times y (restrictions k i L)) e'
          (restrictions_in k i L (get_or low j 0) (s.below j f') (omega (arith, fronts_signs j f')))

      back : (q : ℕ) → 0 < times q (restrictions k i L) → 0 < times q (chosen k (take n low) (take n mark))
      back q m =
          let (b', c) = restrictions_holds k i L q m in
          let (j, f, e) = fronts_place q b' (omega arith) in
          let g : k ≤ count_of (get_or (take n mark) j 0) = rw (fronts_signs j f, e) c in
          let e' : get_or (take n low) j 0 ≡ q = get_or-take n low j 0 f ∙ e in
          subst (λ (y : ℕ). 0 < times y (chosen k (take n low) (take n mark))) e'
          (chosen-stands k (take n low) (take n mark) j (omega (arith, length-take-le n low a)) (omega (arith, length-take-le n mark b)) g)

  -- each of them stands with some sign: they are L1
  pub fronts_restrictions : take n low ≡ restrictions 1 i L
  fronts_restrictions = rising_ext (take n low) (restrictions 1 i L) s.rising (restrictions-rising 1 i L) (λ q. (forth q, back q))
    where
      forth : (q : ℕ) → 0 < times q (take n low) → 0 < times q (restrictions 1 i L)
      forth q m =
          let (j, f, e) = place_of q (take n low) m in
          let f' : j < n = omega (arith, length-take-le n low a) in
          let e' : get_or low j 0 ≡ q = sym (get_or-take n low j 0 f') ∙ e in
          let g : 0 < marks_of (3 ^ i) L (get_or low j 0) = rw (s.marks j f') at (s.stands j f') in
          subst (λ (y : ℕ). 0 < times y (restrictions 1 i L)) e'
          (restrictions_in 1 i L (get_or low j 0) (s.below j f') (signs-marked i L (get_or low j 0) g))

      back : (q : ℕ) → 0 < times q (restrictions 1 i L) → 0 < times q (take n low)
      back q m =
          let (b', c) = restrictions_holds 1 i L q m in
          let (j, f, e) = fronts_place q b' c in
          let e' : get_or (take n low) j 0 ≡ q = get_or-take n low j 0 f ∙ e in
          subst (λ (y : ℕ). 0 < times y (take n low)) e' (stands_at (take n low) j (omega (arith, length-take-le n low a)))

  pub fronts_parts : parts_of i (take n low) (take n mark) ≡ adapted (suc i) L
  unfolding parts_of adapted
  fronts_parts = rw (fronts_chosen 2 (omega arith), fronts_chosen 3 (omega arith), fronts_restrictions) refl

-- ---- the three parts, one after the other

pub parts_length : (i : ℕ) (low mark : List ℕ) → Rising low → Below (3 ^ i) low
    → length (parts_of i low mark) ≡ length low + (length (chosen 2 low mark) + length (chosen 3 low mark))
unfolding parts_of
parts_length i low mark r b = simp (length-append, length_shift) (rw (as_many i low r b, more 2, more 3) refl)
  where
    more : (k : ℕ) → length (adapted i (chosen k low mark)) ≡ length (chosen k low mark)
    more k = as_many i (chosen k low mark) (chosen-rising k low mark r) (chosen-below k (3 ^ i) low mark b)

pub written_parts : (i b w at r₁ r₂ : ℕ) (low mark o o₁ o₂ o₃ : List ℕ) → w ≡ 3 ^ i → Rising low → Below (3 ^ i) low
    → r₁ ≡ at + length low
    → r₂ ≡ r₁ + length (chosen 2 low mark)
    → o₁ ≡ sets o at (shift b (adapted i low))
    → o₂ ≡ sets o₁ r₁ (shift (b + w) (adapted i (chosen 2 low mark)))
    → o₃ ≡ sets o₂ r₂ (shift (b + 2 * w) (adapted i (chosen 3 low mark)))
    → o₃ ≡ sets o at (shift b (parts_of i low mark))
unfolding parts_of
written_parts i b w at r₁ r₂ low mark o o₁ o₂ o₃ ew r l e₁ e₂ p₁ p₂ p₃ =
    let q₂ : o₂ ≡ sets o₁ r₁ (shift (b + 3 ^ i) (adapted i (chosen 2 low mark))) = rw ew at p₂ in
    let q₃ : o₃ ≡ sets o₂ r₂ (shift (b + 2 * 3 ^ i) (adapted i (chosen 3 low mark))) = rw ew at p₃ in
    rw (shift-append, shift-append, shift-shift b (3 ^ i), shift-shift b (2 * 3 ^ i), sets_append, sets_append, n₁, n₂) (cc)
  where
    n₁ : length (shift b (adapted i low)) ≡ length low
    n₁ = length_shift b (adapted i low) ∙ as_many i low r l

    n₂ : length (shift (b + 3 ^ i) (adapted i (chosen 2 low mark))) ≡ length (chosen 2 low mark)
    n₂ =
        length_shift (b + 3 ^ i) (adapted i (chosen 2 low mark))
        ∙ as_many i (chosen 2 low mark) (chosen-rising 2 low mark r) (chosen-below 2 (3 ^ i) low mark l)

-- ---- no pattern, one pattern, more

pub written_none : (i b at : ℕ) (l o : List ℕ) → length l ≡ 0 → o ≡ sets o at (shift b (adapted i l))
unfolding shift
written_none i b at [] o e = rw (adapted-nil i) refl
written_none i b at (x ∷ l) o e = absurd (omega arith)

pub written_one : (i b at : ℕ) (l o : List ℕ) → Below (3 ^ i) l → length l ≡ 1 → set o at b ≡ sets o at (shift b (adapted i l))
unfolding shift Below
written_one i b at [] o h e = absurd (omega arith)
written_one i b at (x ∷ []) o h e = rw (adapted_single i x h.0, zero-add) refl
written_one i b at (x ∷ y ∷ l) o h e = absurd (omega arith)

-- two patterns have a polynomial that tells them apart
pub some_polynomial : (i : ℕ) (l : List ℕ) → Rising l → Below (3 ^ i) l → length l ≢ 0 → length l ≢ 1 → 1 ≤ i
some_polynomial zero l r b h k = absurd (omega (arith, one_at_most l r b))
some_polynomial (suc i) l r b h k = omega arith

-- ---- what the code lends on

-- the patterns chosen, in an array of 64
pub front : (k n : ℕ) (low mark l : List ℕ) → length low ≤ 64 → n ≡ length (chosen k low mark)
    → l ≡ sets (replicate 64 0) 0 (chosen k low mark)
    → take n l ≡ chosen k low mark
front k n low mark l h e p = rw p (take_sets (chosen k low mark) (replicate 64 0) n e (omega (arith, chosen-length k low mark)))

pub record Fronts (i n : ℕ) (L l m : List ℕ) : Type 0 where
  pub left : n ≡ length l
  pub marked : n ≡ length m
  pub below : Below (3 ^ i) l
  pub marks : Below 8 m
  pub few : length l ≤ length L
  pub parts : parts_of i l m ≡ adapted (suc i) L
  pub size : length (parts_of i l m) ≡ length L

pub fronts : (i n w : ℕ) (L low mark at : List ℕ) → w ≡ 3 ^ i → Rising L → Below (3 ^ suc i) L
    → length L ≤ length low → length L ≤ length mark → Split w L n low mark at → Fronts i n L (take n low) (take n mark)
fronts i n w L low mark at e r l a b s = record {
  left = sym (length-take-le n low a');
  marked = sym (length-take-le n mark b');
  below = fronts_below i n L low mark at s' a' b';
  marks = fronts_marks i n L low mark at s' a' b';
  few = omega (arith, length-take-le n low a', s.few);
  parts = fronts_parts i n L low mark at s' a' b';
  size = ap length (fronts_parts i n L low mark at s' a' b') ∙ as_many (suc i) L r l;
}
  where
    s' : Split (3 ^ i) L n low mark at
    s' = subst (λ (x : ℕ). Split x L n low mark at) e s

    a' : n ≤ length low
    a' = omega (arith, s.few)

    b' : n ≤ length mark
    b' = omega (arith, s.few)
