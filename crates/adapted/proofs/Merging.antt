-- The merge of the three blocks of a rising list: the state of one block, one turn, and what is left at the end.
use mathlib.Core.Path.{◌≡◌, refl, sym, ap, ◌∙◌, subst}
use mathlib.Core.Bool.{Bool, true, false, cond}
use mathlib.Core.Logic.{◌⊎◌, inl, inr}
use mathlib.Core.List.{List, [], ◌∷◌}
use Prim.Native.Nat.{ℕ, zero, suc, ◌+◌, ◌*◌, ◌-◌, ◌%◌, ◌<◌, ◌≤◌, min}
use native.Mathlib.Omega.{arith}
use native.Mathlib.Decide.{ℕ_discrete, dec_lt}
use native.Mathlib.Nat.{add-zero, zero-add}
use native.Mathlib.Numerals.{add-one}
use borrow.Author.Tests.{lt-ltb, le-ltb, le-leb, lt-leb, eqb-true}
use lib.Dec.{eqb, leb}
use lib.Arith.{digits_mod}
use lib.ListN.{length, get_or, take, set, length-set, length-take}
use lib.Seq.{take-suc-set, get_or-take, get_or-set_same, get_or-set_other}
use Rattle.integers.proofs.Tests.{eqb_same, eqb_other}
use Rattle.signs.specs.Lists.{times, Below, Rising}
use Rattle.signs.specs.Bits.{bit_of}
use Rattle.adapted.specs.Split.{leading, head_of, marks_of, Split}
use Rattle.signs.proofs.Lists.{times-nil, times-one}
use Rattle.signs.proofs.Size.{rising-append}
use Rattle.signs.proofs.Positions.{stands_at, place_of, rising-at}

-- ---- blocks

-- the elements of L from `from` to `to` are those that are at least `base` and less than w above it
pub record Range (L : List ℕ) (w base from to : ℕ) : Type 0 where
  pub ordered : from ≤ to
  pub within : to ≤ length L
  pub low : (j : ℕ) → from ≤ j → j < to → base ≤ get_or L j 0
  pub high : (j : ℕ) → from ≤ j → j < to → get_or L j 0 < base + w
  pub after : (j : ℕ) → j < length L → base ≤ get_or L j 0 → from ≤ j
  pub before : (j : ℕ) → j < length L → get_or L j 0 < base + w → j < to

pub leading_le : (b : ℕ) (l : List ℕ) → leading b l ≤ length l
unfolding leading
leading_le b [] = omega arith
leading_le b (x ∷ l) = go (leb b x) (leading_le b l)
  where
    go : (t : Bool) → leading b l ≤ length l → cond t 0 (suc (leading b l)) ≤ suc (length l)
    go true h = omega arith
    go false h = omega arith

pub leading-below : (b : ℕ) (l : List ℕ) (j : ℕ) → j < leading b l → get_or l j 0 < b
unfolding leading
leading-below b [] j h = absurd (omega arith)
leading-below b (x ∷ l) zero h = go (dec_lt x b)
  where
    go : Dec (x < b) → x < b
    go (yes i) = i
    go (no i) = absurd (let k : 0 < 0 = (rw (le-leb b x (omega arith)) at h) in omega arith)
leading-below b (x ∷ l) (suc j) h = go (dec_lt x b) (leading-below b l j)
  where
    go : Dec (x < b) → (j < leading b l → get_or l j 0 < b) → get_or l j 0 < b
    go (yes i) f = f (let k : suc j < suc (leading b l) = (rw (lt-leb b x i) at h) in omega arith)
    go (no i) f = absurd (let k : suc j < 0 = (rw (le-leb b x (omega arith)) at h) in omega arith)

pub leading_from : (b : ℕ) (l : List ℕ) → Rising l → (j : ℕ) → leading b l ≤ j → j < length l → b ≤ get_or l j 0
unfolding leading Rising
leading_from b [] r j h i = absurd (omega arith)
leading_from b (x ∷ l) r j h i = go (dec_lt x b) j h i (leading_from b l r.1)
  where
    go : Dec (x < b) → (j : ℕ) → cond (leb b x) 0 (suc (leading b l)) ≤ j → j < suc (length l)
        → ((j : ℕ) → leading b l ≤ j → j < length l → b ≤ get_or l j 0) → b ≤ get_or (x ∷ l) j 0
    go (yes k) zero h i f = absurd (let m : suc (leading b l) ≤ 0 = (rw (lt-leb b x k) at h) in omega arith)
    go (yes k) (suc j) h i f = f j (let m : suc (leading b l) ≤ suc j = (rw (lt-leb b x k) at h) in omega arith) (omega arith)
    go (no k) zero h i f = omega arith
    go (no k) (suc j) h i f = omega (arith, r.0 (get_or l j 0) (stands_at l j (omega arith)))

-- the elements between two bounds, one w above the other
pub range : (L : List ℕ) (w base : ℕ) → Rising L → Range L w base (leading base L) (leading (base + w) L)
range L w base r =
    record {
      ordered = ordered;
      within = leading_le (base + w) L;
      low = λ j h i. leading_from base L r j h (omega (arith, leading_le (base + w) L));
      high = λ j h i. leading-below (base + w) L j i;
      after = λ j h i. later j h i (dec_lt j (leading base L));
      before = λ j h i. earlier j h i (dec_lt j (leading (base + w) L));
    }
  where
    ordered : leading base L ≤ leading (base + w) L
    ordered = go (dec_lt (leading (base + w) L) (leading base L))
      where
        go : Dec (leading (base + w) L < leading base L) → leading base L ≤ leading (base + w) L
        go (yes h) =
            absurd (omega (
              arith,
              leading-below base L (leading (base + w) L) h,
              leading_from (base + w) L r (leading (base + w) L) (omega arith) (omega (arith, leading_le base L)),
            ))
        go (no h) = omega arith

    later : (j : ℕ) → j < length L → base ≤ get_or L j 0 → Dec (j < leading base L) → leading base L ≤ j
    later j h i (yes k) = absurd (omega (arith, leading-below base L j k))
    later j h i (no k) = omega arith

    earlier : (j : ℕ) → j < length L → get_or L j 0 < base + w → Dec (j < leading (base + w) L) → j < leading (base + w) L
    earlier j h i (yes k) = k
    earlier j h i (no k) = absurd (omega (arith, leading_from (base + w) L r j (omega arith) h))

-- what is below 0 and what is below every bound
pub leading-zero : (l : List ℕ) → leading 0 l ≡ 0
unfolding leading
leading-zero [] = refl
leading-zero (x ∷ l) = rw (le-leb 0 x (omega arith)) refl

pub leading-all : (b : ℕ) (l : List ℕ) → Below b l → leading b l ≡ length l
unfolding leading Below
leading-all b [] h = refl
leading-all b (x ∷ l) h = rw (lt-leb b x h.0) (ap suc (leading-all b l h.1))

-- ---- the state of one block

-- the elements from `from` to k have been passed: they are less than t above the base, and noted; those from k to `to` have not
pub record Block (L : List ℕ) (base from to k t n : ℕ) (low at : List ℕ) : Type 0 where
  pub from_le : from ≤ k
  pub to_le : k ≤ to
  pub passed : (j : ℕ) → from ≤ j → j < k → get_or L j 0 < base + t
  pub left : (j : ℕ) → k ≤ j → j < to → base + t ≤ get_or L j 0
  pub noted : (j : ℕ) → from ≤ j → j < k → get_or at j 0 < n
  pub places : (j : ℕ) → from ≤ j → j < k → base + get_or low (get_or at j 0) 0 ≡ get_or L j 0

-- the next low part: of the element at k, or w where none is left
pub head_is : {L : List ℕ} {w base from to : ℕ} → Range L w base from to → (k x : ℕ) → from ≤ k → k ≤ to → x ≡ head_of L k to base w
    → ((k < to) × (get_or L k 0 ≡ base + x) × (x < w)) ⊎ ((k ≡ to) × (x ≡ w))
unfolding head_of
head_is {L} {w} {base} {from} {to} g k x h i e = go (dec_lt k to)
  where
    go : Dec (k < to) → ((k < to) × (get_or L k 0 ≡ base + x) × (x < w)) ⊎ ((k ≡ to) × (x ≡ w))
    go (yes b) =
        let e' : x ≡ get_or L k 0 - base = (rw (lt-ltb k to b) at e) in
        inl (b, omega (arith, g.low k h b), omega (arith, g.low k h b, g.high k h b))
    go (no b) = let e' : x ≡ w = (rw (le-ltb k to (omega arith)) at e) in inr (omega arith, e')

module _ {L : List ℕ} {w base from to : ℕ} (g : Range L w base from to) (r : Rising L)
    {k t n : ℕ} {low at : List ℕ} (s : Block L base from to k t n low at) (x : ℕ) (e : x ≡ head_of L k to base w) where
  -- it is no smaller than t
  pub head_from : t ≤ w → t ≤ x
  head_from h = go (head_is g k x s.from_le s.to_le e)
    where
      go : ((k < to) × (get_or L k 0 ≡ base + x) × (x < w)) ⊎ ((k ≡ to) × (x ≡ w)) → t ≤ x
      go (inl (a, b, c)) = omega (arith, s.left k (omega arith) a)
      go (inr (a, b)) = omega arith

  -- the elements left are no smaller than the next
  above : (q : ℕ) → q < x → (j : ℕ) → k ≤ j → j < to → base + suc q ≤ get_or L j 0
  above q h j a b = go (head_is g k x s.from_le s.to_le e) (ℕ_discrete k j)
    where
      go : ((k < to) × (get_or L k 0 ≡ base + x) × (x < w)) ⊎ ((k ≡ to) × (x ≡ w)) → Dec (k ≡ j) → base + suc q ≤ get_or L j 0
      go (inl (c, d, f)) (yes z) = rw (← z) (omega arith)
      go (inl (c, d, f)) (no z) = omega (arith, rising-at L r k j (omega arith) (omega (arith, g.within)))
      go (inr (c, d)) z = absurd (omega arith)

  -- q, the smallest low part left, stands with this sign exactly where it is the next
  pub stands : (q : ℕ) → t ≤ q → q ≤ x → q < w → min 1 (times (q + base) L) ≡ bit_of x q
  stands q h i b = go (ℕ_discrete x q) (dec_lt 0 (times (q + base) L))
    where
      go : Dec (x ≡ q) → Dec (0 < times (q + base) L) → min 1 (times (q + base) L) ≡ bit_of x q
      go (yes z) (yes m) = rw (z, eqb_same q) (omega arith)
      go (yes z) (no m) = absurd (m (there (head_is g k x s.from_le s.to_le e)))
        where
          there : ((k < to) × (get_or L k 0 ≡ base + x) × (x < w)) ⊎ ((k ≡ to) × (x ≡ w)) → 0 < times (q + base) L
          there (inl (c, d, f)) =
              let d' : get_or L k 0 ≡ q + base = omega arith in
              subst (λ (y : ℕ). 0 < times y L) d' (stands_at L k (omega (arith, g.within)))
          there (inr (c, d)) = absurd (omega arith)
      go (no z) (yes m) =
          let (j, c, d) = place_of (q + base) L m in
          absurd (other j c d (dec_lt j k) (g.after j c (omega arith)) (g.before j c (omega arith)))
        where
          other : (j : ℕ) → j < length L → get_or L j 0 ≡ q + base → Dec (j < k) → from ≤ j → j < to → ⊥
          other j c d (yes f) a o = omega (arith, s.passed j a f)
          other j c d (no f) a o = omega (arith, above q (omega arith) j (omega arith) o)
      go (no z) (no m) = rw (eqb_other x q z) (omega arith)

  pub next_left : (q : ℕ) → q < w → eqb x q ≡ true → k < to
  next_left q h o = go (head_is g k x s.from_le s.to_le e)
    where
      go : ((k < to) × (get_or L k 0 ≡ base + x) × (x < w)) ⊎ ((k ≡ to) × (x ≡ w)) → k < to
      go (inl (c, d, f)) = c
      go (inr (c, d)) = absurd (omega (arith, eqb-true x q o))

  -- a turn: q goes to low at n, and where it is the block's next it is noted
  pub block_turn : (q : ℕ) → t ≤ q → q ≤ x → q < w → n < length low → (k < to → k < length at)
      → Block L base from to (k + bit_of x q) (suc q) (suc n) (set low n q) (cond (eqb x q) (set at k n) at)
  block_turn q h i b room note = go (ℕ_discrete x q) (head_is g k x s.from_le s.to_le e)
    where
      kept : (j : ℕ) → from ≤ j → j < k → base + get_or (set low n q) (get_or at j 0) 0 ≡ get_or L j 0
      kept j a c = rw (get_or-set_other low n (get_or at j 0) q 0 (λ z. omega (arith, s.noted j a c))) (s.places j a c)

      go : Dec (x ≡ q) → ((k < to) × (get_or L k 0 ≡ base + x) × (x < w)) ⊎ ((k ≡ to) × (x ≡ w))
          → Block L base from to (k + bit_of x q) (suc q) (suc n) (set low n q) (cond (eqb x q) (set at k n) at)
      go (yes z) (inr (c, d)) = absurd (omega arith)
      go (no z) v =
          rw (eqb_other x q z, add-zero)
          (record {
            from_le = s.from_le;
            to_le = s.to_le;
            passed = λ j a c. omega (arith, s.passed j a c);
            left = λ j a c. above q (omega arith) j a c;
            noted = λ j a c. omega (arith, s.noted j a c);
            places = kept;
          })
      go (yes z) (inl (c, d, f)) =
          rw (z, eqb_same q)
          (record {
            from_le = omega (arith, s.from_le);
            to_le = omega arith;
            passed = λ j a o. passed j a (dec_lt j k) o;
            left = λ j a o. omega (arith, rising-at L r k j (omega arith) (omega (arith, g.within)));
            noted = λ j a o. noted j a (dec_lt j k) o;
            places = λ j a o. placed j a (dec_lt j k) o;
          })
        where
          passed : (j : ℕ) → from ≤ j → Dec (j < k) → j < k + 1 → get_or L j 0 < base + suc q
          passed j a (yes u) o = omega (arith, s.passed j a u)
          passed j a (no u) o = let v : j ≡ k = omega arith in rw v (omega arith)

          noted : (j : ℕ) → from ≤ j → Dec (j < k) → j < k + 1 → get_or (set at k n) j 0 < suc n
          noted j a (yes u) o = rw (get_or-set_other at k j n 0 (λ v. omega arith)) (omega (arith, s.noted j a u))
          noted j a (no u) o = let v : j ≡ k = omega arith in rw (v, get_or-set_same at k n 0 (note c)) (omega arith)

          placed : (j : ℕ) → from ≤ j → Dec (j < k) → j < k + 1 → base + get_or (set low n q) (get_or (set at k n) j 0) 0 ≡ get_or L j 0
          placed j a (yes u) o = rw (get_or-set_other at k j n 0 (λ v. omega arith)) (kept j a u)
          placed j a (no u) o =
              let v : j ≡ k = omega arith in
              rw (v, get_or-set_same at k n 0 (note c), get_or-set_same low n q 0 room) (omega arith)

-- a note outside a block leaves it
pub block-kept : {L : List ℕ} {base from to k t n : ℕ} {low at : List ℕ} → Block L base from to k t n low at
    → (b : Bool) (i v : ℕ) → (b ≡ true → (i < from) ⊎ (to ≤ i)) → Block L base from to k t n low (cond b (set at i v) at)
block-kept s false i v o = s
block-kept {from = from} {to = to} {k = k} {low = low} {at = at} s true i v o =
    record {
      from_le = s.from_le;
      to_le = s.to_le;
      passed = s.passed;
      left = s.left;
      noted = λ j a c. rw (same j a c) (s.noted j a c);
      places = λ j a c. rw (same j a c) (s.places j a c);
    }
  where
    same : (j : ℕ) → from ≤ j → j < k → get_or (set at i v) j 0 ≡ get_or at j 0
    same j a c = get_or-set_other at i j v 0 (λ e. away e (o refl))
      where
        away : j ≡ i → (i < from) ⊎ (to ≤ i) → ⊥
        away e (inl h) = omega arith
        away e (inr h) = omega (arith, s.to_le)

pub noted-length : (b : Bool) (at : List ℕ) (i v : ℕ) → length (cond b (set at i v) at) ≡ length at
noted-length true at i v = simp length-set
noted-length false at i v = refl

bit_same : (x q : ℕ) → x ≡ q → bit_of x q ≡ 1
bit_same x q e = rw (e, eqb_same q) refl

-- ---- the state of the merge

pub record Merged (L : List ℕ) (w mid top : ℕ) (low mark at : List ℕ) (a b c n t : ℕ) : Type 0 where
  pub bound : t ≤ w
  pub zero-block : Block L 0 0 mid a t n low at
  pub plus_block : Block L w mid top b t n low at
  pub minus-block : Block L (2 * w) top (length L) c t n low at
  pub count : n + mid + top ≤ a + b + c
  pub rising : Rising (take n low)
  pub below : (j : ℕ) → j < n → get_or low j 0 < t
  pub marks : (j : ℕ) → j < n → get_or mark j 0 ≡ marks_of w L (get_or low j 0)
  pub stood : (j : ℕ) → j < n → 0 < get_or mark j 0

no_block : (L : List ℕ) (base from to : ℕ) (low at : List ℕ) → from ≤ to → ((j : ℕ) → from ≤ j → j < to → base ≤ get_or L j 0)
    → Block L base from to from 0 0 low at
no_block L base from to low at h f =
    record {
      from_le = omega arith;
      to_le = h;
      passed = λ j a c. absurd (omega arith);
      left = λ j a c. omega (arith, f j a c);
      noted = λ j a c. absurd (omega arith);
      places = λ j a c. absurd (omega arith);
    }

module _ (L : List ℕ) (w mid top : ℕ) (r : Rising L) (below-3 : Below (3 * w) L) (em : mid ≡ leading w L)
    (et : top ≡ leading (2 * w) L) where
  pub zero_range : Range L w 0 0 mid
  zero_range = rw em (rw (leading-zero L, zero-add) at (range L w 0 r))

  pub plus_range : Range L w w mid top
  plus_range = rw (em, et, double) (range L w w r)
    where
      double : 2 * w ≡ w + w
      double = omega arith

  pub minus_range : Range L w (2 * w) top (length L)
  minus_range = rw (et, ← leading-all (3 * w) L below-3, triple) (range L w (2 * w) r)
    where
      triple : 3 * w ≡ 2 * w + w
      triple = omega arith

  pub merge_begins : (low mark at : List ℕ) → Merged L w mid top low mark at 0 mid top 0 0
  unfolding Rising
  merge_begins low mark at =
      record {
        bound = omega arith;
        zero-block = no_block L 0 0 mid low at (omega arith) zero_range.low;
        plus_block = no_block L w mid top low at plus_range.ordered plus_range.low;
        minus-block = no_block L (2 * w) top (length L) low at minus_range.ordered minus_range.low;
        count = omega arith;
        rising = tt;
        below = λ j h. absurd (omega arith);
        marks = λ j h. absurd (omega arith);
        stood = λ j h. absurd (omega arith);
      }

  module _ (low mark at : List ℕ) (a b c n t : ℕ) (s : Merged L w mid top low mark at a b c n t)
      (x y z q : ℕ) (ex : x ≡ head_of L a mid 0 w) (ey : y ≡ head_of L b top w w) (ez : z ≡ head_of L c (length L) (2 * w) w)
      (eq : q ≡ min x (min y z)) where
    from_t : t ≤ q
    from_t =
        omega (
          arith,
          head_from zero_range r s.zero-block x ex s.bound,
          head_from plus_range r s.plus_block y ey s.bound,
          head_from minus_range r s.minus-block z ez s.bound,
        )

    -- one more element is left, so there is room
    pub one_left : q < w → n < length L
    one_left h =
        go (head_is zero_range a x s.zero-block.from_le s.zero-block.to_le ex)
        (head_is plus_range b y s.plus_block.from_le s.plus_block.to_le ey)
        (head_is minus_range c z s.minus-block.from_le s.minus-block.to_le ez)
      where
        go : ((a < mid) × (get_or L a 0 ≡ 0 + x) × (x < w)) ⊎ ((a ≡ mid) × (x ≡ w))
            → ((b < top) × (get_or L b 0 ≡ w + y) × (y < w)) ⊎ ((b ≡ top) × (y ≡ w))
            → ((c < length L) × (get_or L c 0 ≡ 2 * w + z) × (z < w)) ⊎ ((c ≡ length L) × (z ≡ w)) → n < length L
        go (inl u) v o = omega (arith, s.count, s.plus_block.to_le, s.minus-block.to_le)
        go (inr u) (inl v) o = omega (arith, s.count, s.minus-block.to_le)
        go (inr u) (inr v) (inl o) = omega (arith, s.count)
        go (inr u) (inr v) (inr o) = absurd (omega arith)

    -- q is one of the three
    stood_one : 0 < bit_of x q + 2 * bit_of y q + 4 * bit_of z q
    stood_one = go (ℕ_discrete x q) (ℕ_discrete y q) (ℕ_discrete z q)
      where
        go : Dec (x ≡ q) → Dec (y ≡ q) → Dec (z ≡ q) → 0 < bit_of x q + 2 * bit_of y q + 4 * bit_of z q
        go (yes u) v o = omega (arith, bit_same x q u)
        go (no u) (yes v) o = omega (arith, bit_same y q v)
        go (no u) (no v) (yes o) = omega (arith, bit_same z q o)
        go (no u) (no v) (no o) = absurd (omega arith)

    module _ (m : ℕ) (h : q < w) (marked : m ≡ bit_of x q + 2 * bit_of y q + 4 * bit_of z q)
        (hl : length L ≤ length low) (hk : length L ≤ length mark) (ha : length L ≤ length at) where
      room : n < length low
      room = omega (arith, one_left h)

      mark_is : m ≡ marks_of w L q
      unfolding marks_of
      mark_is =
          omega (
            arith,
            marked,
            rw (add-zero) at (stands zero_range r s.zero-block x ex q from_t (omega arith) h),
            stands plus_range r s.plus_block y ey q from_t (omega arith) h,
            stands minus_range r s.minus-block z ez q from_t (omega arith) h,
          )

      rises : Rising (take (suc n) (set low n q))
      unfolding Rising
      rises =
          rw (take-suc-set low n q room)
          (rising-append (take n low) (q ∷ []) s.rising (λ y' k. absurd (omega (arith, times-nil y')), tt)
          (λ u v i k. under u i (times-one v q k)))
        where
          under : (u : ℕ) {v : ℕ} → 0 < times u (take n low) → v ≡ q → u < v
          under u i e =
              let (j, d, f) = place_of u (take n low) i in
              let b' : j < n = omega (arith, length-take n low) in
              omega (arith, s.below j b', get_or-take n low j 0 b', from_t)

      -- what holds of the first n, and of the one that is added
      added : (P : ℕ → ℕ → Type 0) → ((j : ℕ) → j < n → P (get_or low j 0) (get_or mark j 0)) → P q m
          → (j : ℕ) → j < suc n → P (get_or (set low n q) j 0) (get_or (set mark n m) j 0)
      added P f p j i = go (dec_lt j n)
        where
          go : Dec (j < n) → P (get_or (set low n q) j 0) (get_or (set mark n m) j 0)
          go (yes k) =
              rw (get_or-set_other low n j q 0 (λ e. omega arith), get_or-set_other mark n j m 0 (λ e. omega arith)) (f j k)
          go (no k) =
              let e : j ≡ n = omega arith in
              rw (e, get_or-set_same low n q 0 room, get_or-set_same mark n m 0 (omega (arith, one_left h))) p

      at₁ : List ℕ
      at₁ = cond (eqb x q) (set at a n) at

      at₂ : List ℕ
      at₂ = cond (eqb y q) (set at₁ b n) at₁

      at₃ : List ℕ
      at₃ = cond (eqb z q) (set at₂ c n) at₂

      zero-after : Block L 0 0 mid (a + bit_of x q) (suc q) (suc n) (set low n q) at₃
      unfolding at₁ at₂ at₃
      zero-after =
          block-kept
          (block-kept
          (block_turn zero_range r s.zero-block x ex q from_t (omega arith) h room (λ i. omega (arith, zero_range.within)))
          (eqb y q) b n (λ o. inr s.plus_block.from_le))
          (eqb z q) c n (λ o. inr (omega (arith, s.minus-block.from_le, plus_range.ordered)))

      plus_after : Block L w mid top (b + bit_of y q) (suc q) (suc n) (set low n q) at₃
      unfolding at₁ at₂ at₃
      plus_after =
          block-kept
          (block_turn plus_range r
          (block-kept s.plus_block (eqb x q) a n (λ o. inl (next_left zero_range r s.zero-block x ex q h o)))
          y ey q from_t (omega arith) h room (λ i. omega (arith, noted-length (eqb x q) at a n, plus_range.within)))
          (eqb z q) c n (λ o. inr s.minus-block.from_le)

      minus-after : Block L (2 * w) top (length L) (c + bit_of z q) (suc q) (suc n) (set low n q) at₃
      unfolding at₁ at₂ at₃
      minus-after =
          block_turn minus_range r
          (block-kept
          (block-kept s.minus-block (eqb x q) a n
          (λ o. inl (omega (arith, next_left zero_range r s.zero-block x ex q h o, plus_range.ordered))))
          (eqb y q) b n (λ o. inl (next_left plus_range r s.plus_block y ey q h o)))
          z ez q from_t (omega arith) h room (λ i. omega (arith, noted-length (eqb y q) at₁ b n, noted-length (eqb x q) at a n))

      -- a turn
      turned_suc : Merged L w mid top (set low n q) (set mark n m) at₃ (a + bit_of x q) (b + bit_of y q) (c + bit_of z q) (suc n) (suc q)
      turned_suc =
          record {
            bound = h;
            zero-block = zero-after;
            plus_block = plus_after;
            minus-block = minus-after;
            count = omega (arith, s.count, stood_one);
            rising = rises;
            below = added (λ u v. u < suc q) (λ j i. omega (arith, s.below j i, from_t)) (omega arith);
            marks = added (λ u v. v ≡ marks_of w L u) s.marks mark_is;
            stood = added (λ u v. 0 < v) s.stood (omega (arith, stood_one));
          }

      pub turned : (A₁ A₂ A₃ : List ℕ) → A₁ ≡ cond (eqb x q) (set at a n) at → A₂ ≡ cond (eqb y q) (set A₁ b n) A₁
          → A₃ ≡ cond (eqb z q) (set A₂ c n) A₂
          → Merged L w mid top (set low n q) (set mark n m) A₃ (a + bit_of x q) (b + bit_of y q) (c + bit_of z q) (n + 1) (suc q)
      unfolding at₁ at₂ at₃
      turned A₁ A₂ A₃ e₁ e₂ e₃ =
          let f₂ : A₂ ≡ at₂ = e₂ ∙ ap (λ (l : List ℕ). cond (eqb y q) (set l b n) l) e₁ in
          let f₃ : A₃ ≡ at₃ = e₃ ∙ ap (λ (l : List ℕ). cond (eqb z q) (set l c n) l) f₂ in
          rw (f₃, add-one) turned_suc

      -- it passes an element
      pub further : (a + b + c < (a + bit_of x q) + (b + bit_of y q) + (c + bit_of z q))
          × ((a + bit_of x q) + (b + bit_of y q) + (c + bit_of z q) ≤ mid + top + length L)
      further = (omega (arith, stood_one), omega (arith, zero-after.to_le, plus_after.to_le, minus-after.to_le))

    -- the end: no element is left
    pub merged : w ≤ q → Split w L n low mark at
    merged h =
        go (head_is zero_range a x s.zero-block.from_le s.zero-block.to_le ex)
        (head_is plus_range b y s.plus_block.from_le s.plus_block.to_le ey)
        (head_is minus_range c z s.minus-block.from_le s.minus-block.to_le ez)
      where
        go : ((a < mid) × (get_or L a 0 ≡ 0 + x) × (x < w)) ⊎ ((a ≡ mid) × (x ≡ w))
            → ((b < top) × (get_or L b 0 ≡ w + y) × (y < w)) ⊎ ((b ≡ top) × (y ≡ w))
            → ((c < length L) × (get_or L c 0 ≡ 2 * w + z) × (z < w)) ⊎ ((c ≡ length L) × (z ≡ w)) → Split w L n low mark at
        go (inl u) v o = absurd (omega arith)
        go (inr u) (inl v) o = absurd (omega arith)
        go (inr u) (inr v) (inl o) = absurd (omega arith)
        go (inr (u, u')) (inr (v, v')) (inr (o, o')) =
            record {
              few = omega (arith, s.count);
              rising = s.rising;
              below = λ j i. omega (arith, s.below j i, s.bound);
              marks = s.marks;
              stands = s.stood;
              noted = λ k i. (found k i (dec_lt k mid) (dec_lt k top)).0;
              places = λ k i. (found k i (dec_lt k mid) (dec_lt k top)).1;
            }
          where
            low_part : (base d k : ℕ) → base ≡ d * w → base + get_or low (get_or at k 0) 0 ≡ get_or L k 0 → get_or at k 0 < n
                → get_or low (get_or at k 0) 0 ≡ get_or L k 0 % w
            low_part base d k e f i =
                let f' : d * w + get_or low (get_or at k 0) 0 ≡ get_or L k 0 = omega arith in
                let b' : get_or low (get_or at k 0) 0 < w = omega (arith, s.below (get_or at k 0) i, s.bound) in
                sym (rw f' at (digits_mod d b'))

            found : (k : ℕ) → k < length L → Dec (k < mid) → Dec (k < top) → (get_or at k 0 < n)
                × (get_or low (get_or at k 0) 0 ≡ get_or L k 0 % w)
            found k i (yes d) f =
                let j = s.zero-block.noted k (omega arith) (omega arith) in
                (j, low_part 0 0 k (omega arith) (s.zero-block.places k (omega arith) (omega arith)) j)
            found k i (no d) (yes f) =
                let j = s.plus_block.noted k (omega arith) (omega arith) in
                (j, low_part w 1 k (omega arith) (s.plus_block.places k (omega arith) (omega arith)) j)
            found k i (no d) (no f) =
                let j = s.minus-block.noted k (omega arith) (omega arith) in
                (j, low_part (2 * w) 2 k (omega arith) (s.minus-block.places k (omega arith) (omega arith)) j)
