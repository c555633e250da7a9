-- Theorem: each number that refuses degrees, coefficients and points is given exactly for its cause, in the wish's order (`Refuses`).
-- The causes are seven ways (`Way`), each of which gives its number; one of them there always is.
use mathlib.Core.Path.{◌≡◌, refl, sym, ◌∙◌, subst}
use mathlib.Core.Bool.{Bool, true, false, not, ◌||◌, ◌&&◌, true≢false}
use mathlib.Core.Logic.Iff
use mathlib.Core.Logic.{◌↔◌}
use mathlib.Core.List.{List, [], ◌∷◌}
use Prim.Native.Nat.{ℕ, zero, suc, ◌+◌, ◌≤◌, ◌<◌}
use native.Mathlib.Omega.{arith}
use borrow.Author.Tests.{ltb-false, lt-ltb, le-ltb, eq-eqb, ne_eqb}
use lib.Dec.{ltb, eqb}
use lib.IntN.{ℤ, pos, negsuc, nat_abs}
use lib.ListN.{length, get_or, take, drop}
use lib.Signed.{◌≤ℤ◌}
use Rattle.integers.proofs.Parts.{int}
use Rattle.refusals.specs.Numbers.{is_among, ◌when◌, ◌▸◌}
use Rattle.integers.specs.Search.{outside}
use Rattle.integers.proofs.Search.{or_false, left_false, right_false}
use Rattle.refusals.proofs.Causes.{is_equal}
use Rattle.card_bytes.specs.Bytes.{wanted}
use Rattle.card_bytes.specs.Causes.{some, below, wrong_points, polynomial_cause, polynomials_cause, write_cause}
use Rattle.card_bytes.specs.Lists.{part}
use Rattle.card_bytes.specs.Claim.{Counted, Low, Fitting, Small, Topped, GoodTo, Rising, Writable, Refuses}

-- ---- a test that fails exactly where P holds: it holds where P does not, and decides P

holds : {P : Type 0} {t : Bool} → (t ≡ false) ↔ P → (P → ⊥) → t ≡ true
holds {t = true} w n = refl
holds {t = false} w n = absurd (n (w.0 refl))

decides : {P : Type 0} {t : Bool} → (t ≡ false) ↔ P → Dec P
decides {t = true} w = no (λ p. true≢false (w.1 p))
decides {t = false} w = yes (w.0 refl)

or_words : {P Q : Type 0} {a b : Bool} → (a ≡ false) ↔ P → (b ≡ false) ↔ Q → ((a || b) ≡ false) ↔ (P × Q)
or_words {a} {b} v w =
    (λ e. (v.0 (left_false a b e), w.0 (right_false a b e)), λ p. or_false a b (v.1 p.0) (w.1 p.1))

most_words : (b n : ℕ) → (ltb b n ≡ false) ↔ (n ≤ b)
most_words b n = (ltb-false b n, le-ltb b n)

-- ---- the tests in words

-- P holds of 0, and of the number after each below n: of each below n + 1
each_words : (P : ℕ → Type 0) (n : ℕ) → (P 0 × ((i : ℕ) → i < n → P (suc i))) ↔ ((i : ℕ) → i < suc n → P i)
each_words P n = (each, λ p. (p 0 (omega arith), λ i h. p (suc i) (omega arith)))
  where
    each : P 0 × ((i : ℕ) → i < n → P (suc i)) → (i : ℕ) → i < suc n → P i
    each p zero h = p.0
    each p (suc i) h = p.1 i (omega arith)

pub some_words : {A : Type 0} (g : A → ℕ) (b : ℕ) (z : A) (l : List A)
    → (some (λ x. ltb b (g x)) l ≡ false) ↔ ((i : ℕ) → i < length l → g (get_or l i z) ≤ b)
unfolding some
some_words g b z [] = (λ e i h. absurd (omega arith), λ p. refl)
some_words g b z (x ∷ l) =
    Iff.trans (or_words (most_words b (g x)) (some_words g b z l)) (each_words (λ i. g (get_or (x ∷ l) i z) ≤ b) (length l))

low_words : (ds : List ℕ) → (some (ltb 6) ds ≡ false) ↔ Low ds
low_words = some_words (λ d. d) 6 0

pub small_words : (l : List ℤ) → (some (outside 1000000) l ≡ false) ↔ Small l
small_words = some_words nat_abs 1000000 (pos 0)

top_words : (d : ℕ) (z : ℤ) → ((ltb 0 d && eqb (nat_abs z) 0) ≡ false) ↔ (z ≡ pos 0 → d ≡ 0)
top_words zero z = (λ e q. refl, λ p. refl)
top_words (suc d) z = rw (lt-ltb 0 (suc d) (omega arith)) (zero_words z)
  where
    zero_words : (z : ℤ) → (eqb (nat_abs z) 0 ≡ false) ↔ (z ≡ pos 0 → suc d ≡ 0)
    zero_words (pos zero) = (λ e. absurd (true≢false e), λ p. absurd (let x = p refl in omega arith))
    zero_words (pos (suc n)) = (λ e q. absurd (omega int), λ p. ne_eqb (suc n) 0 (λ q. omega arith))
    zero_words (negsuc n) = (λ e q. absurd (omega int), λ p. ne_eqb (suc n) 0 (λ q. omega arith))

below_words : (x : ℤ) (l : List ℤ) → (below x l ≡ false) ↔ (0 < length l → x ≤ℤ get_or l 0 (pos 0))
unfolding below
below_words x [] = (λ e h. absurd (omega arith), λ p. refl)
below_words x (y ∷ l) = (λ e h. omega int, λ p. let q = p (omega arith) in omega int)

pub rising_words : (ps : List ℤ) → (wrong_points ps ≡ false) ↔ Rising ps
unfolding wrong_points
rising_words [] = (λ e. record { limits = λ k h. absurd (omega arith); rising = λ k h. absurd (omega arith) }, λ p. refl)
rising_words (x ∷ l) =
    Iff.trans (or_words (most_words 100 (nat_abs x)) (or_words (below_words x l) (rising_words l))) (
      λ p. record {
        limits = (each_words (λ k. nat_abs (get_or (x ∷ l) k (pos 0)) ≤ 100) (length l)).0 (p.0, p.1.1.limits);
        rising = steps p.1.0 p.1.1;
      },
      λ r. (
        r.limits 0 (omega arith),
        (
          λ h. r.rising 0 (omega arith),
          record { limits = λ k h. r.limits (suc k) (omega arith); rising = λ k h. r.rising (suc k) (omega arith) },
        ),
      ),
    )
  where
    steps : (0 < length l → x ≤ℤ get_or l 0 (pos 0)) → Rising l
        → (k : ℕ) → suc k < suc (length l) → get_or (x ∷ l) k (pos 0) ≤ℤ get_or l k (pos 0)
    steps s r zero h = s (omega arith)
    steps s r (suc k) h = r.rising k (omega arith)

counted_words : (ds : List ℕ) (ps : List ℤ)
    → (((ltb (length ds) 1 || ltb 8 (length ds)) || ltb 64 (length ps)) ≡ false) ↔ Counted ds ps
counted_words ds ps =
    Iff.trans (or_words (or_words (most_words (length ds) 1) (most_words 8 (length ds))) (most_words 64 (length ps))) (
      λ p. record { s_least = p.0.0; s_most = p.0.1; n_most = p.1 },
      λ c. ((c.s_least, c.s_most), c.n_most),
    )

long_words : (a b : ℕ) → (not (eqb a b) ≡ false) ↔ (a ≡ b)
long_words a b = (is_equal a b, λ e. rw (eq-eqb a b e))

-- ---- the polynomials

-- the first wrong polynomial has a large coefficient, or a top one of 0
abbrev Large : List ℕ → List ℤ → Type 0
Large ds cs = (j : ℕ) × (j < length ds) × GoodTo ds cs j × (Small (part ds cs j) → ⊥)

abbrev Topless : List ℕ → List ℤ → Type 0
Topless ds cs =
    (j : ℕ) × (j < length ds) × GoodTo ds cs j × Small (part ds cs j) × (Topped (get_or ds j 0) (part ds cs j) → ⊥)

-- the three ways of the polynomials, each with its number
data Found (ds : List ℕ) (cs : List ℤ) : ℕ → Type 0 where
  large : Large ds cs → Found ds cs 5
  topless : Topless ds cs → Found ds cs 17
  good : GoodTo ds cs (length ds) → Found ds cs 0

-- one polynomial
module _ (d : ℕ) (l : List ℤ) where
  large_gives : (Small l → ⊥) → polynomial_cause d l ≡ 5
  unfolding polynomial_cause
  large_gives n = rw (holds (small_words l) n)

  topless_gives : Small l → (Topped d l → ⊥) → polynomial_cause d l ≡ 17
  unfolding polynomial_cause
  topless_gives s n = rw ((small_words l).1 s, holds (top_words d (get_or l d (pos 0))) n)

  good-gives : Small l → Topped d l → polynomial_cause d l ≡ 0
  unfolding polynomial_cause
  good-gives s t = rw ((small_words l).1 s, (top_words d (get_or l d (pos 0))).1 t)

-- the first polynomial, where it is right, and those after it
module _ (d : ℕ) (ds : List ℕ) (cs : List ℤ) (j : ℕ) where
  good_words : ((Small (take (d + 1) cs) × Topped d (take (d + 1) cs)) × GoodTo ds (drop (d + 1) cs) j) ↔ GoodTo (d ∷ ds) cs (suc j)
  unfolding part
  good_words = each_words (λ i. Small (part (d ∷ ds) cs i) × Topped (get_or (d ∷ ds) i 0) (part (d ∷ ds) cs i)) j

  rest_gives : {m : ℕ} → GoodTo (d ∷ ds) cs (suc j) → polynomials_cause ds (drop (d + 1) cs) ≡ m → polynomials_cause (d ∷ ds) cs ≡ m
  unfolding polynomials_cause
  rest_gives g e = let (s, t) = (good_words.1 g).0 in rw (good-gives d (take (d + 1) cs) s t) e

found-gives : (ds : List ℕ) (cs : List ℤ) {m : ℕ} → Found ds cs m → polynomials_cause ds cs ≡ m
unfolding polynomials_cause part
found-gives [] cs (large (j, h, g, n)) = absurd (omega arith)
found-gives [] cs (topless (j, h, g, s, n)) = absurd (omega arith)
found-gives [] cs (good g) = refl
found-gives (d ∷ ds) cs (large (zero, h, g, n)) = rw (large_gives d (take (d + 1) cs) n)
found-gives (d ∷ ds) cs (large (suc j, h, g, n)) =
    rest_gives d ds cs j g (found-gives ds (drop (d + 1) cs) (large (j, omega arith, ((good_words d ds cs j).1 g).1, n)))
found-gives (d ∷ ds) cs (topless (zero, h, g, s, n)) = rw (topless_gives d (take (d + 1) cs) s n)
found-gives (d ∷ ds) cs (topless (suc j, h, g, s, n)) =
    rest_gives d ds cs j g (found-gives ds (drop (d + 1) cs) (topless (j, omega arith, ((good_words d ds cs j).1 g).1, s, n)))
found-gives (d ∷ ds) cs (good g) =
    rest_gives d ds cs (length ds) g (found-gives ds (drop (d + 1) cs) (good ((good_words d ds cs (length ds)).1 g).1))

found : (ds : List ℕ) (cs : List ℤ) → (m : ℕ) × Found ds cs m
unfolding part
found [] cs = (0, good (λ i h. absurd (omega arith)))
found (d ∷ ds) cs =
    let l = take (d + 1) cs in
    by (decides (small_words l)) (decides (top_words d (get_or l d (pos 0)))) (found ds (drop (d + 1) cs))
  where
    by : Dec (Small (take (d + 1) cs)) → Dec (Topped d (take (d + 1) cs)) → (m : ℕ) × Found ds (drop (d + 1) cs) m
        → (m : ℕ) × Found (d ∷ ds) cs m
    by (no n) t r = (5, large (0, omega arith, λ i h. absurd (omega arith), n))
    by (yes s) (no n) r = (17, topless (0, omega arith, λ i h. absurd (omega arith), s, n))
    by (yes s) (yes t) (m, large (j, h, g, n)) = (5, large (suc j, omega arith, (good_words d ds cs j).0 ((s, t), g), n))
    by (yes s) (yes t) (m, topless (j, h, g, u, n)) = (17, topless (suc j, omega arith, (good_words d ds cs j).0 ((s, t), g), u, n))
    by (yes s) (yes t) (m, good g) = (0, good ((good_words d ds cs (length ds)).0 ((s, t), g)))

-- ---- all

-- s and n are one cause
one-count : (a b : Bool) (r : ℕ) → (3 when a ▸ 3 when b ▸ r) ≡ (3 when (a || b) ▸ r)
one-count true b r = refl
one-count false b r = refl

module _ (ds : List ℕ) (cs ps : List ℤ) where
  -- the seven ways, each with its number
  data Way : ℕ → Type 0 where
    by_3 : (Counted ds ps → ⊥) → Way 3
    by_16 : Counted ds ps × (Low ds → ⊥) → Way 16
    by_1 : Counted ds ps × Low ds × (length cs ≡ wanted ds → ⊥) → Way 1
    by_5 : Fitting ds cs ps × Large ds cs → Way 5
    by_17 : Fitting ds cs ps × Topless ds cs → Way 17
    by_6 : Fitting ds cs ps × GoodTo ds cs (length ds) × (Rising ps → ⊥) → Way 6
    by_0 : Writable ds cs ps → Way 0

  abbrev after_counts : ℕ
  after_counts =
      16 when some (ltb 6) ds ▸ 1 when not (eqb (length cs) (wanted ds)) ▸ polynomials_cause ds cs ▸ 6 when wrong_points ps

  count-first : write_cause ds cs ps ≡ (3 when ((ltb (length ds) 1 || ltb 8 (length ds)) || ltb 64 (length ps)) ▸ after_counts)
  unfolding write_cause
  count-first = one-count (ltb (length ds) 1 || ltb 8 (length ds)) (ltb 64 (length ps)) after_counts

  -- ---- each way gives its number

  counted-gives : Counted ds ps → write_cause ds cs ps ≡ after_counts
  counted-gives c = count-first ∙ rw ((counted_words ds ps).1 c)

  fitting-gives : Fitting ds cs ps → write_cause ds cs ps ≡ (polynomials_cause ds cs ▸ 6 when wrong_points ps)
  fitting-gives f =
      counted-gives f.counted ∙ rw ((low_words ds).1 f.low, (long_words (length cs) (wanted ds)).1 f.long)

  way_gives : {m : ℕ} → Way m → write_cause ds cs ps ≡ m
  way_gives (by_3 n) = count-first ∙ rw (holds (counted_words ds ps) n)
  way_gives (by_16 (c, n)) = counted-gives c ∙ rw (holds (low_words ds) n)
  way_gives (by_1 (c, l, n)) = counted-gives c ∙ rw ((low_words ds).1 l, holds (long_words (length cs) (wanted ds)) n)
  way_gives (by_5 (f, w)) = fitting-gives f ∙ rw (found-gives ds cs (large w))
  way_gives (by_17 (f, w)) = fitting-gives f ∙ rw (found-gives ds cs (topless w))
  way_gives (by_6 (f, g, n)) = fitting-gives f ∙ rw (found-gives ds cs (good g), holds (rising_words ps) n)
  way_gives (by_0 w) =
      fitting-gives w.fitting ∙ rw (found-gives ds cs (good w.good), (rising_words ps).1 w.points)

  -- ---- one of the ways there is

  fitting_way : Fitting ds cs ps → (m : ℕ) × Found ds cs m → Dec (Rising ps) → (m : ℕ) × Way m
  fitting_way f (m, large w) r = (5, by_5 (f, w))
  fitting_way f (m, topless w) r = (17, by_17 (f, w))
  fitting_way f (m, good g) (no n) = (6, by_6 (f, g, n))
  fitting_way f (m, good g) (yes p) = (0, by_0 (record { fitting = f; good = g; points = p }))

  some_way : Dec (Counted ds ps) → Dec (Low ds) → Dec (length cs ≡ wanted ds) → (m : ℕ) × Way m
  some_way (no n) l e = (3, by_3 n)
  some_way (yes c) (no n) e = (16, by_16 (c, n))
  some_way (yes c) (yes l) (no n) = (1, by_1 (c, l, n))
  some_way (yes c) (yes l) (yes e) =
      fitting_way (record { counted = c; low = l; long = e }) (found ds cs) (decides (rising_words ps))

  way : Way (write_cause ds cs ps)
  way =
      given
      (some_way (decides (counted_words ds ps)) (decides (low_words ds)) (decides (long_words (length cs) (wanted ds))))
    where
      given : (m : ℕ) × Way m → Way (write_cause ds cs ps)
      given (m, w) = subst Way (sym (way_gives w)) w

  -- ---- the cause of each way, by its number

  cause-3 : Way 3 → Counted ds ps → ⊥
  cause-3 (by_3 c) = c

  cause-16 : Way 16 → Counted ds ps × (Low ds → ⊥)
  cause-16 (by_16 c) = c

  cause-1 : Way 1 → Counted ds ps × Low ds × (length cs ≡ wanted ds → ⊥)
  cause-1 (by_1 c) = c

  cause_5 : Way 5 → Fitting ds cs ps × Large ds cs
  cause_5 (by_5 c) = c

  cause-17 : Way 17 → Fitting ds cs ps × Topless ds cs
  cause-17 (by_17 c) = c

  cause-6 : Way 6 → Fitting ds cs ps × GoodTo ds cs (length ds) × (Rising ps → ⊥)
  cause-6 (by_6 c) = c

  cause-0 : Way 0 → Writable ds cs ps
  cause-0 (by_0 c) = c

  no_other_way : {m : ℕ} → Way m → is_among m (0 ∷ 1 ∷ 3 ∷ 5 ∷ 6 ∷ 16 ∷ 17 ∷ []) ≡ true
  unfolding is_among
  no_other_way (by_3 c) = refl
  no_other_way (by_16 c) = refl
  no_other_way (by_1 c) = refl
  no_other_way (by_5 c) = refl
  no_other_way (by_17 c) = refl
  no_other_way (by_6 c) = refl
  no_other_way (by_0 c) = refl

  -- ---- the claim

  exactly : {R : Type 0} {k : ℕ} → (Way k → R) → (R → Way k) → (write_cause ds cs ps ≡ k) ↔ R
  exactly f g = (λ e. f (subst Way e way), λ r. way_gives (g r))

  pub refuses : Refuses ds cs ps (write_cause ds cs ps)
  refuses = record {
    is_3 = exactly cause-3 by_3;
    is_16 = exactly cause-16 by_16;
    is_1 = exactly cause-1 by_1;
    is_5 = exactly (λ w. let (f, (j, h, g, n)) = cause_5 w in (f, j, h, g, n)) (λ (f, j, h, g, n). by_5 (f, (j, h, g, n)));
    is_17 =
        exactly (λ w. let (f, (j, h, g, s, n)) = cause-17 w in (f, j, h, g, s, n))
        (λ (f, j, h, g, s, n). by_17 (f, (j, h, g, s, n)));
    is_6 = exactly cause-6 by_6;
    is_0 = exactly cause-0 by_0;
    no_other = record { stands = no_other_way way };
  }
