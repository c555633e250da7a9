-- Rows and counts: rows are fixed by their counts, and every count function has rows.
use mathlib.Core.Path.{◌≡◌, refl, sym, ap, ap₂, ◌∙◌}
use mathlib.Core.Logic.{◌≢◌}
use mathlib.Core.List.{List, [], ◌∷◌, ◌++◌}
use Prim.Native.Nat.{ℕ, zero, suc, ◌+◌, ◌^◌, ◌<◌, ◌≤◌}
use native.Mathlib.Omega.{arith}
use native.Mathlib.Decide.{ℕ_discrete, dec_lt}
use lib.ListN.{length, replicate}
use Rattle.signs.specs.Lists.{times, Below, Rising}
use Rattle.signs.proofs.Lists.{times-nil, times-same, times_other, times-one, times-append}
use Rattle.signs.proofs.Size.{below_under, rising-append}
use Rattle.rounds.specs.Rows.{Row, patterns, repeated, Positive, IsRows, row_if, rows_of}

-- a number that is not above 0 is 0
pub zero-unless : (n : ℕ) → (0 < n → ⊥) → n ≡ 0
zero-unless zero h = refl
zero-unless (suc n) h = absurd (h (omega arith))

-- one number stands once in a list of its own
pub times_single : (α x : ℕ) → times α (x ∷ []) ≤ 1
times_single α x = go (ℕ_discrete α x)
  where
    go : Dec (α ≡ x) → times α (x ∷ []) ≤ 1
    go (yes e) = rw e (omega (arith, times-same x [], times-nil x))
    go (no e) = omega (arith, times_other α x [] e, times-nil α)

times-replicate-same : (q k : ℕ) → times q (replicate k q) ≡ k
times-replicate-same q zero = times-nil q
times-replicate-same q (suc k) = times-same q (replicate k q) ∙ ap suc (times-replicate-same q k)

times-replicate_other : (q x k : ℕ) → q ≢ x → times q (replicate k x) ≡ 0
times-replicate_other q x zero h = times-nil q
times-replicate_other q x (suc k) h = times_other q x (replicate k x) h ∙ times-replicate_other q x k h

-- the count of the first row's pattern, and of any other
pub points-same : (r : Row) (R : List Row) → times r.pattern (repeated (r ∷ R)) ≡ r.count + times r.pattern (repeated R)
unfolding repeated
points-same r R =
    omega (arith, times-append r.pattern (replicate r.count r.pattern) (repeated R), times-replicate-same r.pattern r.count)

pub points_other : (q : ℕ) (r : Row) (R : List Row) → q ≢ r.pattern → times q (repeated (r ∷ R)) ≡ times q (repeated R)
unfolding repeated
points_other q r R h =
    omega (arith, times-append q (replicate r.count r.pattern) (repeated R), times-replicate_other q r.pattern r.count h)

-- what has a count stands among the patterns
pub points_in : (q : ℕ) (R : List Row) → 0 < times q (repeated R) → 0 < times q (patterns R)
unfolding patterns
points_in q [] h = unfold repeated in h
points_in q (r ∷ R) h = go (ℕ_discrete q r.pattern) (points_in q R)
  where
    go : Dec (q ≡ r.pattern) → (0 < times q (repeated R) → 0 < times q (patterns R)) → 0 < times q (r.pattern ∷ patterns R)
    go (yes e) ih = rw e (omega (arith, times-same r.pattern (patterns R)))
    go (no e) ih = omega (arith, points_other q r R e, times_other q r.pattern (patterns R) e, ih (omega (arith, points_other q r R e)))

pub patterns_in : (q : ℕ) (R : List Row) → Positive R → 0 < times q (patterns R) → 0 < times q (repeated R)
unfolding patterns Positive
patterns_in q [] p h = unfold repeated in h
patterns_in q (r ∷ R) p h = go (ℕ_discrete q r.pattern) (patterns_in q R p.1)
  where
    go : Dec (q ≡ r.pattern) → (0 < times q (patterns R) → 0 < times q (repeated R)) → 0 < times q (repeated (r ∷ R))
    go (yes e) ih = rw e (omega (arith, points-same r R, p.0))
    go (no e) ih =
        omega (arith, points_other q r R e, ih (omega (arith, times_other q r.pattern (patterns R) e)))

-- so where there is no pattern there is no count, and the other way round
pub no_count : (R : List Row) (q : ℕ) → times q (patterns R) ≡ 0 → times q (repeated R) ≡ 0
no_count R q e = zero-unless (times q (repeated R)) (λ h. let k : 0 < times q (patterns R) = points_in q R h in omega arith)

pub no_pattern : (R : List Row) (q : ℕ) → Positive R → times q (repeated R) ≡ 0 → times q (patterns R) ≡ 0
no_pattern R q p e = zero-unless (times q (patterns R)) (λ h. let k : 0 < times q (repeated R) = patterns_in q R p h in omega arith)

-- ---- rows are fixed by their counts

-- no count at or below the first pattern in what comes after it
fresh : (r : Row) (R : List Row) → Rising (patterns (r ∷ R)) → (q : ℕ) → q ≤ r.pattern → times q (repeated R) ≡ 0
unfolding patterns Rising
fresh r R u q h = zero-unless (times q (repeated R)) (λ k. no_lt (u.0 q (points_in q R k)))
  where
    no_lt : r.pattern < q → ⊥
    no_lt k = omega arith

pub no_points : (q : ℕ) → times q (repeated []) ≡ 0
unfolding repeated
no_points q = times-nil q

rest : (r : Row) (R : List Row) → Rising (patterns (r ∷ R)) → Rising (patterns R)
unfolding patterns Rising
rest r R u = u.1

pub rows_ext : (R R' : List Row) → Rising (patterns R) → Positive R → Rising (patterns R') → Positive R'
    → ((q : ℕ) → times q (repeated R) ≡ times q (repeated R')) → R ≡ R'
unfolding Positive
rows_ext [] [] u p u' p' e = refl
rows_ext [] (r ∷ R) u p u' p' e = absurd (omega (arith, e r.pattern, no_points r.pattern, points-same r R, p'.0))
rows_ext (r ∷ R) [] u p u' p' e = absurd (omega (arith, e r.pattern, no_points r.pattern, points-same r R, p.0))
rows_ext (r ∷ R) (r' ∷ R') u p u' p' e =
    ap₂ ◌∷◌ (λ i. record { pattern = same_pattern i; count = same_count i })
    (rows_ext R R' (rest r R u) p.1 (rest r' R' u') p'.1 tails)
  where
    x : ℕ
    x = r.pattern

    x' : ℕ
    x' = r'.pattern

    same_pattern : r.pattern ≡ r'.pattern
    same_pattern = go (dec_lt x x') (dec_lt x' x)
      where
        go : Dec (x < x') → Dec (x' < x) → x ≡ x'
        go (yes h) d =
            absurd (omega (arith, e x, points-same r R, p.0, points_other x r' R' (omega arith), fresh r' R' u' x (omega arith)))
        go (no h) (yes k) =
            absurd (omega (arith, e x', points-same r' R', p'.0, points_other x' r R (omega arith), fresh r R u x' (omega arith)))
        go (no h) (no k) = omega arith

    same_count : r.count ≡ r'.count
    same_count =
        let at : times x (repeated (r' ∷ R')) ≡ r'.count + times x (repeated R') = rw same_pattern (points-same r' R') in
        omega (arith, e x, at, points-same r R, fresh r R u x (omega arith), fresh r' R' u' x (omega (arith, same_pattern)))

    tails : (q : ℕ) → times q (repeated R) ≡ times q (repeated R')
    tails q = go (ℕ_discrete q x)
      where
        go : Dec (q ≡ x) → times q (repeated R) ≡ times q (repeated R')
        go (yes h) = omega (arith, fresh r R u q (omega arith), fresh r' R' u' q (omega (arith, same_pattern)))
        go (no h) = omega (arith, e q, points_other q r R h, points_other q r' R' (λ k. h (k ∙ sym same_pattern)))

-- ---- every count function has rows

pub points-append : (q : ℕ) (R R' : List Row) → times q (repeated (R ++ R')) ≡ times q (repeated R) + times q (repeated R')
points-append q [] R' = omega (arith, no_points q)
points-append q (r ∷ R) R' = go (ℕ_discrete q r.pattern) (points-append q R R')
  where
    go : Dec (q ≡ r.pattern) → times q (repeated (R ++ R')) ≡ times q (repeated R) + times q (repeated R')
        → times q (repeated (r ∷ (R ++ R'))) ≡ times q (repeated (r ∷ R)) + times q (repeated R')
    go (yes e) ih =
        let a : times q (repeated (r ∷ (R ++ R'))) ≡ r.count + times q (repeated (R ++ R')) = rw e (points-same r (R ++ R')) in
        let b : times q (repeated (r ∷ R)) ≡ r.count + times q (repeated R) = rw e (points-same r R) in
        omega arith
    go (no h) ih = omega (arith, points_other q r (R ++ R') h, points_other q r R h)

pub row_if-same : (q k : ℕ) → times q (repeated (row_if q k)) ≡ k
unfolding row_if
row_if-same q zero = no_points q
row_if-same q (suc k) = omega (arith, points-same (record { pattern = q; count = suc k }) [], no_points q)

pub row_if_other : (q x k : ℕ) → q ≢ x → times q (repeated (row_if x k)) ≡ 0
unfolding row_if
row_if_other q x zero h = no_points q
row_if_other q x (suc k) h = omega (arith, points_other q (record { pattern = x; count = suc k }) [] h, no_points q)

-- no count at or past n
pub rows_of-out : (n : ℕ) (c : ℕ → ℕ) (q : ℕ) → n ≤ q → times q (repeated (rows_of n c)) ≡ 0
unfolding rows_of
rows_of-out zero c q h = no_points q
rows_of-out (suc n) c q h =
    omega (arith, points-append q (rows_of n c) (row_if n (c n)), rows_of-out n c q (omega arith), row_if_other q n (c n) (omega arith))

pub rows_of_in : (n : ℕ) (c : ℕ → ℕ) (q : ℕ) → q < n → times q (repeated (rows_of n c)) ≡ c q
unfolding rows_of
rows_of_in zero c q h = absurd (omega arith)
rows_of_in (suc n) c q h = go (ℕ_discrete q n) (rows_of_in n c q)
  where
    go : Dec (q ≡ n) → (q < n → times q (repeated (rows_of n c)) ≡ c q) → times q (repeated (rows_of n c ++ row_if n (c n))) ≡ c q
    go (yes e) ih =
        rw e (omega (arith, points-append n (rows_of n c) (row_if n (c n)), rows_of-out n c n (omega arith), row_if-same n (c n)))
    go (no h') ih =
        omega (arith, points-append q (rows_of n c) (row_if n (c n)), ih (omega arith), row_if_other q n (c n) h')

pub patterns-append : (R R' : List Row) → patterns (R ++ R') ≡ patterns R ++ patterns R'
unfolding patterns
patterns-append [] R' = refl
patterns-append (r ∷ R) R' = ap (λ (l : List ℕ). r.pattern ∷ l) (patterns-append R R')

pub positive-append : (R R' : List Row) → Positive R → Positive R' → Positive (R ++ R')
unfolding Positive
positive-append [] R' p p' = p'
positive-append (r ∷ R) R' p p' = (p.0, positive-append R R' p.1 p')

pub below-append : (n : ℕ) (l m : List ℕ) → Below n l → Below n m → Below n (l ++ m)
unfolding Below
below-append n [] m b b' = b'
below-append n (x ∷ l) m b b' = (b.0, below-append n l m b.1 b')

pub below_mono : (n m : ℕ) (l : List ℕ) → n ≤ m → Below n l → Below m l
unfolding Below
below_mono n m [] h b = tt
below_mono n m (x ∷ l) h b = (omega (arith, b.0), below_mono n m l h b.1)

pub row_if-positive : (q k : ℕ) → Positive (row_if q k)
row_if-positive q zero = unfold row_if Positive in tt
row_if-positive q (suc k) = unfold row_if Positive in (omega arith, tt)

pub row_if-rising : (q k : ℕ) → Rising (patterns (row_if q k))
row_if-rising q zero = unfold row_if patterns Rising in tt
row_if-rising q (suc k) = unfold row_if patterns Rising in ((λ y h. absurd (omega (arith, times-nil y))), tt)

pub row_if_in : (q k y : ℕ) → 0 < times y (patterns (row_if q k)) → y ≡ q
row_if_in q zero y h = absurd (unfold row_if patterns in omega (arith, times-nil y))
row_if_in q (suc k) y h = unfold row_if patterns in times-one y q h

pub rows_of-positive : (n : ℕ) (c : ℕ → ℕ) → Positive (rows_of n c)
unfolding rows_of
rows_of-positive zero c = unfold Positive in tt
rows_of-positive (suc n) c = positive-append (rows_of n c) (row_if n (c n)) (rows_of-positive n c) (row_if-positive n (c n))

pub rows_of-below : (n : ℕ) (c : ℕ → ℕ) → Below n (patterns (rows_of n c))
unfolding rows_of
rows_of-below zero c = unfold patterns Below in tt
rows_of-below (suc n) c =
    rw patterns-append
    (below-append (suc n) (patterns (rows_of n c)) (patterns (row_if n (c n)))
    (below_mono n (suc n) (patterns (rows_of n c)) (omega arith) (rows_of-below n c)) (one (c n)))
  where
    one : (k : ℕ) → Below (suc n) (patterns (row_if n k))
    one zero = unfold row_if patterns Below in tt
    one (suc k) = unfold row_if patterns Below in (omega arith, tt)

pub rows_of-rising : (n : ℕ) (c : ℕ → ℕ) → Rising (patterns (rows_of n c))
unfolding rows_of
rows_of-rising zero c = unfold patterns Rising in tt
rows_of-rising (suc n) c =
    rw patterns-append
    (rising-append (patterns (rows_of n c)) (patterns (row_if n (c n))) (rows_of-rising n c) (row_if-rising n (c n))
    (λ x y h k. omega (arith, below_under n (patterns (rows_of n c)) (rows_of-below n c) x h, row_if_in n (c n) y k)))

pub rows_of-rows : (i : ℕ) (c : ℕ → ℕ) → IsRows i (rows_of (3 ^ i) c)
rows_of-rows i c = record { rising = rows_of-rising (3 ^ i) c; below = rows_of-below (3 ^ i) c; positive = rows_of-positive (3 ^ i) c }

pub length-patterns : (R : List Row) → length (patterns R) ≡ length R
unfolding patterns
length-patterns [] = refl
length-patterns (r ∷ R) = ap suc (length-patterns R)

pub points-below : (n : ℕ) (R : List Row) → Below n (patterns R) → Below n (repeated R)
unfolding patterns repeated Below
points-below n [] b = tt
points-below n (r ∷ R) b = below-append n (replicate r.count r.pattern) (repeated R) (copies r.count) (points-below n R b.1)
  where
    copies : (k : ℕ) → Below n (replicate k r.pattern)
    copies zero = tt
    copies (suc k) = (b.0, copies k)
