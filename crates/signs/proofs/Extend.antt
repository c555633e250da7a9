-- Theorem: the adapted list of the rows each extended by three signs is the rows' adapted list A, then A + 3^i, then A + 2·3^i.
-- And what code needs that works L1, L2, L3 out its own way: a rising list is fixed by what stands in it.
use mathlib.Core.Path.{◌≡◌, refl, sym, ap₂, ◌∙◌}
use mathlib.Core.Logic.{◌≢◌, ◌↔◌}
use mathlib.Core.Bool.{Bool, true, false, cond}
use mathlib.Core.List.{List, [], ◌∷◌, ◌++◌}
use Prim.Native.Nat.{ℕ, zero, suc, ◌+◌, ◌*◌, ◌^◌, ◌<◌, ◌≤◌}
use native.Mathlib.Omega.{arith}
use native.Mathlib.Decide.{ℕ_discrete, dec_lt}
use lib.Dec.{leb}
use Rattle.signs.specs.Adapted.{signs_of, restrictions, adapted, extended}
use Rattle.signs.specs.Lists.{times, Below, Rising, up_to, keep, shift}
use Rattle.signs.proofs.Lists.{shift_holds, times-shift-low, times-nil, times-same, times_other, times-one, times-append}
use Rattle.signs.proofs.Lists.{times-shift, times-keep, times-up_to-out, restrictions_in, restrictions_holds}
use Rattle.signs.proofs.Size.{Under, below_under, rising-append, rising-once}

-- ---- a rising list is fixed by what stands in it

rising_fresh : (x : ℕ) (l : List ℕ) → Rising (x ∷ l) → (q : ℕ) → q ≤ x → times q l ≡ 0
unfolding Rising
rising_fresh x l r q h = go (dec_lt 0 (times q l))
  where
    go : Dec (0 < times q l) → times q l ≡ 0
    go (yes k) = absurd (omega (arith, r.0 q k))
    go (no k) = omega arith

rising-same : (l m : List ℕ) → Rising l → Rising m → ((q : ℕ) → times q l ≡ times q m) → l ≡ m
rising-same [] [] r t e = refl
rising-same [] (y ∷ m) r t e = absurd (omega (arith, e y, times-nil y, times-same y m))
rising-same (x ∷ l) [] r t e = absurd (omega (arith, e x, times-nil x, times-same x l))
rising-same (x ∷ l) (y ∷ m) r t e = ap₂ ◌∷◌ heads (rising-same l m (rest x l r) (rest y m t) tails)
  where
    rest : (z : ℕ) (k : List ℕ) → Rising (z ∷ k) → Rising k
    rest z k u = unfold Rising in u.1

    heads : x ≡ y
    heads = go (dec_lt x y) (dec_lt y x)
      where
        go : Dec (x < y) → Dec (y < x) → x ≡ y
        go (yes h) d = absurd (omega (arith, e x, times-same x l, times_other x y m (omega arith), rising_fresh y m t x (omega arith)))
        go (no h) (yes k) = absurd (omega (arith, e y, times-same y m, times_other y x l (omega arith), rising_fresh x l r y (omega arith)))
        go (no h) (no k) = omega arith

    tails : (q : ℕ) → times q l ≡ times q m
    tails q = go (ℕ_discrete q x)
      where
        go : Dec (q ≡ x) → times q l ≡ times q m
        go (yes h) = omega (arith, rising_fresh x l r q (omega arith), rising_fresh y m t q (omega (arith, heads)))
        go (no h) = omega (arith, e q, times_other q x l h, times_other q y m (λ k. h (k ∙ sym heads)))

pub rising_ext : (l m : List ℕ) → Rising l → Rising m → ((q : ℕ) → (0 < times q l) ↔ (0 < times q m)) → l ≡ m
rising_ext l m r t e = rising-same l m r t (λ q. go q (dec_lt 0 (times q l)) (dec_lt 0 (times q m)))
  where
    go : (q : ℕ) → Dec (0 < times q l) → Dec (0 < times q m) → times q l ≡ times q m
    go q (yes a) (yes b) = omega (arith, rising-once l r q, rising-once m t q)
    go q (yes a) (no b) = absurd (b ((e q).0 a))
    go q (no a) (yes b) = absurd (a ((e q).1 b))
    go q (no a) (no b) = omega arith

-- ---- L1, L2, L3 rise

up_to-rising : (n : ℕ) → Rising (up_to n)
unfolding up_to
up_to-rising zero = unfold Rising in tt
up_to-rising (suc n) = rising-append (up_to n) (n ∷ []) (up_to-rising n) one (λ x y h k. omega (arith, in_up_to x h, times-one y n k))
  where
    one : Rising (n ∷ [])
    one = unfold Rising in ((λ y h. absurd (omega (arith, times-nil y))), tt)

    in_up_to : (x : ℕ) → 0 < times x (up_to n) → x < n
    in_up_to x h = go (dec_lt x n)
      where
        go : Dec (x < n) → x < n
        go (yes k) = k
        go (no k) = absurd (omega (arith, times-up_to-out x n (omega arith)))

keep-rising : (f : ℕ → Bool) (l : List ℕ) → Rising l → Rising (keep f l)
unfolding keep Rising
keep-rising f [] r = tt
keep-rising f (x ∷ l) r = go (f x) (keep-rising f l r.1)
  where
    inside : (y : ℕ) → 0 < times y (keep f l) → 0 < times y l
    inside y h = go (f y) (rw times-keep at h)
      where
        go : (b : Bool) → 0 < cond b (times y l) 0 → 0 < times y l
        go true k = k
        go false k = absurd (omega arith)

    go : (b : Bool) → Rising (keep f l) → Rising (cond b (x ∷ keep f l) (keep f l))
    go true ih = (λ y h. r.0 y (inside y h), ih)
    go false ih = ih

pub restrictions-rising : (k i : ℕ) (L : List ℕ) → Rising (restrictions k i L)
unfolding restrictions
restrictions-rising k i L = keep-rising (λ q. leb k (signs_of i L q)) (up_to (3 ^ i)) (up_to-rising (3 ^ i))

-- ---- the extended list

-- L is over P: each pattern of L, with P(i+1) taken off, stands in P
abbrev pub Over : ℕ → List ℕ → List ℕ → Type 0
Over i L P = (q : ℕ) → q < 3 ^ i → 0 < times q L + times (q + 3 ^ i) L + times (q + 2 * 3 ^ i) L → 0 < times q P

pub times-extended : (i q : ℕ) (P : List ℕ) → times q (extended i P)
    ≡ times q P + (times q (shift (3 ^ i) P) + times q (shift (2 * 3 ^ i) P))
unfolding extended
times-extended i q P =
    omega (arith, times-append q P (shift (3 ^ i) P ++ shift (2 * 3 ^ i) P), times-append q (shift (3 ^ i) P) (shift (2 * 3 ^ i) P))

pub extended-over : (i : ℕ) (P : List ℕ) → Under (3 ^ i) P → Over i (extended i P) P
extended-over i P u q b h = go (dec_lt 0 (times q P))
  where
    none_at : (c x : ℕ) → x ≢ q + c → 3 ^ i + c ≤ x → times x (shift c P) ≡ 0
    none_at c x e k = go (dec_lt 0 (times x (shift c P)))
      where
        go : Dec (0 < times x (shift c P)) → times x (shift c P) ≡ 0
        go (yes m) = let (a, f, g) = shift_holds c x P m in absurd (omega (arith, u a g))
        go (no m) = omega arith

    none_in : (x : ℕ) → 3 ^ i ≤ x → times x P ≡ 0
    none_in x k = go (dec_lt 0 (times x P))
      where
        go : Dec (0 < times x P) → times x P ≡ 0
        go (yes m) = absurd (omega (arith, u x m))
        go (no m) = omega arith

    go : Dec (0 < times q P) → 0 < times q P
    go (yes k) = k
    go (no k) =
        absurd (omega (
          arith,
          times-extended i q P,
          times-extended i (q + 3 ^ i) P,
          times-extended i (q + 2 * 3 ^ i) P,
          times-shift-low (3 ^ i) q P b,
          times-shift-low (2 * 3 ^ i) q P (omega arith),
          none_in (q + 3 ^ i) (omega arith),
          times-shift (3 ^ i) q P,
          times-shift-low (2 * 3 ^ i) (q + 3 ^ i) P (omega arith),
          none_in (q + 2 * 3 ^ i) (omega arith),
          none_at (3 ^ i) (q + 2 * 3 ^ i) (omega arith) (omega arith),
          times-shift (2 * 3 ^ i) q P,
        ))

-- ---- its adapted list

-- each extended pattern stands with all three signs, so P is what is restrictions
pub restrictions-extended : (k i : ℕ) (P : List ℕ) → 1 ≤ k → k ≤ 3 → Rising P → Below (3 ^ i) P → restrictions k i (extended i P) ≡ P
restrictions-extended k i P h₁ h₃ r b =
    rising_ext (restrictions k i (extended i P)) P (restrictions-rising k i (extended i P)) r (λ q. (back q, forth q))
  where
    u : Under (3 ^ i) P
    u = below_under (3 ^ i) P b

    back : (q : ℕ) → 0 < times q (restrictions k i (extended i P)) → 0 < times q P
    back q m = let (c, e) = restrictions_holds k i (extended i P) q m in extended-over i P u q c (unfold signs_of in omega arith)

    forth : (q : ℕ) → 0 < times q P → 0 < times q (restrictions k i (extended i P))
    forth q m =
        restrictions_in k i (extended i P) q (u q m)
        (unfold signs_of in
        omega (
          arith,
          times-extended i q P,
          times-extended i (q + 3 ^ i) P,
          times-shift (3 ^ i) q P,
          times-extended i (q + 2 * 3 ^ i) P,
          times-shift (2 * 3 ^ i) q P,
        ))

pub adapted-extended : (i : ℕ) (P : List ℕ) → Rising P → Below (3 ^ i) P
    → adapted (suc i) (extended i P) ≡ adapted i P ++ (shift (3 ^ i) (adapted i P) ++ shift (2 * 3 ^ i) (adapted i P))
unfolding adapted
adapted-extended i P r b =
    rw (
      restrictions-extended 1 i P (omega arith) (omega arith) r b,
      restrictions-extended 2 i P (omega arith) (omega arith) r b,
      restrictions-extended 3 i P (omega arith) (omega arith) r b,
    ) refl
