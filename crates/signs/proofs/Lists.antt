-- Laws of lists of numbers: what `times` says of `++`, `shift`, `keep`, `up_to` and `restrictions`. Membership is `0 < times q l`, so that
-- omega reads it.
use mathlib.Core.Path.{◌≡◌, refl, sym, ◌∙◌, subst}
use mathlib.Core.Logic.{◌≢◌}
use mathlib.Core.Bool.{Bool, true, false, cond}
use mathlib.Core.Logic.{◌⊎◌, inl, inr}
use mathlib.Core.List.{List, [], ◌∷◌, ◌++◌}
use Prim.Native.Nat.{ℕ, zero, suc, ◌+◌, ◌^◌, ◌-◌, ◌<◌, ◌≤◌}
use native.Mathlib.Omega.{arith}
use native.Mathlib.Decide.{ℕ_discrete, dec_lt}
use lib.Dec.{eqb, leb, leb→le, le→leb}
use lib.ListN.{take}
use Rattle.integers.proofs.Tests.{is_true, eqb_same, eqb_other, eq_cases, bool_cases, T_of, not_T_of}
use Rattle.signs.specs.Lists.{times, up_to, keep, shift}
use Rattle.signs.specs.Adapted.{signs_of, restrictions}

-- ---- times

pub times-nil : (q : ℕ) → times q [] ≡ 0
unfolding times
times-nil q = refl

pub times-same : (q : ℕ) (l : List ℕ) → times q (q ∷ l) ≡ suc (times q l)
unfolding times
times-same q l = rw (eqb_same q) (omega arith)

pub times_other : (q x : ℕ) (l : List ℕ) → q ≢ x → times q (x ∷ l) ≡ times q l
unfolding times
times_other q x l h = rw (eqb_other q x h) (omega arith)

pub times-cons : (q x : ℕ) (l : List ℕ) → times q l ≤ times q (x ∷ l)
unfolding times
times-cons q x l = omega arith

pub times-append : (q : ℕ) (l m : List ℕ) → times q (l ++ m) ≡ times q l + times q m
unfolding times
times-append q [] m = omega arith
times-append q (x ∷ l) m = omega (arith, times-append q l m)

pub times-shift : (c q : ℕ) (l : List ℕ) → times (q + c) (shift c l) ≡ times q l
unfolding times shift
times-shift c q [] = refl
times-shift c q (x ∷ l) = rw (times-shift c q l, same) refl
  where
    same : eqb (q + c) (x + c) ≡ eqb q x
    same = go (eq_cases q x) (eq_cases (q + c) (x + c))
      where
        go : ((q ≡ x) × (eqb q x ≡ true)) ⊎ ((q ≢ x) × (eqb q x ≡ false))
            → ((q + c ≡ x + c) × (eqb (q + c) (x + c) ≡ true)) ⊎ ((q + c ≢ x + c) × (eqb (q + c) (x + c) ≡ false))
            → eqb (q + c) (x + c) ≡ eqb q x
        go (inl (e, t)) (inl (e', t')) = t' ∙ sym t
        go (inl (e, t)) (inr (e', t')) = absurd (e' (omega arith))
        go (inr (e, t)) (inl (e', t')) = absurd (e (omega arith))
        go (inr (e, t)) (inr (e', t')) = t' ∙ sym t

-- below c nothing stands in a shifted list
pub times-shift-low : (c q : ℕ) (l : List ℕ) → q < c → times q (shift c l) ≡ 0
unfolding shift
times-shift-low c q [] h = unfold times in refl
times-shift-low c q (x ∷ l) h = times_other q (x + c) (shift c l) (omega arith) ∙ times-shift-low c q l h

pub times-keep : (f : ℕ → Bool) (q : ℕ) (l : List ℕ) → times q (keep f l) ≡ cond (f q) (times q l) 0
unfolding keep times
times-keep f q [] = go (f q)
  where
    go : (b : Bool) → ◌≡◌ {A = ℕ} 0 (cond b 0 0)
    go true = refl
    go false = refl
times-keep f q (x ∷ l) = go (eq_cases q x) (f x) refl (f q) refl (times-keep f q l)
  where
    go : ((q ≡ x) × (eqb q x ≡ true)) ⊎ ((q ≢ x) × (eqb q x ≡ false)) → (b : Bool) → f x ≡ b → (a : Bool) → f q ≡ a
        → times q (keep f l) ≡ cond a (times q l) 0
        → times q (cond b (x ∷ keep f l) (keep f l)) ≡ cond a (cond (eqb q x) 1 0 + times q l) 0
    go (inl (e, t)) true fx true fq ih = rw (t, ih) refl
    go (inl (e, t)) true fx false fq ih = absurd (not_T_of fq (rw e (T_of fx)))
    go (inl (e, t)) false fx true fq ih = absurd (not_T_of fx (rw (← e) (T_of fq)))
    go (inl (e, t)) false fx false fq ih = ih
    go (inr (e, t)) true fx true fq ih = rw (t, ih) refl
    go (inr (e, t)) true fx false fq ih = rw (t, ih) refl
    go (inr (e, t)) false fx true fq ih = rw (t, ih) (omega arith)
    go (inr (e, t)) false fx false fq ih = ih

pub times-up_to-out : (q n : ℕ) → n ≤ q → times q (up_to n) ≡ 0
unfolding up_to
times-up_to-out q zero h = unfold times in refl
times-up_to-out q (suc n) h =
    omega (arith, times-append q (up_to n) (n ∷ []), times-up_to-out q n (omega arith), times_other q n [] (omega arith), times-nil q)

pub times-up_to_in : (q n : ℕ) → q < n → times q (up_to n) ≡ 1
unfolding up_to
times-up_to_in q zero h = absurd (omega arith)
times-up_to_in q (suc n) h = go (ℕ_discrete q n) (times-up_to_in q n)
  where
    go : Dec (q ≡ n) → (q < n → times q (up_to n) ≡ 1) → times q (up_to n ++ (n ∷ [])) ≡ 1
    go (yes e) ih =
        rw (times-append, ← e) (omega (arith, times-up_to-out q q (omega arith), times-same q [], times-nil q))
    go (no e) ih =
        omega (arith, times-append q (up_to n) (n ∷ []), ih (omega arith), times_other q n [] e, times-nil q)

-- ---- restrictions

pub restrictions_in : (k i : ℕ) (L : List ℕ) (q : ℕ) → q < 3 ^ i → k ≤ signs_of i L q → 0 < times q (restrictions k i L)
unfolding restrictions
restrictions_in k i L q h e =
    rw (times-keep, is_true (leb k (signs_of i L q)) (le→leb k (signs_of i L q) e)) (omega (arith, times-up_to_in q (3 ^ i) h))

pub restrictions-out : (k i : ℕ) (L : List ℕ) (q : ℕ) → q < 3 ^ i → times q (restrictions k i L) ≡ 0 → signs_of i L q < k
restrictions-out k i L q h e = go (dec_lt (signs_of i L q) k)
  where
    go : Dec (signs_of i L q < k) → signs_of i L q < k
    go (yes t) = t
    go (no t) = absurd (omega (arith, restrictions_in k i L q h (omega arith)))

pub restrictions_holds : (k i : ℕ) (L : List ℕ) (q : ℕ) → 0 < times q (restrictions k i L) → (q < 3 ^ i) × (k ≤ signs_of i L q)
unfolding restrictions
restrictions_holds k i L q h = go (dec_lt q (3 ^ i)) (bool_cases (leb k (signs_of i L q)))
  where
    h' : 0 < cond (leb k (signs_of i L q)) (times q (up_to (3 ^ i))) 0
    h' = rw times-keep at h

    go : Dec (q < 3 ^ i) → (leb k (signs_of i L q) ≡ true) ⊎ (leb k (signs_of i L q) ≡ false) → (q < 3 ^ i) × (k ≤ signs_of i L q)
    go (yes b) (inl t) = (b, leb→le k (signs_of i L q) (T_of t))
    go d (inr t) = absurd (let z : 0 < 0 = (rw t at h') in omega arith)
    go (no b) (inl t) = absurd (let z : 0 < times q (up_to (3 ^ i)) = (rw t at h') in omega
        (arith, times-up_to-out q (3 ^ i) (omega arith)))

-- what stands in a shifted list is at least c, and stood in the list c lower
pub shift_holds : (c q : ℕ) (l : List ℕ) → 0 < times q (shift c l) → (a : ℕ) × (q ≡ a + c) × (0 < times a l)
shift_holds c q l h = go (dec_lt q c)
  where
    go : Dec (q < c) → (a : ℕ) × (q ≡ a + c) × (0 < times a l)
    go (yes b) = absurd (omega (arith, times-shift-low c q l b))
    go (no b) =
        let e : q ≡ (q - c) + c = omega arith in
        let h' : 0 < times ((q - c) + c) (shift c l) = subst (λ (x : ℕ). 0 < times x (shift c l)) e h in
        (q - c, e, omega (arith, times-shift c (q - c) l))

pub times-one : (q x : ℕ) → 0 < times q (x ∷ []) → q ≡ x
times-one q x h = go (ℕ_discrete q x)
  where
    go : Dec (q ≡ x) → q ≡ x
    go (yes e) = e
    go (no e) = absurd (omega (arith, times_other q x [] e, times-nil q))

-- a number stands in the first k no more often than in all
pub times-take : (q k : ℕ) (l : List ℕ) → times q (take k l) ≤ times q l
times-take q zero l = omega (arith, times-nil q)
times-take q (suc k) [] = omega arith
times-take q (suc k) (x ∷ l) = omega (arith, times-append q (x ∷ []) (take k l), times-append q (x ∷ []) l, times-take q k l)
