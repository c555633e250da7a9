-- The tests of rising and bounded lists are right, and what a loop over the list keeps of them.
use mathlib.Core.Path.{◌≡◌, refl, sym, ◌∙◌}
use mathlib.Core.Bool.{Bool, true, false, ◌&&◌, true≢false}
use mathlib.Core.List.{List, [], ◌∷◌}
use Prim.Native.Nat.{ℕ, zero, suc, ◌+◌, ◌<◌, ◌≤◌}
use native.Mathlib.Omega.{arith}
use native.Mathlib.Numerals.{add-one}
use native.Mathlib.Decide.{ℕ_discrete}
use borrow.Author.Tests.{ltb-true, lt-ltb}
use lib.Dec.{ltb}
use lib.ListN.{length, get_or, drop, drop_of_length-le}
use lib.Seq.{drop-cons}
use Rattle.std.specs.List.{IsAllAdjacentAnswer}
use Rattle.signs.specs.Lists.{times, Below, Rising, is_below, is_rising}
use Rattle.signs.proofs.Lists.{times-nil, times-same, times_other}

pub both_left : (a b : Bool) → a && b ≡ true → a ≡ true
both_left true b e = refl
both_left false b e = e

pub both_right : (a b : Bool) → a && b ≡ true → b ≡ true
both_right true b e = e
both_right false b e = absurd (let x : ◌≡◌ {A = ℕ} 0 1 = cc in omega arith)

pub both : (a b : Bool) → a ≡ true → b ≡ true → a && b ≡ true
both a b e f = rw (e, f) refl

and_false : (a b : Bool) → a ≡ false → a && b ≡ false
and_false true b e = absurd (true≢false e)
and_false false b e = refl

and_true : (a b : Bool) → a ≡ true → a && b ≡ b
and_true true b e = refl
and_true false b e = absurd (true≢false (sym e))

-- ---- what the tests say

pub below_from : (n : ℕ) (l : List ℕ) → is_below n l ≡ true → Below n l
unfolding is_below Below
below_from n [] e = tt
below_from n (x ∷ l) e =
    (ltb-true x n (both_left (ltb x n) (is_below n l) e), below_from n l (both_right (ltb x n) (is_below n l) e))

pub below_test : (n : ℕ) (l : List ℕ) → Below n l → is_below n l ≡ true
unfolding is_below Below
below_test n [] b = refl
below_test n (x ∷ l) b = both (ltb x n) (is_below n l) (lt-ltb x n b.0) (below_test n l b.1)

pub rising_from : (l : List ℕ) → is_rising l ≡ true → Rising l
unfolding is_rising Rising
rising_from [] e = tt
rising_from (x ∷ []) e = (λ y h. absurd (omega (arith, times-nil y)), tt)
rising_from (x ∷ y ∷ l) e =
    let r = rising_from (y ∷ l) (both_right (ltb x y) (is_rising (y ∷ l)) e) in
    let h : x < y = ltb-true x y (both_left (ltb x y) (is_rising (y ∷ l)) e) in
    (λ z k. go z h r k (ℕ_discrete z y), r)
  where
    go : (z : ℕ) → x < y → Rising (y ∷ l) → 0 < times z (y ∷ l) → Dec (z ≡ y) → x < z
    go z h r k (yes f) = omega arith
    go z h r k (no f) = omega (arith, r.0 z (omega (arith, times_other z y l f)))

pub rising_test : (l : List ℕ) → Rising l → is_rising l ≡ true
unfolding is_rising Rising
rising_test [] r = refl
rising_test (x ∷ []) r = refl
rising_test (x ∷ y ∷ l) r =
    both (ltb x y) (is_rising (y ∷ l)) (lt-ltb x y (r.0 y (omega (arith, times-same y l)))) (rising_test (y ∷ l) r.1)

-- ---- a loop over the list: each below a bound

-- a, the test of the numbers passed: what is left of the test of the list, once the number at k is passed too
pub below_next : (b k : ℕ) (l : List ℕ) (a : Bool) → k < length l → is_below b l ≡ (a && is_below b (drop k l))
    → is_below b l ≡ ((a && ltb (get_or l k 0) b) && is_below b (drop (k + 1) l))
unfolding is_below
below_next b k l a h e = e ∙ rw (add-one k, drop-cons l k 0 h) (grouped a _ _)
  where
    grouped : (x y z : Bool) → (x && (y && z)) ≡ ((x && y) && z)
    grouped true y z = refl
    grouped false y z = refl

pub below_end : (b k : ℕ) (l : List ℕ) (a : Bool) → length l ≤ k → is_below b l ≡ (a && is_below b (drop k l)) → a ≡ is_below b l
unfolding is_below
below_end b k l a h e = sym (e ∙ rw (drop_of_length-le l h) (last a))
  where
    last : (x : Bool) → (x && true) ≡ x
    last true = refl
    last false = refl

-- ---- what the comparison of neighbours says: each smaller than the next

rising_all : (l : List ℕ) → ((k : ℕ) → suc k < length l → ltb (get_or l k 0) (get_or l (suc k) 0) ≡ true) → is_rising l ≡ true
unfolding is_rising
rising_all [] h = refl
rising_all (x ∷ []) h = refl
rising_all (x ∷ y ∷ l) h = both (ltb x y) (is_rising (y ∷ l)) (h 0 (omega arith)) (rising_all (y ∷ l) (λ k g. h (suc k) (omega arith)))

falls_at : (l : List ℕ) (k : ℕ) → suc k < length l → ltb (get_or l k 0) (get_or l (suc k) 0) ≡ false → is_rising l ≡ false
unfolding is_rising
falls_at [] k h e = absurd (omega arith)
falls_at (x ∷ []) k h e = absurd (omega arith)
falls_at (x ∷ y ∷ l) zero h e = and_false (ltb x y) (is_rising (y ∷ l)) e
falls_at (x ∷ y ∷ l) (suc k) h e = rw (falls_at (y ∷ l) k (omega arith) e) (never (ltb x y))
  where
    never : (b : Bool) → b && false ≡ false
    never true = refl
    never false = refl

pub rising_answer : (l : List ℕ) (r : Bool) → IsAllAdjacentAnswer (λ x y b. b ≡ ltb x y) l r → r ≡ is_rising l
rising_answer l true h = sym (rising_all l (λ k g. sym (rw add-one at (h k 0 (omega arith)))))
rising_answer l false h = sym (falls_at l h.0 (omega (arith, h.1)) (sym (rw add-one at (h.2 0))))
