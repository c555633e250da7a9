-- Laws of the definitions of specs/Moments.antt.
use Prim.Native.Nat.{ℕ, zero, suc, ◌+◌, ◌*◌, ◌%◌, ◌≤◌, ◌<◌}
use native.Mathlib.Nat.{add_comm}
use native.Mathlib.Omega.{arith}
use mathlib.Core.Path.{◌≡◌, refl, ap, ap₂}
use mathlib.Core.Bool.{Bool, true, false, cond, not}
use mathlib.Core.List.{List, [], ◌∷◌}
use borrow.Author.Tests.{le-leb}
use lib.Dec.{eqb, leb}
use lib.IntN.{ℤ, pos, negsuc, nat_abs, ◌+ℤ◌, ◌-ℤ◌}
use lib.ListN.{length, get_or}
use lib.Signed.{shr_z}
use Rattle.integers.specs.Half.{is_even}
use Rattle.integers.proofs.Parts.{int, parts, side, sum, dif}
use Rattle.integers.proofs.Abs.{abs_sum, abs_dif}
use Rattle.integers.proofs.Halves.{even_true, even_false}
use Rattle.adapted.specs.Split.{count_of}
use Rattle.solver_moments.specs.Moments.{second_of, third_of, rank, NumberOf, doubled_of, is_odd}

-- ---- the bound of a moment

pub abs_second : (m : ℕ) (d : ℤ) (n : ℕ) → nat_abs d ≤ n → nat_abs (second_of m d) ≤ n
unfolding second_of
abs_second m d n h = go (eqb m 2) (eqb m 4)
  where
    go : (a b : Bool) → nat_abs (cond a d (cond b (pos 0 -ℤ d) (pos 0))) ≤ n
    go true b = h
    go false true = omega (int, dif (pos 0) d, parts d, parts (pos 0 -ℤ d))
    go false false = omega arith

pub abs_third : (m : ℕ) (d e : ℤ) (n : ℕ) → nat_abs d ≤ n → nat_abs e ≤ n → nat_abs (third_of m d e) ≤ n
unfolding third_of
abs_third m d e n h k = go (eqb (m % 2) 0) (eqb m 3) (eqb m 5)
  where
    go : (a b c : Bool) → nat_abs (cond a d (cond b e (cond c (pos 0 -ℤ e) (pos 0)))) ≤ n
    go true b c = h
    go false true c = k
    go false false true = omega (int, dif (pos 0) e, parts e, parts (pos 0 -ℤ e))
    go false false false = omega arith

-- ---- ranks

pub rank-zero : (k : ℕ) (m : List ℕ) → rank k m 0 ≡ 0
unfolding rank
rank-zero k [] = refl
rank-zero k (m ∷ ms) = refl

pub rank-suc : (k : ℕ) (m : List ℕ) (j : ℕ) → j < length m → rank k m (suc j) ≡ rank k m j + cond (leb k (count_of (get_or m j 0))) 1 0
unfolding rank
rank-suc k [] j h = absurd (omega arith)
rank-suc k (m ∷ ms) zero h = rw (rank-zero k ms) (add_comm _ 0)
rank-suc k (m ∷ ms) (suc j) h = omega (arith, rank-suc k ms j (omega arith))

rank-le : (k : ℕ) (m : List ℕ) (j : ℕ) → rank k m j ≤ rank k m (length m)
unfolding rank
rank-le k [] j = omega arith
rank-le k (m ∷ ms) zero = omega arith
rank-le k (m ∷ ms) (suc j) = omega (arith, rank-le k ms j)

-- a mark with k signs has a place before the end
pub rank_lt : (k : ℕ) (m : List ℕ) (j : ℕ) → j < length m → k ≤ count_of (get_or m j 0) → rank k m j < rank k m (length m)
rank_lt k m j h e =
    let s = rank-suc k m j h in
    let s' : rank k m (suc j) ≡ rank k m j + 1 = (rw (le-leb k _ e) at s) in
    omega (arith, rank-le k m (suc j))

pub rank-few : (k : ℕ) (m : List ℕ) (j : ℕ) → rank k m j ≤ j
unfolding rank
rank-few k [] j = omega arith
rank-few k (m ∷ ms) zero = omega arith
rank-few k (m ∷ ms) (suc j) = go (leb k (count_of m)) (rank-few k ms j)
  where
    go : (b : Bool) → rank k ms j ≤ j → cond b 1 0 + rank k ms j ≤ suc j
    go true h = omega arith
    go false h = omega arith

-- ---- numbers from moments: a number is one whose double is `doubled_of`

pub number_doubled : (c : ℕ) (d e g z : ℤ) → NumberOf c d e g z → z +ℤ z ≡ doubled_of c d e g
unfolding doubled_of
number_doubled zero d e g z h = ap₂ ◌+ℤ◌ h h
number_doubled (suc zero) d e g z h = h
number_doubled (suc (suc c)) d e g z h = h

pub doubled_number : (c : ℕ) (d e g z : ℤ) → z +ℤ z ≡ doubled_of c d e g → NumberOf c d e g z
unfolding doubled_of
doubled_number zero d e g z h = omega (int, sum z z, sum (d -ℤ g) (d -ℤ g))
doubled_number (suc zero) d e g z h = h
doubled_number (suc (suc c)) d e g z h = h

pub abs_doubled : (c : ℕ) (d e g : ℤ) (n : ℕ) → nat_abs d ≤ n → nat_abs e ≤ n → nat_abs g ≤ n → nat_abs (doubled_of c d e g) ≤ 4 * n
unfolding doubled_of
abs_doubled zero d e g n hd he hg = omega (arith, abs_sum (d -ℤ g) (d -ℤ g), abs_dif d g)
abs_doubled (suc zero) d e g n hd he hg = omega (arith, abs_sum g e)
abs_doubled (suc (suc c)) d e g n hd he hg = omega (arith, abs_dif g e)

-- ---- halves: of a number that is not odd the one rounded down is exact, and an odd number has none

turned : (a b : Bool) → not a ≡ b → a ≡ not b
turned true b e = ap not e
turned false b e = ap not e

pub even_half : (x : ℤ) → is_odd x ≡ false → shr_z x 2 +ℤ shr_z x 2 ≡ x
even_half (pos n) t = omega (int, even_true (pos n) (turned (is_even (pos n)) false t))
even_half (negsuc n) t = omega (int, even_true (negsuc n) (turned (is_even (negsuc n)) false t))

pub odd_half : (x z : ℤ) → is_odd x ≡ true → z +ℤ z ≡ x → ⊥
odd_half x z t h = even_false x (turned (is_even x) true t) (omega (int, parts x, side x, sum z z))
