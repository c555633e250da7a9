-- Rows that stand in two lists, one of patterns and one of counts: their number, their elements, and rows taken apart and put together.
use mathlib.Core.Path.{◌≡◌, refl, ap}
use mathlib.Core.List.{List, [], ◌∷◌, ◌++◌, map}
use Prim.Native.Nat.{ℕ, zero, suc, ◌+◌, ◌<◌}
use native.Mathlib.Nat.{le_of_suc-le-suc, add-zero}
use native.Mathlib.Omega.{arith}
use native.Mathlib.Numerals.{add-one}
use lib.ListN.{length, get_or, take, set}
use lib.Seq.{take-suc-set}
use Rattle.signs.specs.Lists.{times, Rising, Below, shift}
use Rattle.signs.proofs.Lists.{times-nil, times-same, times-cons}
use Rattle.rounds.specs.Rows.{Row, patterns, counts, rows_with}

pub with_patterns : (P C : List ℕ) → length P ≡ length C → patterns (rows_with P C) ≡ P
unfolding patterns rows_with
with_patterns [] C e = refl
with_patterns (q ∷ P) [] e = absurd (omega arith)
with_patterns (q ∷ P) (c ∷ C) e = ap (λ (l : List ℕ). q ∷ l) (with_patterns P C (omega arith))

pub with_length : (P C : List ℕ) → length P ≡ length C → length (rows_with P C) ≡ length P
unfolding rows_with
with_length [] C e = refl
with_length (q ∷ P) [] e = absurd (omega arith)
with_length (q ∷ P) (c ∷ C) e = ap suc (with_length P C (omega arith))

pub with_at : (P C : List ℕ) (p : ℕ) → length P ≡ length C → p < length P
    → get_or (rows_with P C) p (record { pattern = 0; count = 0 }) ≡ record { pattern = get_or P p 0; count = get_or C p 0 }
unfolding rows_with
with_at [] C p e h = absurd (omega arith)
with_at (q ∷ P) [] p e h = absurd (omega arith)
with_at (q ∷ P) (c ∷ C) zero e h = refl
with_at (q ∷ P) (c ∷ C) (suc p) e h = with_at P C p (omega arith) (le_of_suc-le-suc h)

pub with_map_pattern : (P C : List ℕ) → length P ≡ length C → map (λ (r : Row). r.pattern) (rows_with P C) ≡ P
unfolding rows_with
with_map_pattern [] C e = refl
with_map_pattern (q ∷ P) [] e = absurd (omega arith)
with_map_pattern (q ∷ P) (c ∷ C) e = ap (λ (l : List ℕ). q ∷ l) (with_map_pattern P C (omega arith))

pub with_map-count : (P C : List ℕ) → length P ≡ length C → map (λ (r : Row). r.count) (rows_with P C) ≡ C
unfolding rows_with
with_map-count [] [] e = refl
with_map-count [] (c ∷ C) e = absurd (omega arith)
with_map-count (q ∷ P) [] e = absurd (omega arith)
with_map-count (q ∷ P) (c ∷ C) e = ap (λ (l : List ℕ). c ∷ l) (with_map-count P C (omega arith))

pub with_own : (R : List Row) → rows_with (patterns R) (counts R) ≡ R
unfolding patterns counts rows_with
with_own [] = refl
with_own (r ∷ R) = ap (λ (l : List Row). r ∷ l) (with_own R)

-- ---- a list at the front of an array, and one element more

pub stored : {A : Type 0} (l : List A) (k : ℕ) (z : A) → k < length l → take (k + 1) (set l k z) ≡ take k l ++ (z ∷ [])
stored l k z h = rw (add-one k) (take-suc-set l k z h)

-- ---- a single row, and bounds by membership

pub rising-one : Rising (0 ∷ [])
unfolding Rising
rising-one = (λ y h. absurd (omega (arith, times-nil y)), tt)

pub below_one : Below 1 (0 ∷ [])
unfolding Below
below_one = (omega arith, tt)

pub below_all : (n : ℕ) (l : List ℕ) → ((α : ℕ) → 0 < times α l → α < n) → Below n l
unfolding Below
below_all n [] h = tt
below_all n (x ∷ l) h = (h x (omega (arith, times-same x l)), below_all n l (λ α g. h α (omega (arith, times-cons α x l))))

pub shift_none : (l : List ℕ) → shift 0 l ≡ l
unfolding shift
shift_none [] = refl
shift_none (x ∷ l) = rw (shift_none l) (ap (λ (y : ℕ). y ∷ l) (add-zero x))
