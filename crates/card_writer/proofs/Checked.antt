-- What the causes leave of numbers that nothing refuses: each is within its limit.
use mathlib.Core.Path.{◌≡◌, refl}
use mathlib.Core.Bool.{Bool, false, not, ◌||◌}
use mathlib.Core.List.{List, [], ◌∷◌}
use Prim.Native.Nat.{ℕ, zero, suc, ◌+◌, ◌^◌, ◌≤◌, ◌<◌}
use native.Mathlib.Omega.{arith}
use borrow.Author.Tests.{ltb-false}
use lib.Dec.{ltb, eqb}
use lib.IntN.{ℤ, pos, nat_abs}
use lib.ListN.{length, get_or, take, drop}
use mir.Syntax.{w64}
use mir.Val.{to_z, of_z}
use Rattle.integers.proofs.I64.{fits_abs, back_64}
use Rattle.integers.specs.Search.{outside}
use Rattle.refusals.proofs.Causes.{first_none, then_none, holds_not, is_equal}
use Rattle.integers.proofs.Search.{or_false, left_false, right_false}
use Rattle.refusals.specs.Numbers.{wrong_length, wrong_count, wrong_degree, wrong_coefficient, ◌when◌, ◌▸◌}
use Rattle.card_bytes.specs.Bytes.{wanted}
use Rattle.card_bytes.specs.Causes.{some, below, wrong_points, polynomial_cause, polynomials_cause, write_cause}
use Rattle.card_bytes.proofs.Lengths.{some_first, some-rest}

-- ---- elements of lists

-- a test that holds of no element fails at each
pub some_at : {A : Type 0} (f : A → Bool) (l : List A) (k : ℕ) (d : A) → some f l ≡ false → k < length l → f (get_or l k d) ≡ false
some_at f [] k d e h = absurd (omega arith)
some_at f (x ∷ l) zero d e h = some_first f x l e
some_at f (x ∷ l) (suc k) d e h = some_at f l k d (some-rest f x l e) (omega arith)

-- no point is outside its limits where none is wrong
pub points-inside : (l : List ℤ) → wrong_points l ≡ false → some (outside 100) l ≡ false
unfolding some wrong_points
points-inside [] e = refl
points-inside (x ∷ l) e =
    or_false (outside 100 x) (some (outside 100) l) (left_false (outside 100 x) (below x l || wrong_points l) e)
    (points-inside l (right_false (below x l) (wrong_points l) (right_false (outside 100 x) (below x l || wrong_points l) e)))

-- an element of a list within a limit is within it, and is what its bits say
pub record Inside (b : ℕ) (z : ℤ) : Type 0 where
  pub small : nat_abs z ≤ b
  pub same : to_z w64 (of_z w64 z) ≡ z

pub inside : (b : ℕ) (l : List ℤ) (k : ℕ) → b < 2 ^ 63 → some (outside b) l ≡ false → k < length l → Inside b (get_or l k (pos 0))
inside b l k m e h =
    let s = ltb-false b (nat_abs (get_or l k (pos 0))) (some_at (outside b) l k (pos 0) e h) in
    record { small = s; same = back_64 _ (fits_abs _ (omega arith)) }

-- ---- the polynomials

module _ (d : ℕ) (ds : List ℕ) (cs : List ℤ) (e : polynomials_cause (d ∷ ds) cs ≡ 0) where
  pub first-sound : polynomial_cause d (take (d + 1) cs) ≡ 0
  unfolding polynomials_cause
  first-sound = first_none (polynomial_cause d (take (d + 1) cs)) (polynomials_cause ds (drop (d + 1) cs)) e

  pub rest-sound : polynomials_cause ds (drop (d + 1) cs) ≡ 0
  unfolding polynomials_cause
  rest-sound = then_none (polynomial_cause d (take (d + 1) cs)) (polynomials_cause ds (drop (d + 1) cs)) e

pub coefficients-small : (d : ℕ) (l : List ℤ) → polynomial_cause d l ≡ 0 → some (outside 1000000) l ≡ false
unfolding polynomial_cause
coefficients-small d l e = holds_not 4 (some (outside 1000000) l) (first_none (wrong_coefficient when some (outside 1000000) l) _ e)

-- ---- all

pub record Accepted (ds : List ℕ) (cs ps : List ℤ) : Type 0 where
  pub count : length ds ≤ 8
  pub points : length ps ≤ 64
  pub low : some (ltb 6) ds ≡ false
  pub long : length cs ≡ wanted ds
  pub sound : polynomials_cause ds cs ≡ 0
  pub right : wrong_points ps ≡ false

both_none : (a b : ℕ) → (a ▸ b) ≡ 0 → (a ≡ 0) × (b ≡ 0)
both_none a b e = (first_none a b e, then_none a b e)

pub accepted : (ds : List ℕ) (cs ps : List ℤ) → write_cause ds cs ps ≡ 0 → Accepted ds cs ps
unfolding write_cause
accepted ds cs ps e =
    let a = both_none (wrong_count when (ltb (length ds) 1 || ltb 8 (length ds))) _ e in
    let b = both_none (wrong_count when ltb 64 (length ps)) _ a.1 in
    let c = both_none (wrong_degree when some (ltb 6) ds) _ b.1 in
    let d = both_none (wrong_length when not (eqb (length cs) (wanted ds))) _ c.1 in
    let p = both_none (polynomials_cause ds cs) _ d.1 in
    record {
      count = ltb-false 8 (length ds) (right_false (ltb (length ds) 1) (ltb 8 (length ds)) (holds_not 2 _ a.0));
      points = ltb-false 64 (length ps) (holds_not 2 _ b.0);
      low = holds_not 15 (some (ltb 6) ds) c.0;
      long = is_equal (length cs) (wanted ds) (holds_not 0 _ d.0);
      sound = p.0;
      right = holds_not 5 (wrong_points ps) p.1;
    }
