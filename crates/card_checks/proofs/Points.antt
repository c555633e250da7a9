-- The points: one outside its limits, or below the one before it.
use Rattle.std.proofs.Common.{◌≡◌, ◌+◌, Ordering, Less, Equal, Greater, Bool, true, false, not, ◌||◌, List, [], ◌∷◌, get_or, ℤ, pos}
use Rattle.std.proofs.Common.{nat_abs, refl, sym, add-one, arith}
use Rattle.std.proofs.lemmas.Int.{ints}
use Rattle.std.proofs.lemmas.Cmp.{int_ranked}
use Rattle.std.specs.Ordering.{MatchOrdering, int_cmp, is_le}
use Rattle.std.specs.List.{IsEachAdjacentAnswer}
use lib.Signed.{◌<ℤ◌, ◌≤ℤ◌}
use Rattle.refusals.specs.Limits.{most_point}
use Rattle.integers.specs.Search.{outside}
use Rattle.card_bytes.specs.Causes.{some, below, wrong_points}
use Rattle.card_bytes.proofs.Refused.{some_words, rising_words}

pub wrong-outside : (l : List ℤ) → some (outside most_point) l ≡ true → wrong_points l ≡ true
unfolding some wrong_points
wrong-outside [] e = e
wrong-outside (x ∷ l) e = go (outside most_point x) (below x l) e (wrong-outside l)
  where
    go : (t b : Bool) → t || some (outside most_point) l ≡ true → (some (outside most_point) l ≡ true → wrong_points l ≡ true)
        → t || (b || wrong_points l) ≡ true
    go true b h f = refl
    go false true h f = refl
    go false false h f = f h

le_true : (x y : ℤ) → is_le (int_cmp x y) ≡ true → x ≤ℤ y
le_true x y e = go (int_cmp x y) (int_ranked x y _ refl) e
  where
    go : (r : Ordering) → MatchOrdering r (x <ℤ y) (x ≡ y) (y <ℤ x) → is_le r ≡ true → x ≤ℤ y
    go Less h e = omega (arith, ints)
    go Equal h e = omega (arith, ints)
    go Greater h e = cc

le_false : (x y : ℤ) → is_le (int_cmp x y) ≡ false → y <ℤ x
le_false x y e = go (int_cmp x y) (int_ranked x y _ refl) e
  where
    go : (r : Ordering) → MatchOrdering r (x <ℤ y) (x ≡ y) (y <ℤ x) → is_le r ≡ false → y <ℤ x
    go Less h e = cc
    go Equal h e = cc
    go Greater h e = h

pub wrong-falling : (l : List ℤ) (b : Bool) → some (outside most_point) l ≡ false
    → IsEachAdjacentAnswer (λ x y r. is_le (int_cmp x y) ≡ r) l b → not b ≡ wrong_points l
wrong-falling l true s h = sym
    ((rising_words l).1
    (record {
      limits = (some_words nat_abs 100 (pos 0) l).0 s;
      rising = λ k i. rw (← add-one k) (le_true _ _ (h k (pos 0) (omega arith)).1);
    }))
wrong-falling l false s (k, i, f) = go (wrong_points l) refl
  where
    go : (w : Bool) → wrong_points l ≡ w → true ≡ w
    go true e = refl
    go false e =
        let r = ((rising_words l).0 e).rising k (omega arith) in
        let g : get_or l (k + 1) (pos 0) <ℤ get_or l k (pos 0) = le_false _ _ (f (pos 0)).1 in
        let r' : get_or l k (pos 0) ≤ℤ get_or l (k + 1) (pos 0) = rw add-one r in
        absurd (omega (arith, ints))
