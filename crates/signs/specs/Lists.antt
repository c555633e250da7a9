-- Lists of numbers.
--
--   times q l               == how often q stands in l
--   Below n l               == each element of l is below n
--   Rising l                == each element of l is smaller than those after it: in particular none stands twice
--   up_to n                  == 0, 1, .., n − 1
--   keep f l                == the elements of l that pass the test f, in order
--   shift c l               == l with c added to each
--   total f n               == f 0 + .. + f (n − 1)
--   is_below n l, is_rising l == the tests of `Below n l` and `Rising l`
--   is_patterns s l         == the test that l is a rising list of at most 64 patterns of s polynomials
use Rattle.std.specs.Prelude.{Bool, true, cond, ◌&&◌, List, [], ◌∷◌, ◌++◌, ℕ, zero, suc, ◌+◌, ◌<◌, ◌^◌, eqb, ltb, leb, length}
use Rattle.refusals.specs.Limits.{most_points}

unfoldable pub times : ℕ → List ℕ → ℕ
times q [] = 0
times q (x ∷ l) = cond (eqb q x) 1 0 + times q l

unfoldable pub Below : ℕ → List ℕ → Type 0
Below n [] = Unit {0}
Below n (x ∷ l) = (x < n) × Below n l

unfoldable pub Rising : List ℕ → Type 0
Rising [] = Unit {0}
Rising (x ∷ l) = ((y : ℕ) → 0 < times y l → x < y) × Rising l

unfoldable pub up_to : ℕ → List ℕ
up_to zero = []
up_to (suc n) = up_to n ++ (n ∷ [])

unfoldable pub keep : (ℕ → Bool) → List ℕ → List ℕ
keep f [] = []
keep f (x ∷ l) = cond (f x) (x ∷ keep f l) (keep f l)

unfoldable pub shift : ℕ → List ℕ → List ℕ
shift c [] = []
shift c (x ∷ l) = (x + c) ∷ shift c l

unfoldable pub total : (ℕ → ℕ) → ℕ → ℕ
total f zero = 0
total f (suc n) = total f n + f n

unfoldable pub is_below : ℕ → List ℕ → Bool
is_below n [] = true
is_below n (x ∷ l) = ltb x n && is_below n l

unfoldable pub is_rising : List ℕ → Bool
is_rising [] = true
is_rising (x ∷ []) = true
is_rising (x ∷ y ∷ l) = ltb x y && is_rising (y ∷ l)

unfoldable pub is_patterns : ℕ → List ℕ → Bool
is_patterns s l = leb (length l) most_points && (is_rising l && is_below (3 ^ s) l)
