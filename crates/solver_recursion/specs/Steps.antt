-- The steps of the solver's recursion, as the code does them, in two systems at once. Definitions of inner functions.
--
--   SolvesBoth s L x y u v b         == b says whether there is a solution for x and one for y; if so, u and v are they
--   Parted i L l m at                == P(i+1) taken off the list L: l the patterns left, m their marks, and at[k] the place in l of the
--                                       low part of L[k]
--   between a e x                    == the numbers of x from place a up to place e
--   Moments i l m x d e g            == d, e and g are the three moments of the patterns l with the marks m, where x are the numbers
--                                       asked: d solves for the first of them, and e and g are what is known of them, e₀ and g₀, with the
--                                       solutions f and h of what remains put back
--   PutBoth i l m k r t v w v' w' b  == b says whether r and t have solutions on l; if so, v' and w' are v and w with them put back
--   MomentsBoth i l m x y d e g d' e' g' b
--                                    == b is true where d, e, g are the moments for x, and d', e', g' those for y; where it is false, no
--                                       list whose patterns left are l, with the marks m, has a solution for x and one for y
use Rattle.std.specs.Prelude.{◌≡◌, Option, Some, None, List, ℕ, suc, ◌+◌, ◌-◌, ◌%◌, ◌^◌, ◌<◌, ◌≤◌, ℤ, length, get_or, take, drop}
use Rattle.refusals.specs.Limits.{most_points}
use Rattle.signs.specs.Adapted.{restrictions, adapted}
use Rattle.signs.specs.Lists.{Below}
use Rattle.adapted.specs.Split.{marks_of, chosen}
use Rattle.solver_moments.specs.Moments.{Second, Third, Spread}
use Rattle.solver_residuals.specs.Residuals.{residuals}
use Rattle.solutions.specs.Solution.{Posed, Solution}

abbrev pub SolvesBoth : ℕ → List ℕ → (x y u v : List ℤ) → Option (Unit {0}) → Type 0
SolvesBoth s L x y u v (Some _) = Solution s L x u × Solution s L y v
SolvesBoth s L x y u v None = (us vs : List ℤ) → Solution s L x us → Solution s L y vs → ⊥

pub record Parted (i : ℕ) (L l m at : List ℕ) : Type 0 where
  pub left : l ≡ restrictions 1 i L
  pub second : chosen 2 l m ≡ restrictions 2 i L
  pub third : chosen 3 l m ≡ restrictions 3 i L
  pub marked : length m ≡ length l
  pub few : Below 8 m
  pub marks : (j : ℕ) → j < length l → get_or m j 0 ≡ marks_of (3 ^ i) L (get_or l j 0)
  pub noted : (k : ℕ) → k < length L → get_or at k 0 < length l
  pub places : (k : ℕ) → k < length L → get_or l (get_or at k 0) 0 ≡ get_or L k 0 % 3 ^ i

abbrev pub between : ℕ → ℕ → List ℤ → List ℤ
between a e x = take (e - a) (drop a x)

-- what the second and the third list are asked for
abbrev pub asked₂ : List ℕ → List ℕ → List ℤ → List ℤ
asked₂ l m x = between (length l) (length l + length (chosen 2 l m)) x

abbrev pub asked₃ : List ℕ → List ℕ → List ℤ → List ℤ
asked₃ l m x = between (length l + length (chosen 2 l m)) (length x) x

pub record Moments (i : ℕ) (l m : List ℕ) (x d e g : List ℤ) : Type 0 where
  pub first : Solution i l (take (length l) x) d
  pub e₀ : List ℤ
  pub long_e₀ : length e₀ ≡ length l
  pub second : Second m d e₀
  pub f : List ℤ
  pub solved₂ : Solution i (chosen 2 l m) (residuals i l e₀ (adapted i (chosen 2 l m)) (asked₂ l m x)) f
  pub long_e : length e ≡ length l
  pub put₂ : Spread 2 m f e₀ e
  pub g₀ : List ℤ
  pub long_g₀ : length g₀ ≡ length l
  pub third : Third m d e g₀
  pub h : List ℤ
  pub solved₃ : Solution i (chosen 3 l m) (residuals i l g₀ (adapted i (chosen 3 l m)) (asked₃ l m x)) h
  pub long_g : length g ≡ length l
  pub put₃ : Spread 3 m h g₀ g

abbrev pub PutBoth : ℕ → (l m : List ℕ) → ℕ → (r t v w v' w' : List ℤ) → Option (Unit {0}) → Type 0
PutBoth i l m k r t v w v' w' (Some _) =
    ((f : List ℤ) × Solution i l r f × Spread k m f v v') × ((f : List ℤ) × Solution i l t f × Spread k m f w w')
PutBoth i l m k r t v w v' w' None = (fs hs : List ℤ) → Solution i l r fs → Solution i l t hs → ⊥

abbrev pub MomentsBoth : ℕ → (l m : List ℕ) → (x y d e g d' e' g' : List ℤ) → Option (Unit {0}) → Type 0
MomentsBoth i l m x y d e g d' e' g' (Some _) = Moments i l m x d e g × Moments i l m y d' e' g'
MomentsBoth i l m x y d e g d' e' g' None =
    (L at : List ℕ) → Posed (suc i) L x → Posed (suc i) L y → length L ≤ most_points → Parted i L l m at
    → (us vs : List ℤ) → Solution (suc i) L x us → Solution (suc i) L y vs → ⊥
