-- A turn of the solver's recursion, as the code takes it: over the lists that it holds.
use mathlib.Core.Path.{◌≡◌, refl, sym, ap, ◌∙◌, subst}
use mathlib.Core.Logic.{◌↔◌}
use mathlib.Core.Bool.{Bool, true, false, cond}
use Rattle.std.specs.Prelude.{Option, Some, None}
use mathlib.Core.List.{List, [], ◌∷◌, ◌++◌}
use Prim.Native.Nat.{ℕ, zero, suc, ◌+◌, ◌*◌, ◌-◌, ◌^◌, ◌%◌, ◌<◌, ◌≤◌}
use native.Mathlib.Omega.{arith}
use native.Mathlib.Nat.{zero-div, zero-mod}
use lib.Dec.{leb}
use lib.IntN.{ℤ, pos, nat_abs, ◌+ℤ◌, ◌*ℤ◌, +ℤ_idr}
use lib.ListN.{length, get_or, take, drop, set, replicate, length-take, length-drop, length-append}
use lib.Seq.{sets, length-take-le, take_all, take-append_seam, get_or-take, get_or-drop}
use Rattle.refusals.specs.Limits.{most_points}
use Rattle.integers.specs.Sums.{sum_abs, Within}
use Rattle.integers.proofs.Diff.{one-*ℤ}
use Rattle.integers.proofs.Abs.{abs_sum}
use Rattle.signs.specs.Lists.{Below, Rising}
use Rattle.integers.specs.Powers.{power}
use Rattle.signs.specs.Signs.{sign, weighted}
use Rattle.signs.specs.Adapted.{restrictions, adapted}
use Rattle.adapted.specs.Split.{count_of, chosen, Split}
use Rattle.adapted.proofs.Adapting.{adapted-nil, adapted_single, fronts_restrictions, fronts_chosen, fronts_marks}
use Rattle.signs.proofs.Lists.{restrictions_holds}
use Rattle.signs.proofs.Extend.{restrictions-rising}
use Rattle.signs.proofs.Positions.{place_of}
use Rattle.adapted.proofs.Stores.{take_sets}
use Rattle.solver_moments.specs.Moments.{Second, Third, rank, addend, Spread, Fitting, CombinedBoth}
use Rattle.integers.proofs.Sums.{within_of, within_more}
use Rattle.solver_moments.proofs.Laws.{abs_second, abs_third}
use Rattle.solver_residuals.proofs.Gathering.{below_all}
use Rattle.solutions.specs.Solution.{Posed, Solution}
use Rattle.solver_residuals.specs.Residuals.{residuals}
use Rattle.solver_recursion.specs.Steps.{SolvesBoth, Parted, between, asked₂, asked₃, Moments, PutBoth, MomentsBoth}
use Rattle.solutions.proofs.Bounds.{solution_small}
use Rattle.solver_recursion.proofs.Steps.{three, first, second, third, numbers, finish}

-- ---- the ends of the recursion

pub no_patterns : (i : ℕ) (L : List ℕ) (x out : List ℤ) → length L ≡ 0 → length x ≡ length L → length out ≡ length L → Solution i L x out
no_patterns i [] [] [] h e f = record { one_each = refl; give = rw (adapted-nil i) refl; small = unfold sum_abs in omega arith }
no_patterns i [] [] (y ∷ out) h e f = absurd (omega arith)
no_patterns i [] (y ∷ x) out h e f = absurd (omega arith)
no_patterns i (p ∷ L) x out h e f = absurd (omega arith)

sign_none : (s p : ℕ) → sign s 0 p ≡ pos 1
unfolding sign power
sign_none zero p = refl
sign_none (suc s) p = rw (zero-div (3 ^ s), zero-mod (3 ^ s), sign_none s (p % 3 ^ s)) refl

single_query : (i p : ℕ) (y : ℤ) → weighted i (p ∷ []) (y ∷ []) 0 ≡ y
unfolding weighted
single_query i p y = +ℤ_idr (sign i 0 p *ℤ y) ∙ ap (λ (z : ℤ). z *ℤ y) (sign_none i p) ∙ one-*ℤ y

pub one_pattern : (i : ℕ) (L : List ℕ) (x out : List ℤ) (y : ℤ) → length L ≡ 1 → Below (3 ^ i) L → length x ≡ length L
    → length out ≡ length L → Within 64 x
    → y ≡ get_or x 0 (pos 0) → Solution i L x (set out 0 y)
unfolding Below sum_abs
one_pattern i [] x out y h b e f w q = absurd (omega arith)
one_pattern i (p ∷ p' ∷ L) x out y h b e f w q = absurd (omega arith)
one_pattern i (p ∷ []) [] out y h b e f w q = absurd (omega arith)
one_pattern i (p ∷ []) (z ∷ z' ∷ x) out y h b e f w q = absurd (omega arith)
one_pattern i (p ∷ []) (z ∷ []) [] y h b e f w q = absurd (omega arith)
one_pattern i (p ∷ []) (z ∷ []) (o ∷ o' ∷ out) y h b e f w q = absurd (omega arith)
one_pattern i (p ∷ []) (z ∷ []) (o ∷ []) y h b e f w q =
    record {
      one_each = refl;
      give = rw (adapted_single i p b.0) (ap (λ (t : ℤ). t ∷ []) (single_query i p y ∙ q));
      small = rw q (omega (arith, w.at 0));
    }

-- ---- sizes

pub within-sum : (n : ℕ) (v : List ℤ) → sum_abs v ≤ n → Within n v
within-sum n v h = record { at = λ j. omega (arith, one v j) }
  where
    one : (v : List ℤ) (j : ℕ) → nat_abs (get_or v j (pos 0)) ≤ sum_abs v
    one [] zero = omega arith
    one [] (suc j) = omega arith
    one (x ∷ v) zero = unfold sum_abs in omega arith
    one (x ∷ v) (suc j) = shift (one v j)
      where
        shift : nat_abs (get_or v j (pos 0)) ≤ sum_abs v → nat_abs (get_or v j (pos 0)) ≤ sum_abs (x ∷ v)
        shift h = unfold sum_abs in omega arith

pub second-within : (n : ℕ) (m : List ℕ) (d e : List ℤ) → Second m d e → length e ≡ length m → Within n d → Within n e
second-within n m d e K l w = within_of n e (λ k h. rw (K.at k (omega arith)) (abs_second (get_or m k 0) (get_or d k (pos 0)) n (w.at k)))

pub third-within : (n : ℕ) (m : List ℕ) (d e g : List ℤ) → Third m d e g → length g ≡ length m → Within n d → Within n e → Within n g
third-within n m d e g K l v w =
    within_of n g (λ k h. rw (K.at k (omega arith)) (abs_third (get_or m k 0) (get_or d k (pos 0)) (get_or e k (pos 0)) n (v.at k)
    (w.at k)))

addend_small : (k : ℕ) (m : List ℕ) (f : List ℤ) (j n : ℕ) → Within n f → nat_abs (addend k m f j) ≤ n
unfolding addend
addend_small k m f j n w = go (leb k (count_of (get_or m j 0)))
  where
    go : (b : Bool) → nat_abs (cond b (get_or f (rank k m j) (pos 0)) (pos 0)) ≤ n
    go true = w.at (rank k m j)
    go false = omega arith

pub spread_within : (n k : ℕ) (m : List ℕ) (f v w : List ℤ) → Spread k m f v w → length w ≡ length m → Within n v → Within 64 f
    → Within (n + 64) w
spread_within n k m f v w G l a b =
    within_of (n + 64) w (λ j h.
    rw (G.at j (omega arith)) (omega (arith, abs_sum (get_or v j (pos 0)) (addend k m f j), a.at j, addend_small k m f j 64 b)))

-- ---- one of the two later moments

spread_none : (k : ℕ) (m : List ℕ) (v : List ℤ) → Spread k m [] v v
unfolding addend
spread_none k m v =
    record {
      at = λ j h. sym (ap (λ (z : ℤ). get_or v j (pos 0) +ℤ z) (nothing (leb k (count_of (get_or m j 0))) (rank k m j))
          ∙ +ℤ_idr (get_or v j (pos 0)));
    }
  where
    nothing : (b : Bool) (j : ℕ) → cond b (get_or [] j (pos 0)) (pos 0) ≡ pos 0
    nothing true zero = refl
    nothing true (suc j) = refl
    nothing false j = refl

pub moment_none : (i : ℕ) (l m : List ℕ) (k : ℕ) (r t v w : List ℤ) → length l ≡ 0 → r ≡ [] → t ≡ [] → PutBoth i l m k r t v w v w (Some tt)
moment_none i [] m k r t v w h e f = (([], rw e nothing, spread_none k m v), ([], rw f nothing, spread_none k m w))
  where
    nothing : Solution i [] [] []
    nothing = record { one_each = refl; give = rw (adapted-nil i) refl; small = unfold sum_abs in omega arith }
moment_none i (p ∷ l) m k r t v w h e f = absurd (omega arith)

pub residuals_none : (i : ℕ) (l' l : List ℕ) (v x : List ℤ) → length l' ≡ 0 → residuals i l v (adapted i l') x ≡ []
unfolding residuals
residuals_none i [] l v x h = rw (adapted-nil i) refl
residuals_none i (p ∷ l') l v x h = absurd (omega arith)

-- what remains is too large
pub both_too_large : (i : ℕ) (l : List ℕ) (r t : List ℤ) → (Within 64 r → Within 64 t → ⊥) → (fs hs : List ℤ) → Solution i l r fs
    → Solution i l t hs → ⊥
both_too_large i l r t f fs hs S T = f (solution_small i l r fs S) (solution_small i l t hs T)

-- ---- a turn, over the lists that the code holds

abbrev Unsolved : ℕ → List ℕ → List ℤ → Type 0
Unsolved i L x = (ws : List ℤ) → Solution i L x ws → ⊥

pub record Turn (i : ℕ) (L l l₂ l₃ m at : List ℕ) (x : List ℤ) : Type 0 where
  pub no_first : Unsolved i l (take (length l) x) → Unsolved (suc i) L x
  pub no_second : (d e₀ : List ℤ) → Solution i l (take (length l) x) d → length e₀ ≡ length l → Second m d e₀
      → Unsolved i l₂ (residuals i l e₀ (adapted i l₂) (between (length l) (length l + length l₂) x)) → Unsolved (suc i) L x
  pub no_third : (d e₀ f e g₀ : List ℤ) → Solution i l (take (length l) x) d → length e₀ ≡ length l → Second m d e₀
      → Solution i l₂ (residuals i l e₀ (adapted i l₂) (between (length l) (length l + length l₂) x)) f → length e ≡ length l
      → Spread 2 m f e₀ e
      → length g₀ ≡ length l → Third m d e g₀
      → Unsolved i l₃ (residuals i l g₀ (adapted i l₃) (between (length l + length l₂) (length x) x)) → Unsolved (suc i) L x
  -- the numbers of a solution are those that the moments give, and numbers that the moments give are a solution
  pub last : (d e₀ f e g₀ h g ws : List ℤ) → Solution i l (take (length l) x) d → length e₀ ≡ length l → Second m d e₀
      → Solution i l₂ (residuals i l e₀ (adapted i l₂) (between (length l) (length l + length l₂) x)) f → length e ≡ length l
      → Spread 2 m f e₀ e
      → length g₀ ≡ length l → Third m d e g₀
      → Solution i l₃ (residuals i l g₀ (adapted i l₃) (between (length l + length l₂) (length x) x)) h → length g ≡ length l
      → Spread 3 m h g₀ g
      → Solution (suc i) L x ws ↔ Fitting (3 ^ i) L at d e g ws

less : (n k : ℕ) → n + k - n ≡ k
less n k = omega arith

turn_restrictions : (i : ℕ) (L m at : List ℕ) (x : List ℤ) → Posed (suc i) L x
    → Parted i L (restrictions 1 i L) m at → Turn i L (restrictions 1 i L) (restrictions 2 i L) (restrictions 3 i L) m at x
turn_restrictions i L m at x P Q =
    record {
      no_first = first i L m at x P Q;
      no_second = λ d e₀ S₁ le K n. second i L m at x P Q d S₁ e₀ le K (rw second-part at n);
      no_third =
          λ d e₀ f e g₀ S₁ le K S₂ le' G lg K₃ n.
          third i L m at x P Q d S₁ e₀ le K f e Q.second (rw second-part at S₂) le' G g₀ lg K₃ (rw third-part at n);
      last =
          λ d e₀ f e g₀ h g ws S₁ le K S₂ le' G lg K₃ S₃ lg' G₃.
          let S₂' = rw second-part at S₂ in
          let S₃' = rw third-part at S₃ in (
            λ S. record {
              one_each = S.one_each;
              numbers = numbers i L m at x P Q d S₁ e₀ le K f e Q.second S₂' le' G g₀ lg K₃ h g Q.third S₃' lg' G₃ ws S;
              small = S.small;
            },
            λ F. finish i L m at x P Q d S₁ e₀ le K f e Q.second S₂' le' G g₀ lg K₃ h g Q.third S₃' lg' G₃ ws F.one_each
                F.numbers F.small,
          );
    }
  where
    second-part : between (length (restrictions 1 i L)) (length (restrictions 1 i L) + length (restrictions 2 i L)) x
        ≡ take (length (restrictions 2 i L)) (drop (length (restrictions 1 i L)) x)
    second-part =
        ap (λ (n : ℕ). take n (drop (length (restrictions 1 i L)) x)) (less (length (restrictions 1 i L)) (length (restrictions 2 i L)))

    third-part : between (length (restrictions 1 i L) + length (restrictions 2 i L)) (length x) x
        ≡ drop (length (restrictions 1 i L) + length (restrictions 2 i L)) x
    third-part =
        take_all (length x - (length (restrictions 1 i L) + length (restrictions 2 i L)))
        (drop (length (restrictions 1 i L) + length (restrictions 2 i L)) x)
        (omega (arith, length-drop (length (restrictions 1 i L) + length (restrictions 2 i L)) x))

-- what the merge leaves
pub parted : (i n : ℕ) (L low mark at : List ℕ) → length L ≤ length low → length L ≤ length mark → length L ≤ length at
    → Split (3 ^ i) L n low mark at → Parted i L (take n low) (take n mark) (take (length L) at)
parted i n L low mark at a b c s =
    let a' : n ≤ length low = omega (arith, s.few) in
    let b' : n ≤ length mark = omega (arith, s.few) in
    let la = length-take-le n low a' in
    record {
      left = fronts_restrictions i n L low mark at s a' b';
      second = fronts_chosen i n L low mark at s a' b' 2 (omega arith);
      third = fronts_chosen i n L low mark at s a' b' 3 (omega arith);
      marked = length-take-le n mark b' ∙ sym la;
      few = fronts_marks i n L low mark at s a' b';
      marks = λ j h. let k : j < n = omega arith in rw (get_or-take n mark j 0 k, get_or-take n low j 0 k) (s.marks j k);
      noted = λ k h. rw (get_or-take (length L) at k 0 h, la) (s.noted k h);
      places = λ k h. rw (get_or-take (length L) at k 0 h, get_or-take n low (get_or at k 0) 0 (s.noted k h)) (s.places k h);
    }

-- ---- what the code lends on

-- a list at the front of an array
pub front_list : (xs l₀ l : List ℕ) (n : ℕ) → n ≡ length xs → n ≤ length l₀ → l ≡ sets l₀ 0 xs → take n l ≡ xs
front_list xs l₀ l n e h p = rw p (take_sets xs l₀ n e h)

pub below-three : (i : ℕ) (l : List ℕ) → Below (3 ^ suc i) l → Below (3 * 3 ^ i) l
below-three i l b = subst (λ (n : ℕ). Below n l) (three i) b
  where
    three : (i : ℕ) → 3 ^ suc i ≡ 3 * 3 ^ i
    three i = omega arith

pub within-take : (n k : ℕ) (x : List ℤ) → Within n x → Within n (take k x)
within-take n k x w =
    within_of n (take k x)
    (λ j h. let q : j < k = omega (arith, length-take k x) in rw (get_or-take k x j (pos 0) q) (w.at j))

pub within_between : (n a e : ℕ) (x : List ℤ) → Within n x → Within n (between a e x)
within_between n a e x w = within-take n (e - a) (drop a x) (record { at = λ j. rw (get_or-drop a x j (pos 0)) (w.at (a + j)) })

-- what lies in an array of zeros past its first n, and a slice that was written at the front of it
abbrev pub spare : ℕ → List ℤ
spare n = drop n (replicate most_points (pos 0))

pub front_of : (n : ℕ) (r z : List ℤ) → length r ≡ n → take n (r ++ z) ≡ r
front_of n r z e = rw (← e) (take-append_seam r z)

pub long_front : (n : ℕ) (r z : List ℤ) → length r ≡ n → n ≤ length (r ++ z)
long_front n r z e = omega (arith, length-append r z)

pub count_front : (n : ℕ) (r z : List ℤ) → length r ≡ n → n ≡ length (take n (r ++ z))
count_front n r z e = rw (front_of n r z e) (sym e)

-- what a turn has, from what it is given
pub record Room (i : ℕ) (L l l₂ l₃ m at : List ℕ) (x : List ℤ) : Type 0 where
  pub rising : Rising l
  pub below : Below (3 ^ i) l
  pub sizes : length x ≡ length l + (length l₂ + length l₃)
  pub turns : Turn i L l l₂ l₃ m at x

pub room : (i : ℕ) (L l m at : List ℕ) (x : List ℤ) → Posed (suc i) L x → Parted i L l m at
    → Room i L l (chosen 2 l m) (chosen 3 l m) m at x
room i L l m at x P Q =
    subst (λ (y : List ℕ). Room i L l (chosen 2 l m) y m at x) (sym Q.third)
    (subst (λ (y : List ℕ). Room i L l y (restrictions 3 i L) m at x) (sym Q.second)
    (subst (λ (y : List ℕ). Room i L y (restrictions 2 i L) (restrictions 3 i L) m at x) (sym Q.left)
    (over-restrictions (subst (λ (y : List ℕ). Parted i L y m at) Q.left Q))))
  where
    over-restrictions : Parted i L (restrictions 1 i L) m at
        → Room i L (restrictions 1 i L) (restrictions 2 i L) (restrictions 3 i L) m at x
    over-restrictions R =
        record {
          rising = restrictions-rising 1 i L;
          below = below_all (3 ^ i) (restrictions 1 i L) (λ q h. (restrictions_holds 1 i L q h).0);
          sizes = three i L m at x P R;
          turns = turn_restrictions i L m at x P R;
        }

pub long-between : (a n k : ℕ) (x : List ℤ) → a + n ≤ length x → k ≡ a + n → length (between a k x) ≡ n
long-between a n k x h e = rw (e, less a n) (length-take-le n (drop a x) (omega (arith, length-drop a x)))

pub long_rest : (a n : ℕ) (x : List ℤ) → length x ≡ a + n → length (between a (length x) x) ≡ n
long_rest a n x h = omega (arith, length-take (length x - a) (drop a x), length-drop a x)

-- ---- the two systems together

-- where one step of both fails, the whole does
neither : {A B X Y : List ℤ → Type 0} → (((a : List ℤ) → A a → ⊥) → (ws : List ℤ) → X ws → ⊥)
    → (((b : List ℤ) → B b → ⊥) → (ws : List ℤ) → Y ws → ⊥) → ((a b : List ℤ) → A a → B b → ⊥)
    → (us vs : List ℤ) → X us → Y vs → ⊥
neither p q f us vs S T = p (λ a A. q (λ b B. f a b A B) vs T) us S

module _ (i : ℕ) (l m : List ℕ) (x y : List ℤ) where
  -- no moments for both, as `MomentsBoth` says it
  abbrev pub NoMoments : Type 0
  NoMoments =
      (L at : List ℕ) → Posed (suc i) L x → Posed (suc i) L y → length L ≤ 64 → Parted i L l m at
      → (us vs : List ℤ) → Solution (suc i) L x us → Solution (suc i) L y vs → ⊥

  pub none_first : SolvesBoth i l (take (length l) x) (take (length l) y) x y None → NoMoments
  none_first f L at P P' n Q =
      neither (room i L l m at x P Q).turns.no_first (room i L l m at y P' Q).turns.no_first f

  module _ (d d' e₀ e₀' : List ℤ) (S : Solution i l (take (length l) x) d) (S' : Solution i l (take (length l) y) d')
      (le : length e₀ ≡ length l) (le' : length e₀' ≡ length l) (K : Second m d e₀) (K' : Second m d' e₀') where
    abbrev pub r₂ : List ℤ
    r₂ = residuals i l e₀ (adapted i (chosen 2 l m)) (asked₂ l m x)

    abbrev pub t₂ : List ℤ
    t₂ = residuals i l e₀' (adapted i (chosen 2 l m)) (asked₂ l m y)

    pub none_second : ((fs hs : List ℤ) → Solution i (chosen 2 l m) r₂ fs → Solution i (chosen 2 l m) t₂ hs → ⊥) → NoMoments
    none_second f L at P P' n Q =
        neither ((room i L l m at x P Q).turns.no_second d e₀ S le K) ((room i L l m at y P' Q).turns.no_second d' e₀' S' le' K') f

    module _ (f f' e e' g₀ g₀' : List ℤ) (S₂ : Solution i (chosen 2 l m) r₂ f) (S₂' : Solution i (chosen 2 l m) t₂ f')
        (k : length e ≡ length l) (k' : length e' ≡ length l) (G : Spread 2 m f e₀ e) (G' : Spread 2 m f' e₀' e')
        (lg : length g₀ ≡ length l) (lg' : length g₀' ≡ length l) (H : Third m d e g₀) (H' : Third m d' e' g₀') where
      abbrev pub r₃ : List ℤ
      r₃ = residuals i l g₀ (adapted i (chosen 3 l m)) (asked₃ l m x)

      abbrev pub t₃ : List ℤ
      t₃ = residuals i l g₀' (adapted i (chosen 3 l m)) (asked₃ l m y)

      pub with_third : (g g' : List ℤ) (b : Option (Unit {0})) → length g ≡ length l → length g' ≡ length l
          → PutBoth i (chosen 3 l m) m 3 r₃ t₃ g₀ g₀' g g' b → MomentsBoth i l m x y d e g d' e' g' b
      with_third g g' (Some _) n n' ((h, S₃, P), (h', S₃', P')) = (
        record {
          first = S;
          e₀ = e₀;
          long_e₀ = le;
          second = K;
          f = f;
          solved₂ = S₂;
          long_e = k;
          put₂ = G;
          g₀ = g₀;
          long_g₀ = lg;
          third = H;
          h = h;
          solved₃ = S₃;
          long_g = n;
          put₃ = P;
        },
        record {
          first = S';
          e₀ = e₀';
          long_e₀ = le';
          second = K';
          f = f';
          solved₂ = S₂';
          long_e = k';
          put₂ = G';
          g₀ = g₀';
          long_g₀ = lg';
          third = H';
          h = h';
          solved₃ = S₃';
          long_g = n';
          put₃ = P';
        },
      )
      with_third g g' None n n' none =
          λ L at P P' s Q. neither ((room i L l m at x P Q).turns.no_third d e₀ f e g₀ S le K S₂ k G lg H)
          ((room i L l m at y P' Q).turns.no_third d' e₀' f' e' g₀' S' le' K' S₂' k' G' lg' H') none

-- the numbers of a solution are those that the moments give, and the other way
by_moments : (i : ℕ) (L l m at : List ℕ) (x d e g ws : List ℤ) → Posed (suc i) L x → Parted i L l m at → Moments i l m x d e g
    → Solution (suc i) L x ws ↔ Fitting (3 ^ i) L at d e g ws
by_moments i L l m at x d e g ws P Q M =
    (room i L l m at x P Q).turns.last d M.e₀ M.f e M.g₀ M.h g ws M.first M.long_e₀ M.second M.solved₂ M.long_e
    M.put₂ M.long_g₀ M.third M.solved₃ M.long_g M.put₃

pub combined : (i : ℕ) (L l m at : List ℕ) (x y d e g d' e' g' u v : List ℤ) (b : Option (Unit {0})) → Posed (suc i) L x → Posed (suc i) L y
    → Parted i L l m at → Moments i l m x d e g → Moments i l m y d' e' g'
    → CombinedBoth (3 ^ i) L at d e g d' e' g' u v b → SolvesBoth (suc i) L x y u v b
combined i L l m at x y d e g d' e' g' u v (Some _) P P' Q M M' (F, F') =
    ((by_moments i L l m at x d e g u P Q M).1 F, (by_moments i L l m at y d' e' g' v P' Q M').1 F')
combined i L l m at x y d e g d' e' g' u v None P P' Q M M' f =
    λ us vs S S'. f us vs ((by_moments i L l m at x d e g us P Q M).0 S) ((by_moments i L l m at y d' e' g' vs P' Q M').0 S')

-- moments are small
pub moments_within : (i : ℕ) (l m : List ℕ) (x d e g : List ℤ) → length m ≡ length l → Moments i l m x d e g
    → Within 256 d × Within 256 e × Within 256 g
moments_within i l m x d e g lm M =
    let wd = within-sum 64 d M.first.small in
    let we₀ = second-within 64 m d M.e₀ M.second (M.long_e₀ ∙ sym lm) wd in
    let we = spread_within 64 2 m M.f M.e₀ e M.put₂ (M.long_e ∙ sym lm) we₀ (within-sum 64 M.f M.solved₂.small) in
    let wg₀ = third-within 128 m d e M.g₀ M.third (M.long_g₀ ∙ sym lm) (within_more 64 128 d (omega arith) wd) we in
    let wg = spread_within 128 3 m M.h M.g₀ g M.put₃ (M.long_g ∙ sym lm) wg₀ (within-sum 64 M.h M.solved₃.small) in
    (within_more 64 256 d (omega arith) wd, within_more 128 256 e (omega arith) we, within_more 192 256 g (omega arith) wg)

pub below-places : (i n : ℕ) (L l m at : List ℕ) → Parted i L l m at → length at ≡ length L → n ≡ length l → Below n at
below-places i n L l m at Q e h =
    below_all n at (λ q k. let (j, f, g) = place_of q at k in rw h (subst (λ (y : ℕ). y < length l) g (Q.noted j (omega arith))))
