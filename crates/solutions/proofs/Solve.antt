-- Theorem: `solve` finds the weight wherever there is one. For every list of patterns and all numbers asked on its adapted list, whole
-- numbers on the patterns give them or none do, and taking one polynomial off at each step decides it. A whole number is a difference p −
-- n.
use mathlib.Core.Path.{◌≡◌, refl, sym, ap, ◌∙◌, subst}
use mathlib.Core.Logic.{◌⊎◌, inl, inr}
use mathlib.Core.Bool.{Bool, true, false, cond}
use mathlib.Core.List.{List, [], ◌∷◌}
use mathlib.Core.Option.{Option, some, none}
use Prim.Native.Nat.{ℕ, zero, suc, ◌+◌, ◌*◌, ◌-◌, ◌^◌, ◌/◌, ◌%◌, min, ◌<◌, ◌≤◌}
use native.Mathlib.Omega.{arith}
use native.Mathlib.Decide.{ℕ_discrete, dec_lt}
use lib.Dec.{T, eqb, eqb→eq, ltb, lt→ltb, ltb→lt}
use Rattle.integers.proofs.Tests.{is_true, is_false, T_of}
use Rattle.signs.specs.Adapted.{signs_of, restrictions, adapted}
use Rattle.signs.specs.Lists.{times}
use Rattle.signs.proofs.Blocks.{adapted-0, adapted-1, adapted-2, adapted_cases, adapted_below}
use Rattle.signs.proofs.Digits.{split}
use Rattle.signs.proofs.Lists.{times-nil, times-same, times-one, restrictions-out, restrictions_holds}
use Rattle.signs.proofs.Size.{Under, restrictions_under}
use Rattle.signs.proofs.Tallies.{fold, tally, tally-at, tally_ext, plus, tally_plus}
use Rattle.signs.proofs.Unique.{unique}
use Rattle.solutions.specs.Solver.{Weight, ◌⊕◌, ◌⊖◌, half, all_even, queries, block, known1, known2, known_difference, known_sum, glue}
use Rattle.solutions.specs.Solver.{by_sign, and_then, combine, solve}

-- ---- what a solution is

-- p − n vanishes outside L, and its query at each product α of L's adapted list is dp α − dn α
pub record Solves (s : ℕ) (L : List ℕ) (dp dn p n : ℕ → ℕ) : Type 0 where
  pub out : (q : ℕ) → q < 3 ^ s → times q L ≡ 0 → p q ≡ n q
  pub eqs : (α : ℕ) → 0 < times α (adapted s L) → tally s α p n + dn α ≡ tally s α n p + dp α

-- there is one solution
pub solves_same : (s : ℕ) (L : List ℕ) (dp dn p n p' n' : ℕ → ℕ) → Solves s L dp dn p n → Solves s L dp dn p' n'
    → (q : ℕ) → q < 3 ^ s → p q + n' q ≡ n q + p' q
solves_same s L dp dn p n p' n' S S' =
    unique s L (plus p n') (plus n p') (λ q h o. omega (arith, S.out q h o, S'.out q h o))
    (λ α m. omega (arith, tally_plus s α p n' n p', tally_plus s α n p' p n', S.eqs α m, S'.eqs α m))

-- weights with the same differences have the same queries
pub tally_diff : (i α : ℕ) (p n p' n' : ℕ → ℕ) → ((q : ℕ) → q < 3 ^ i → p q + n' q ≡ n q + p' q)
    → tally i α p n + tally i α n' p' ≡ tally i α n p + tally i α p' n'
tally_diff i α p n p' n' e =
    omega (
      arith,
      tally_plus i α p n' n p',
      tally_plus i α n p' p n',
      tally_ext i α (plus p n') (plus n p') (plus n p') (plus p n') e (λ q h. sym (e q h)),
    )

-- ---- one pattern of P1 .. Pi with the three signs of P(i+1)

-- a solution's difference of + and − is the known one where at most one sign stands in the list
only-1 : (t₀ t₁ t₂ p₀ p₁ p₂ n₀ n₁ n₂ u u' : ℕ) → (t₀ ≡ 0 → p₀ ≡ n₀) → (t₁ ≡ 0 → p₁ ≡ n₁) → (t₂ ≡ 0 → p₂ ≡ n₂)
    → min 1 t₀ + min 1 t₁ + min 1 t₂ < 2 → p₀ + p₁ + p₂ + u' ≡ n₀ + n₁ + n₂ + u
    → p₁ + n₂ + known1 t₀ t₁ t₂ u' u ≡ n₁ + p₂ + known1 t₀ t₁ t₂ u u'
unfolding known1
only-1 zero zero zero p₀ p₁ p₂ n₀ n₁ n₂ u u' h₀ h₁ h₂ m e = omega (arith, h₀ refl, h₁ refl, h₂ refl)
only-1 zero zero (suc t₂) p₀ p₁ p₂ n₀ n₁ n₂ u u' h₀ h₁ h₂ m e = omega (arith, h₀ refl, h₁ refl)
only-1 zero (suc t₁) zero p₀ p₁ p₂ n₀ n₁ n₂ u u' h₀ h₁ h₂ m e = omega (arith, h₀ refl, h₂ refl)
only-1 zero (suc t₁) (suc t₂) p₀ p₁ p₂ n₀ n₁ n₂ u u' h₀ h₁ h₂ m e = absurd (omega arith)
only-1 (suc t₀) zero zero p₀ p₁ p₂ n₀ n₁ n₂ u u' h₀ h₁ h₂ m e = omega (arith, h₁ refl, h₂ refl)
only-1 (suc t₀) zero (suc t₂) p₀ p₁ p₂ n₀ n₁ n₂ u u' h₀ h₁ h₂ m e = absurd (omega arith)
only-1 (suc t₀) (suc t₁) t₂ p₀ p₁ p₂ n₀ n₁ n₂ u u' h₀ h₁ h₂ m e = absurd (omega arith)

-- and its sum of + and − is the known one where at most two do
only-2 : (t₀ t₁ t₂ p₀ p₁ p₂ n₀ n₁ n₂ u u' v v' : ℕ) → (t₀ ≡ 0 → p₀ ≡ n₀) → (t₁ ≡ 0 → p₁ ≡ n₁) → (t₂ ≡ 0 → p₂ ≡ n₂)
    → min 1 t₀ + min 1 t₁ + min 1 t₂ < 3 → p₀ + p₁ + p₂ + u' ≡ n₀ + n₁ + n₂ + u → p₁ + n₂ + v' ≡ n₁ + p₂ + v
    → p₁ + p₂ + known2 t₀ t₁ t₂ u' v' v ≡ n₁ + n₂ + known2 t₀ t₁ t₂ u v v'
unfolding known2
only-2 zero zero zero p₀ p₁ p₂ n₀ n₁ n₂ u u' v v' h₀ h₁ h₂ m e f = omega (arith, h₀ refl, h₁ refl, h₂ refl)
only-2 zero zero (suc t₂) p₀ p₁ p₂ n₀ n₁ n₂ u u' v v' h₀ h₁ h₂ m e f = omega (arith, h₀ refl, h₁ refl)
only-2 zero (suc t₁) t₂ p₀ p₁ p₂ n₀ n₁ n₂ u u' v v' h₀ h₁ h₂ m e f = omega (arith, h₀ refl)
only-2 (suc t₀) zero zero p₀ p₁ p₂ n₀ n₁ n₂ u u' v v' h₀ h₁ h₂ m e f = omega (arith, h₁ refl, h₂ refl)
only-2 (suc t₀) zero (suc t₂) p₀ p₁ p₂ n₀ n₁ n₂ u u' v v' h₀ h₁ h₂ m e f = omega (arith, h₁ refl)
only-2 (suc t₀) (suc t₁) zero p₀ p₁ p₂ n₀ n₁ n₂ u u' v v' h₀ h₁ h₂ m e f = omega (arith, h₂ refl)
only-2 (suc t₀) (suc t₁) (suc t₂) p₀ p₁ p₂ n₀ n₁ n₂ u u' v v' h₀ h₁ h₂ m e f = absurd (omega arith)

-- the other way round: from the sum u, the difference V and the sum T of + and −, no weight where a sign does not stand in the list.
-- x − x' is what the solver adds to the known part: nothing where there are too few signs
module _ (u u' x x' y y' : ℕ) where
  -- V and T
  vp : (t₀ t₁ t₂ : ℕ) → ℕ
  vp t₀ t₁ t₂ = known1 t₀ t₁ t₂ u u' + x

  vn : (t₀ t₁ t₂ : ℕ) → ℕ
  vn t₀ t₁ t₂ = known1 t₀ t₁ t₂ u' u + x'

  tp : (t₀ t₁ t₂ : ℕ) → ℕ
  tp t₀ t₁ t₂ = known2 t₀ t₁ t₂ u (vp t₀ t₁ t₂) (vn t₀ t₁ t₂) + y

  tn : (t₀ t₁ t₂ : ℕ) → ℕ
  tn t₀ t₁ t₂ = known2 t₀ t₁ t₂ u' (vn t₀ t₁ t₂) (vp t₀ t₁ t₂) + y'

  no_0 : (t₁ t₂ : ℕ) → (min 1 t₁ + min 1 t₂ < 1 → u ≡ u') → (min 1 t₁ + min 1 t₂ < 2 → x ≡ x') → y ≡ y'
      → u + tn 0 t₁ t₂ ≡ u' + tp 0 t₁ t₂
  unfolding known1 known2 vp vn tp tn
  no_0 zero zero h k l = omega (arith, h (omega arith))
  no_0 zero (suc t₂) h k l = omega arith
  no_0 (suc t₁) t₂ h k l = omega arith

  no_1 : (t₀ t₂ : ℕ) → (min 1 t₀ + min 1 t₂ < 2 → x ≡ x') → y ≡ y'
      → tp t₀ 0 t₂ + vp t₀ 0 t₂ ≡ tn t₀ 0 t₂ + vn t₀ 0 t₂
  unfolding known1 known2 vp vn tp tn
  no_1 zero zero k l = omega (arith, k (omega arith))
  no_1 zero (suc t₂) k l = omega (arith, k (omega arith))
  no_1 (suc t₀) zero k l = omega (arith, k (omega arith))
  no_1 (suc t₀) (suc t₂) k l = omega arith

  no_2 : (t₀ t₁ : ℕ) → (min 1 t₀ + min 1 t₁ < 2 → x ≡ x') → y ≡ y'
      → tp t₀ t₁ 0 + vn t₀ t₁ 0 ≡ tn t₀ t₁ 0 + vp t₀ t₁ 0
  unfolding known1 known2 vp vn tp tn
  no_2 zero zero k l = omega (arith, k (omega arith))
  no_2 zero (suc t₁) k l = omega (arith, k (omega arith))
  no_2 (suc t₀) zero k l = omega (arith, k (omega arith))
  no_2 (suc t₀) (suc t₁) k l = omega arith

-- ---- three weights of P1 .. Pi as one of P1 .. P(i+1)

pub ltb_yes : (x y : ℕ) → x < y → ltb x y ≡ true
ltb_yes x y h = is_true (ltb x y) (lt→ltb x y h)

pub ltb_no : (x y : ℕ) → y ≤ x → ltb x y ≡ false
ltb_no x y h = is_false (ltb x y) (λ t. no_lt (ltb→lt x y t))
  where
    no_lt : x < y → ⊥
    no_lt k = omega arith

module _ (i : ℕ) (f₀ f₁ f₂ : ℕ → ℕ) (q : ℕ) (h : q < 3 ^ i) where
  pub glue-0 : glue i f₀ f₁ f₂ q ≡ f₀ q
  unfolding glue
  glue-0 = rw (ltb_yes q (3 ^ i) h) refl

  pub glue-1 : glue i f₀ f₁ f₂ (q + 3 ^ i) ≡ f₁ q
  unfolding glue
  glue-1 = rw (ltb_no (q + 3 ^ i) (3 ^ i) (omega arith), ltb_yes (q + 3 ^ i) (2 * 3 ^ i) (omega arith)) (ap f₁ (omega arith))

  pub glue-2 : glue i f₀ f₁ f₂ (q + 2 * 3 ^ i) ≡ f₂ q
  unfolding glue
  glue-2 = rw (ltb_no (q + 2 * 3 ^ i) (3 ^ i) (omega arith), ltb_no (q + 2 * 3 ^ i) (2 * 3 ^ i) (omega arith)) (ap f₂ (omega arith))

-- ---- one polynomial more

pub restrictions_none : (k i : ℕ) (L : List ℕ) (q : ℕ) → signs_of i L q < k → times q (restrictions k i L) ≡ 0
restrictions_none k i L q h = go (dec_lt 0 (times q (restrictions k i L)))
  where
    go : Dec (0 < times q (restrictions k i L)) → times q (restrictions k i L) ≡ 0
    go (yes m) = absurd (omega (arith, restrictions_holds k i L q m))
    go (no m) = omega arith

module _ (i : ℕ) (L : List ℕ) (dp dn : ℕ → ℕ) where
  abbrev t₀ : ℕ → ℕ
  t₀ q = times q L

  abbrev t₁ : ℕ → ℕ
  t₁ q = times (q + 3 ^ i) L

  abbrev t₂ : ℕ → ℕ
  t₂ q = times (q + 2 * 3 ^ i) L

  at : (x y : ℕ) → x ≡ y → 0 < times x (adapted (suc i) L) → 0 < times y (adapted (suc i) L)
  at x y e h = subst (λ (z : ℕ). 0 < times z (adapted (suc i) L)) e h

  in_0 : (α : ℕ) → 0 < times α (adapted i (restrictions 1 i L)) → 0 < times (α + 0 * 3 ^ i) (adapted (suc i) L)
  in_0 α m = at α (α + 0 * 3 ^ i) (omega arith) (adapted-0 i α L m)

  in_1 : (α : ℕ) → 0 < times α (adapted i (restrictions 2 i L)) → 0 < times (α + 1 * 3 ^ i) (adapted (suc i) L)
  in_1 α m = at (α + 3 ^ i) (α + 1 * 3 ^ i) (omega arith) (adapted-1 i α L m)

  in_2 : (α : ℕ) → 0 < times α (adapted i (restrictions 3 i L)) → 0 < times (α + 2 * 3 ^ i) (adapted (suc i) L)
  in_2 α m = adapted-2 i α L m

  -- ---- what a solution has to be

  module _ (p n : ℕ → ℕ) (S : Solves (suc i) L dp dn p n) where
    block-eq : (k : ℕ) (L' : List ℕ) (α : ℕ) → 0 < times α (adapted i L') → 0 < times (α + k * 3 ^ i) (adapted (suc i) L)
        → tally i α (fold i k p n) (fold i k n p) + dn (α + k * 3 ^ i) ≡ tally i α (fold i k n p) (fold i k p n) + dp (α + k * 3 ^ i)
    block-eq k L' α m m' =
        let b : α < 3 ^ i = adapted_below i α L' m in
        omega (arith, tally-at i k α p n b, tally-at i k α n p b, S.eqs (α + k * 3 ^ i) m')

    pub down_0 : Solves i (restrictions 1 i L) (λ α. dp (α + 0 * 3 ^ i)) (λ α. dn (α + 0 * 3 ^ i)) (fold i 0 p n) (fold i 0 n p)
    down_0 = record { out = λ q h e. zero-out q h e; eqs = λ α m. block-eq 0 (restrictions 1 i L) α m (in_0 α m) }
      where
        zero-out : (q : ℕ) → q < 3 ^ i → times q (restrictions 1 i L) ≡ 0 → fold i 0 p n q ≡ fold i 0 n p q
        zero-out q h e =
            let m : signs_of i L q < 1 = restrictions-out 1 i L q h e in
            unfold fold signs_of in
            omega (
              arith,
              S.out q (omega arith) (omega arith),
              S.out (q + 3 ^ i) (omega arith) (omega arith),
              S.out (q + 2 * 3 ^ i) (omega arith) (omega arith),
            )

  -- ---- with the sums u solved

  module _ (u u' : ℕ → ℕ) (SU : Solves i (restrictions 1 i L) (λ α. dp (α + 0 * 3 ^ i)) (λ α. dn (α + 0 * 3 ^ i)) u u') where
    unfoldable pub kp : ℕ → ℕ
    kp q = known1 (t₀ q) (t₁ q) (t₂ q) (u q) (u' q)

    unfoldable pub kn : ℕ → ℕ
    kn q = known1 (t₀ q) (t₁ q) (t₂ q) (u' q) (u q)

    unfoldable pub vdp : ℕ → ℕ
    vdp α = dp (α + 1 * 3 ^ i) + tally i α kn kp

    unfoldable pub vdn : ℕ → ℕ
    vdn α = dn (α + 1 * 3 ^ i) + tally i α kp kn

    module _ (p n : ℕ → ℕ) (S : Solves (suc i) L dp dn p n) where
      pub sum_is : (q : ℕ) → q < 3 ^ i → fold i 0 p n q + u' q ≡ fold i 0 n p q + u q
      sum_is = solves_same i (restrictions 1 i L) _ _ (fold i 0 p n) (fold i 0 n p) u u' (down_0 p n S) SU

      pub down_1 : Solves i (restrictions 2 i L) vdp vdn (plus (fold i 1 p n) kn) (plus (fold i 1 n p) kp)
      unfolding kp kn vdp vdn
      down_1 = record { out = λ q h e. one_out q h e; eqs = λ α m. one_eqs α m }
        where
          one_out : (q : ℕ) → q < 3 ^ i → times q (restrictions 2 i L) ≡ 0 → plus (fold i 1 p n) kn q ≡ plus (fold i 1 n p) kp q
          one_out q h e =
              let m : signs_of i L q < 2 = restrictions-out 2 i L q h e in
              unfold fold signs_of in
              only-1 (t₀ q) (t₁ q) (t₂ q) _ _ _ _ _ _ (u q) (u' q) (S.out q (omega arith)) (S.out (q + 3 ^ i) (omega arith))
              (S.out (q + 2 * 3 ^ i) (omega arith)) m (sum_is q h)

          one_eqs : (α : ℕ) → 0 < times α (adapted i (restrictions 2 i L))
              → tally i α (plus (fold i 1 p n) kn) (plus (fold i 1 n p) kp) + vdn α
              ≡ tally i α (plus (fold i 1 n p) kp) (plus (fold i 1 p n) kn) + vdp α
          one_eqs α m =
              omega (
                arith,
                tally_plus i α (fold i 1 p n) kn (fold i 1 n p) kp,
                tally_plus i α (fold i 1 n p) kp (fold i 1 p n) kn,
                block-eq p n S 1 (restrictions 2 i L) α m (in_1 α m),
              )

    -- ---- with the differences x of + and − solved, where two signs or more stand in the list

    module _ (x x' : ℕ → ℕ) (SV : Solves i (restrictions 2 i L) vdp vdn x x') where
      unfoldable pub Vp : ℕ → ℕ
      Vp q = kp q + x q

      unfoldable pub Vn : ℕ → ℕ
      Vn q = kn q + x' q

      unfoldable pub lp : ℕ → ℕ
      lp q = known2 (t₀ q) (t₁ q) (t₂ q) (u q) (Vp q) (Vn q)

      unfoldable pub ln : ℕ → ℕ
      ln q = known2 (t₀ q) (t₁ q) (t₂ q) (u' q) (Vn q) (Vp q)

      unfoldable pub tdp : ℕ → ℕ
      tdp α = dp (α + 2 * 3 ^ i) + tally i α ln lp

      unfoldable pub tdn : ℕ → ℕ
      tdn α = dn (α + 2 * 3 ^ i) + tally i α lp ln

      module _ (p n : ℕ → ℕ) (S : Solves (suc i) L dp dn p n) where
        pub difference_is : (q : ℕ) → q < 3 ^ i → fold i 1 p n q + Vn q ≡ fold i 1 n p q + Vp q
        unfolding Vp Vn
        difference_is q h =
            omega (
              arith,
              solves_same i (restrictions 2 i L) vdp vdn (plus (fold i 1 p n) kn) (plus (fold i 1 n p) kp) x x'
                  (down_1 p n S) SV q h,
            )

        pub down_2 : Solves i (restrictions 3 i L) tdp tdn (plus (fold i 2 p n) ln) (plus (fold i 2 n p) lp)
        unfolding lp ln tdp tdn
        down_2 = record { out = λ q h e. two_out q h e; eqs = λ α m. two_eqs α m }
          where
            two_out : (q : ℕ) → q < 3 ^ i → times q (restrictions 3 i L) ≡ 0 → plus (fold i 2 p n) ln q ≡ plus (fold i 2 n p) lp q
            two_out q h e =
                let m : signs_of i L q < 3 = restrictions-out 3 i L q h e in
                unfold fold signs_of in
                only-2 (t₀ q) (t₁ q) (t₂ q) _ _ _ _ _ _ (u q) (u' q) (Vp q) (Vn q) (S.out q (omega arith))
                (S.out (q + 3 ^ i) (omega arith)) (S.out (q + 2 * 3 ^ i) (omega arith)) m
                (sum_is p n S q h) (difference_is q h)

            two_eqs : (α : ℕ) → 0 < times α (adapted i (restrictions 3 i L))
                → tally i α (plus (fold i 2 p n) ln) (plus (fold i 2 n p) lp) + tdn α
                ≡ tally i α (plus (fold i 2 n p) lp) (plus (fold i 2 p n) ln) + tdp α
            two_eqs α m =
                omega (
                  arith,
                  tally_plus i α (fold i 2 p n) ln (fold i 2 n p) lp,
                  tally_plus i α (fold i 2 n p) lp (fold i 2 p n) ln,
                  block-eq p n S 2 (restrictions 3 i L) α m (in_2 α m),
                )

      -- ---- with the sums y of + and − solved, where all three signs do

      module _ (y y' : ℕ → ℕ) (ST : Solves i (restrictions 3 i L) tdp tdn y y') where
        unfoldable pub Tp : ℕ → ℕ
        Tp q = lp q + y q

        unfoldable pub Tn : ℕ → ℕ
        Tn q = ln q + y' q

        -- twice the weight at +, as one number of the same parity
        unfoldable pub doubled : ℕ → ℕ
        doubled q = Tp q + Vp q + (Tn q + Vn q)

        -- a solution's weights at + are whole, so the sum is even
        pub even : (p n : ℕ → ℕ) → Solves (suc i) L dp dn p n → (q : ℕ) → q < 3 ^ i → doubled q % 2 ≡ 0
        unfolding doubled Tp Tn fold
        even p n S q h =
            let a : plus (fold i 2 p n) ln q + y' q ≡ plus (fold i 2 n p) lp q + y q =
            solves_same i (restrictions 3 i L) tdp tdn (plus (fold i 2 p n) ln) (plus (fold i 2 n p) lp) y y' (down_2 p n S) ST q h in
            let b : fold i 1 p n q + Vn q ≡ fold i 1 n p q + Vp q = difference_is p n S q h in
            parity (p (q + 3 ^ i)) (p (q + 2 * 3 ^ i)) (n (q + 3 ^ i)) (n (q + 2 * 3 ^ i)) (lp q + y q) (ln q + y' q) (Vp q) (Vn q)
            (omega arith) (omega arith)
          where
            parity : (p₁ p₂ n₁ n₂ a a' b b' : ℕ) → p₁ + p₂ + a' ≡ n₁ + n₂ + a → p₁ + n₂ + b' ≡ n₁ + p₂ + b → (a + b + (a' + b')) % 2 ≡ 0
            parity p₁ p₂ n₁ n₂ a a' b b' e f = omega arith

        -- ---- the solution

        unfoldable pub w₀ : ℕ → ℕ
        w₀ q = u q + Tn q

        unfoldable pub w₀' : ℕ → ℕ
        w₀' q = u' q + Tp q

        unfoldable pub w₁ : ℕ → ℕ
        w₁ q = ((Tp q + Vp q) - (Tn q + Vn q)) / 2

        unfoldable pub w₁' : ℕ → ℕ
        w₁' q = ((Tn q + Vn q) - (Tp q + Vp q)) / 2

        unfoldable pub w₂ : ℕ → ℕ
        w₂ q = ((Tp q + Vn q) - (Tn q + Vp q)) / 2

        unfoldable pub w₂' : ℕ → ℕ
        w₂' q = ((Tn q + Vp q) - (Tp q + Vn q)) / 2

        unfoldable pub p⁺ : ℕ → ℕ
        p⁺ = glue i w₀ w₁ w₂

        unfoldable pub n⁺ : ℕ → ℕ
        n⁺ = glue i w₀' w₁' w₂'

        -- no weight outside the list
        few-1 : (q : ℕ) → q < 3 ^ i → signs_of i L q < 1 → u q ≡ u' q
        few-1 q h m = SU.out q h (restrictions_none 1 i L q m)

        few-2 : (q : ℕ) → q < 3 ^ i → signs_of i L q < 2 → x q ≡ x' q
        few-2 q h m = SV.out q h (restrictions_none 2 i L q m)

        few-3 : (q : ℕ) → q < 3 ^ i → signs_of i L q < 3 → y q ≡ y' q
        few-3 q h m = ST.out q h (restrictions_none 3 i L q m)

        pub balance_0 : (q : ℕ) → q < 3 ^ i → t₀ q ≡ 0 → u q + Tn q ≡ u' q + Tp q
        unfolding Tp Tn lp ln Vp Vn kp kn tp tn vp vn signs_of
        balance_0 q h e =
            subst (λ (z : ℕ). u q + tn (u q) (u' q) (x q) (x' q) (y q) (y' q) z (t₁ q) (t₂ q)
            ≡ u' q + tp (u q) (u' q) (x q) (x' q) (y q) (y' q) z (t₁ q) (t₂ q)) (sym e)
            (no_0 (u q) (u' q) (x q) (x' q) (y q) (y' q) (t₁ q) (t₂ q) (λ m. few-1 q h (omega arith)) (λ m. few-2 q h (omega arith))
            (few-3 q h (omega arith)))

        pub balance_1 : (q : ℕ) → q < 3 ^ i → t₁ q ≡ 0 → Tp q + Vp q ≡ Tn q + Vn q
        unfolding Tp Tn lp ln Vp Vn kp kn tp tn vp vn signs_of
        balance_1 q h e =
            subst (λ (z : ℕ). tp (u q) (u' q) (x q) (x' q) (y q) (y' q) (t₀ q) z (t₂ q)
            + vp (u q) (u' q) (x q) (x' q) (y q) (y' q) (t₀ q) z (t₂ q)
            ≡ tn (u q) (u' q) (x q) (x' q) (y q) (y' q) (t₀ q) z (t₂ q) + vn (u q) (u' q) (x q) (x' q) (y q) (y' q) (t₀ q) z (t₂ q)) (sym e)
            (no_1 (u q) (u' q) (x q) (x' q) (y q) (y' q) (t₀ q) (t₂ q) (λ m. few-2 q h (omega arith)) (few-3 q h (omega arith)))

        pub balance_2 : (q : ℕ) → q < 3 ^ i → t₂ q ≡ 0 → Tp q + Vn q ≡ Tn q + Vp q
        unfolding Tp Tn lp ln Vp Vn kp kn tp tn vp vn signs_of
        balance_2 q h e =
            subst (λ (z : ℕ). tp (u q) (u' q) (x q) (x' q) (y q) (y' q) (t₀ q) (t₁ q) z
            + vn (u q) (u' q) (x q) (x' q) (y q) (y' q) (t₀ q) (t₁ q) z
            ≡ tn (u q) (u' q) (x q) (x' q) (y q) (y' q) (t₀ q) (t₁ q) z + vp (u q) (u' q) (x q) (x' q) (y q) (y' q) (t₀ q) (t₁ q) z) (sym e)
            (no_2 (u q) (u' q) (x q) (x' q) (y q) (y' q) (t₀ q) (t₁ q) (λ m. few-2 q h (omega arith)) (few-3 q h (omega arith)))

        module _ (ev : (q : ℕ) → q < 3 ^ i → doubled q % 2 ≡ 0) where
          pub halves_1 : (q : ℕ) → q < 3 ^ i → 2 * w₁ q + (Tn q + Vn q) ≡ 2 * w₁' q + (Tp q + Vp q)
          unfolding w₁ w₁' doubled
          halves_1 q h = omega (arith, ev q h)

          pub halves_2 : (q : ℕ) → q < 3 ^ i → 2 * w₂ q + (Tn q + Vp q) ≡ 2 * w₂' q + (Tp q + Vn q)
          unfolding w₂ w₂' doubled
          halves_2 q h = omega (arith, ev q h)

          fold-0_is : (q : ℕ) → q < 3 ^ i → fold i 0 p⁺ n⁺ q + u' q ≡ fold i 0 n⁺ p⁺ q + u q
          unfolding fold p⁺ n⁺ w₀ w₀'
          fold-0_is q h =
              omega (
                arith,
                glue-0 i w₀ w₁ w₂ q h,
                glue-1 i w₀ w₁ w₂ q h,
                glue-2 i w₀ w₁ w₂ q h,
                glue-0 i w₀' w₁' w₂' q h,
                glue-1 i w₀' w₁' w₂' q h,
                glue-2 i w₀' w₁' w₂' q h,
                halves_1 q h,
                halves_2 q h,
              )

          fold-1_is : (q : ℕ) → q < 3 ^ i → fold i 1 p⁺ n⁺ q + Vn q ≡ fold i 1 n⁺ p⁺ q + Vp q
          unfolding fold p⁺ n⁺
          fold-1_is q h =
              omega (
                arith,
                glue-1 i w₀ w₁ w₂ q h,
                glue-2 i w₀ w₁ w₂ q h,
                glue-1 i w₀' w₁' w₂' q h,
                glue-2 i w₀' w₁' w₂' q h,
                halves_1 q h,
                halves_2 q h,
              )

          fold-2_is : (q : ℕ) → q < 3 ^ i → fold i 2 p⁺ n⁺ q + Tn q ≡ fold i 2 n⁺ p⁺ q + Tp q
          unfolding fold p⁺ n⁺
          fold-2_is q h =
              omega (
                arith,
                glue-1 i w₀ w₁ w₂ q h,
                glue-2 i w₀ w₁ w₂ q h,
                glue-1 i w₀' w₁' w₂' q h,
                glue-2 i w₀' w₁' w₂' q h,
                halves_1 q h,
                halves_2 q h,
              )

          -- the queries of each block
          abbrev Meets : ℕ → Type 0
          Meets x = tally (suc i) x p⁺ n⁺ + dn x ≡ tally (suc i) x n⁺ p⁺ + dp x

          right_0 : (α : ℕ) → 0 < times α (adapted i (restrictions 1 i L)) → Meets (α + 0 * 3 ^ i)
          right_0 α m =
              let b : α < 3 ^ i = adapted_below i α (restrictions 1 i L) m in
              omega (
                arith,
                tally-at i 0 α p⁺ n⁺ b,
                tally-at i 0 α n⁺ p⁺ b,
                tally_diff i α (fold i 0 p⁺ n⁺) (fold i 0 n⁺ p⁺) u u' fold-0_is,
                SU.eqs α m,
              )

          right_1 : (α : ℕ) → 0 < times α (adapted i (restrictions 2 i L)) → Meets (α + 1 * 3 ^ i)
          unfolding Vp Vn vdp vdn
          right_1 α m =
              let b : α < 3 ^ i = adapted_below i α (restrictions 2 i L) m in
              omega (
                arith,
                tally-at i 1 α p⁺ n⁺ b,
                tally-at i 1 α n⁺ p⁺ b,
                tally_diff i α (fold i 1 p⁺ n⁺) (fold i 1 n⁺ p⁺) (plus kp x) (plus kn x') fold-1_is,
                tally_plus i α kp x kn x',
                tally_plus i α kn x' kp x,
                SV.eqs α m,
              )

          right_2 : (α : ℕ) → 0 < times α (adapted i (restrictions 3 i L)) → Meets (α + 2 * 3 ^ i)
          unfolding Tp Tn tdp tdn
          right_2 α m =
              let b : α < 3 ^ i = adapted_below i α (restrictions 3 i L) m in
              omega (
                arith,
                tally-at i 2 α p⁺ n⁺ b,
                tally-at i 2 α n⁺ p⁺ b,
                tally_diff i α (fold i 2 p⁺ n⁺) (fold i 2 n⁺ p⁺) (plus lp y) (plus ln y') fold-2_is,
                tally_plus i α lp y ln y',
                tally_plus i α ln y' lp y,
                ST.eqs α m,
              )

          right : (α : ℕ) → 0 < times α (adapted (suc i) L) → Meets α
          right α m = go (adapted_cases i α L m)
            where
              go : (0 < times α (adapted i (restrictions 1 i L)))
                  ⊎ (((a : ℕ) × (α ≡ a + 3 ^ i) × (0 < times a (adapted i (restrictions 2 i L))))
                  ⊎ ((a : ℕ) × (α ≡ a + 2 * 3 ^ i) × (0 < times a (adapted i (restrictions 3 i L)))))
                  → Meets α
              go (inl k) = subst Meets (omega arith) (right_0 α k)
              go (inr (inl (a, e, k))) = subst Meets (omega arith) (right_1 a k)
              go (inr (inr (a, e, k))) = subst Meets (sym e) (right_2 a k)

          out-0 : (q : ℕ) → q < 3 ^ i → times q L ≡ 0 → p⁺ q ≡ n⁺ q
          unfolding p⁺ n⁺ w₀ w₀'
          out-0 q h e = glue-0 i w₀ w₁ w₂ q h ∙ balance_0 q h e ∙ sym (glue-0 i w₀' w₁' w₂' q h)

          out-1 : (q : ℕ) → q < 3 ^ i → times (q + 3 ^ i) L ≡ 0 → p⁺ (q + 3 ^ i) ≡ n⁺ (q + 3 ^ i)
          unfolding p⁺ n⁺ w₁ w₁'
          out-1 q h e = glue-1 i w₀ w₁ w₂ q h ∙ same_half ∙ sym (glue-1 i w₀' w₁' w₂' q h)
            where
              same_half : ((Tp q + Vp q) - (Tn q + Vn q)) / 2 ≡ ((Tn q + Vn q) - (Tp q + Vp q)) / 2
              same_half = rw (balance_1 q h e) refl

          out-2 : (q : ℕ) → q < 3 ^ i → times (q + 2 * 3 ^ i) L ≡ 0 → p⁺ (q + 2 * 3 ^ i) ≡ n⁺ (q + 2 * 3 ^ i)
          unfolding p⁺ n⁺ w₂ w₂'
          out-2 q h e = glue-2 i w₀ w₁ w₂ q h ∙ same_half ∙ sym (glue-2 i w₀' w₁' w₂' q h)
            where
              same_half : ((Tp q + Vn q) - (Tn q + Vp q)) / 2 ≡ ((Tn q + Vp q) - (Tp q + Vn q)) / 2
              same_half = rw (balance_2 q h e) refl

          outside : (z : ℕ) → z < 3 ^ suc i → times z L ≡ 0 → p⁺ z ≡ n⁺ z
          outside z h e = go (split i z h)
            where
              go : (r : ℕ) × (r < 3 ^ i) × ((z ≡ r) ⊎ ((z ≡ r + 3 ^ i) ⊎ (z ≡ r + 2 * 3 ^ i))) → p⁺ z ≡ n⁺ z
              go (r, b, inl f) = rw f (out-0 r b (rw f at e))
              go (r, b, inr (inl f)) = rw f (out-1 r b (rw f at e))
              go (r, b, inr (inr f)) = rw f (out-2 r b (rw f at e))

          pub solution : Solves (suc i) L dp dn p⁺ n⁺
          solution = record { out = outside; eqs = right }

-- ---- the solver finds the solution, or there is none

-- what the solver's result o must be
abbrev pub Right : ℕ → List ℕ → Weight → Option Weight → Type 0
Right s L d none = (p n : ℕ → ℕ) → Solves s L d.up d.dn p n → ⊥
Right s L d (some w) = Solves s L d.up d.dn w.up w.dn

all_even_yes : (w : Weight) (n : ℕ) → all_even w n ≡ true → (q : ℕ) → q < n → (w.up q + w.dn q) % 2 ≡ 0
unfolding all_even
all_even_yes w zero e q h = absurd (omega arith)
all_even_yes w (suc n) e q h = go (eqb ((w.up n + w.dn n) % 2) 0) refl e (ℕ_discrete q n) (all_even_yes w n)
  where
    go : (b : Bool) → eqb ((w.up n + w.dn n) % 2) 0 ≡ b → cond b (all_even w n) false ≡ true → Dec (q ≡ n)
        → (all_even w n ≡ true → (x : ℕ) → x < n → (w.up x + w.dn x) % 2 ≡ 0) → (w.up q + w.dn q) % 2 ≡ 0
    go true t k (yes m) ih = rw m (eqb→eq ((w.up n + w.dn n) % 2) 0 (T_of t))
    go true t k (no m) ih = ih k q (omega arith)
    go false t k d ih = let x : ◌≡◌ {A = ℕ} 0 1 = cc in absurd (omega arith)

all_even_no : (w : Weight) (n : ℕ) → all_even w n ≡ false → (q : ℕ) × (q < n) × ((w.up q + w.dn q) % 2 ≡ 1)
unfolding all_even
all_even_no w zero e = let x : ◌≡◌ {A = ℕ} 0 1 = cc in absurd (omega arith)
all_even_no w (suc n) e = go (eqb ((w.up n + w.dn n) % 2) 0) refl e (all_even_no w n)
  where
    go : (b : Bool) → eqb ((w.up n + w.dn n) % 2) 0 ≡ b → cond b (all_even w n) false ≡ false
        → (all_even w n ≡ false → (q : ℕ) × (q < n) × ((w.up q + w.dn q) % 2 ≡ 1)) → (q : ℕ) × (q < suc n) × ((w.up q + w.dn q) % 2 ≡ 1)
    go true t k ih = let (q, h, o) = ih k in (q, omega arith, o)
    go false t k ih = (n, omega arith, odd (ℕ_discrete ((w.up n + w.dn n) % 2) 0))
      where
        odd : Dec ((w.up n + w.dn n) % 2 ≡ 0) → (w.up n + w.dn n) % 2 ≡ 1
        odd (yes m) = absurd (subst T (ap (λ (x : ℕ). eqb x 0) (sym m) ∙ t) tt)
        odd (no m) = omega arith

module _ (i : ℕ) (L : List ℕ) (d : Weight) where
  abbrev D₁ : Weight → Weight
  D₁ u = block i 1 d ⊖ queries i (known_difference i L u)

  abbrev V⁺ : Weight → Weight → Weight
  V⁺ u x = known_difference i L u ⊕ x

  abbrev D₂ : Weight → Weight → Weight
  D₂ u x = block i 2 d ⊖ queries i (known_sum i L u (V⁺ u x))

  abbrev T⁺ : Weight → Weight → Weight → Weight
  T⁺ u x y = known_sum i L u (V⁺ u x) ⊕ y

  combine_right : (u : Weight) → Right i (restrictions 1 i L) (block i 0 d) (some u) → (x : Weight)
      → Right i (restrictions 2 i L) (D₁ u) (some x)
      → (y : Weight) → Right i (restrictions 3 i L) (D₂ u x) (some y) → Right (suc i) L d (combine i u (V⁺ u x) (T⁺ u x y))
  unfolding combine block queries known_difference known_sum ◌⊕◌ ◌⊖◌ half by_sign kp kn vdp vdn Vp Vn lp ln tdp tdn Tp Tn doubled w₀ w₀' w₁
      w₁'
      w₂ w₂' p⁺ n⁺
  combine_right u SU x SV y ST = go (all_even (T⁺ u x y ⊕ V⁺ u x) (3 ^ i)) refl
    where
      go : (b : Bool) → all_even (T⁺ u x y ⊕ V⁺ u x) (3 ^ i) ≡ b
          → Right (suc i) L d (cond b (some (by_sign i (u ⊖ T⁺ u x y) (half (T⁺ u x y ⊕ V⁺ u x)) (half (T⁺ u x y ⊖ V⁺ u x)))) none)
      go true t =
          solution i L d.up d.dn u.up u.dn SU x.up x.dn SV y.up y.dn ST (all_even_yes (T⁺ u x y ⊕ V⁺ u x) (3 ^ i) t)
      go false t =
          λ p n S.
          let (q, h, odd) = all_even_no (T⁺ u x y ⊕ V⁺ u x) (3 ^ i) t in
          omega (arith, even i L d.up d.dn u.up u.dn SU x.up x.dn SV y.up y.dn ST p n S q h)

  third_right : (u : Weight) → Right i (restrictions 1 i L) (block i 0 d) (some u) → (x : Weight)
      → Right i (restrictions 2 i L) (D₁ u) (some x)
      → (o : Option Weight) → Right i (restrictions 3 i L) (D₂ u x) o → Right (suc i) L d (and_then o λ y. combine i u (V⁺ u x) (T⁺ u x y))
  unfolding block queries known_difference known_sum ◌⊕◌ ◌⊖◌ kp kn vdp vdn Vp Vn lp ln tdp tdn
  third_right u SU x SV none r = λ p n S. r _ _ (down_2 i L d.up d.dn u.up u.dn SU x.up x.dn SV p n S)
  third_right u SU x SV (some y) r = combine_right u SU x SV y r

  second_right : ((L' : List ℕ) (e : Weight) → Under (3 ^ i) L' → Right i L' e (solve i L' e))
      → (u : Weight) → Right i (restrictions 1 i L) (block i 0 d) (some u) → (o : Option Weight) → Right i (restrictions 2 i L) (D₁ u) o
      → Right (suc i) L d (and_then o λ x. and_then (solve i (restrictions 3 i L) (D₂ u x)) λ y. combine i u (V⁺ u x) (T⁺ u x y))
  unfolding block queries known_difference ◌⊖◌ kp kn vdp vdn
  second_right ih u SU none r = λ p n S. r _ _ (down_1 i L d.up d.dn u.up u.dn SU p n S)
  second_right ih u SU (some x) r =
      third_right u SU x r (solve i (restrictions 3 i L) (D₂ u x)) (ih (restrictions 3 i L) (D₂ u x) (restrictions_under 3 i L))

  first_right : ((L' : List ℕ) (e : Weight) → Under (3 ^ i) L' → Right i L' e (solve i L' e)) → (o : Option Weight)
      → Right i (restrictions 1 i L) (block i 0 d) o
      → Right (suc i) L d (and_then o λ u. and_then (solve i (restrictions 2 i L) (D₁ u)) λ x.
      and_then (solve i (restrictions 3 i L) (D₂ u x)) λ y. combine i u (V⁺ u x) (T⁺ u x y))
  unfolding block
  first_right ih none r = λ p n S. r _ _ (down_0 i L d.up d.dn p n S)
  first_right ih (some u) r =
      second_right ih u r (solve i (restrictions 2 i L) (D₁ u)) (ih (restrictions 2 i L) (D₁ u) (restrictions_under 2 i L))

-- the solver gives the solution wherever there is one
pub solve_right : (s : ℕ) (L : List ℕ) (d : Weight) → Under (3 ^ s) L → Right s L d (solve s L d)
unfolding solve adapted tally
solve_right zero [] d u = record { out = λ q h e. refl; eqs = λ α m. absurd (omega (arith, times-nil α)) }
solve_right zero (σ ∷ L) d u =
    record {
      out = λ q h e. absurd (nowhere q h e);
      eqs = λ α m. rw (times-one α 0 m) (omega arith);
    }
  where
    nowhere : (q : ℕ) → q < 1 → times q (σ ∷ L) ≡ 0 → ⊥
    nowhere q h e =
        let f : q ≡ σ = omega (arith, u σ (omega (arith, times-same σ L))) in
        let e' : times σ (σ ∷ L) ≡ 0 = (rw f at e) in
        omega (arith, times-same σ L)
solve_right (suc i) L d u =
    first_right i L d (λ L' e v. solve_right i L' e v) (solve i (restrictions 1 i L) (block i 0 d))
    (solve_right i (restrictions 1 i L) (block i 0 d) (restrictions_under 1 i L))
