-- Theorem: the adapted list of a rising list of patterns is rising, its products are below 3^s, and there are as many as patterns.
-- `adapted_below` of `Blocks` is the second part.
unfoldable pub use Rattle.signs.specs.Lists.{total}
use mathlib.Core.Path.{◌≡◌, refl, sym, ap, ◌∙◌}
use mathlib.Core.Bool.{Bool, true, false, cond}
use mathlib.Core.List.{List, [], ◌∷◌, ◌++◌}
use Prim.Native.Nat.{ℕ, zero, suc, ◌+◌, ◌*◌, ◌^◌, min, ◌<◌, ◌≤◌}
use native.Mathlib.Omega.{arith}
use native.Mathlib.Decide.{ℕ_discrete, dec_lt}
use native.Mathlib.Nat.{add-suc}
use lib.Dec.{leb}
use lib.ListN.{length, length-append}
use Rattle.signs.specs.Adapted.{signs_of, restrictions, adapted}
use Rattle.signs.specs.Lists.{times, Below, Rising, shift}
use Rattle.signs.proofs.Blocks.{adapted_below}
use Rattle.signs.proofs.Lists.{times-nil, times-same, times_other, times-append, times-keep, times-up_to_in}
use Rattle.signs.proofs.Lists.{restrictions_holds, shift_holds}

-- ---- sums over the numbers below n

pub total_ext : (f g : ℕ → ℕ) (n : ℕ) → ((q : ℕ) → q < n → f q ≡ g q) → total f n ≡ total g n
unfolding total
total_ext f g zero e = refl
total_ext f g (suc n) e = omega (arith, total_ext f g n (λ q h. e q (omega arith)), e n (omega arith))

pub total_mono : (f g : ℕ → ℕ) (n : ℕ) → ((q : ℕ) → q < n → f q ≤ g q) → total f n ≤ total g n
unfolding total
total_mono f g zero e = omega arith
total_mono f g (suc n) e = omega (arith, total_mono f g n (λ q h. e q (omega arith)), e n (omega arith))

total_plus : (f g : ℕ → ℕ) (n : ℕ) → total (λ q. f q + g q) n ≡ total f n + total g n
unfolding total
total_plus f g zero = refl
total_plus f g (suc n) = omega (arith, total_plus f g n)

total_join : (f : ℕ → ℕ) (a b : ℕ) → total f (a + b) ≡ total f a + total (λ q. f (q + a)) b
unfolding total
total_join f a zero = rw (add0 a) (omega arith)
  where
    add0 : (x : ℕ) → x + 0 ≡ x
    add0 x = omega arith
total_join f a (suc b) =
    rw (add-suc a b) (omega (arith, total_join f a b, ap f (comm a b)))
  where
    comm : (x y : ℕ) → x + y ≡ y + x
    comm x y = omega arith

-- the numbers below 3^(i+1), by their top digit
pub total_thirds : (i : ℕ) (m : ℕ → ℕ) → total m (3 ^ suc i) ≡ total (λ q. m q + m (q + 3 ^ i) + m (q + 2 * 3 ^ i)) (3 ^ i)
total_thirds i m =
    omega (
      arith,
      ap (total m) three,
      total_join m (N + N) N,
      total_join m N N,
      total_plus (λ q. m q + m (q + N)) (λ q. m (q + 2 * N)) N,
      total_plus m (λ q. m (q + N)) N,
      total_ext (λ q. m (q + (N + N))) (λ q. m (q + 2 * N)) N (λ q h. ap m (two q)),
    )
  where
    N : ℕ
    N = 3 ^ i

    three : 3 ^ suc i ≡ (3 ^ i + 3 ^ i) + 3 ^ i
    three = omega arith

    two : (q : ℕ) → q + (N + N) ≡ q + 2 * N
    two q = omega arith

total-zero : (n : ℕ) → total (λ q. 0) n ≡ 0
unfolding total
total-zero zero = refl
total-zero (suc n) = omega (arith, total-zero n)

-- ---- the number of products

-- whatever stands in the list is below n
abbrev pub Under : ℕ → List ℕ → Type 0
Under n l = (q : ℕ) → 0 < times q l → q < n

pub below_under : (n : ℕ) (l : List ℕ) → Below n l → Under n l
unfolding Below
below_under n [] b q h = absurd (omega (arith, times-nil q))
below_under n (x ∷ l) b q h = go (ℕ_discrete q x) (below_under n l b.1 q)
  where
    go : Dec (q ≡ x) → (0 < times q l → q < n) → q < n
    go (yes e) ih = omega (arith, b.0)
    go (no e) ih = ih (omega (arith, times_other q x l e))

pub restrictions_under : (k i : ℕ) (L : List ℕ) → Under (3 ^ i) (restrictions k i L)
restrictions_under k i L q h = (restrictions_holds k i L q h).0

pub length_shift : (c : ℕ) (l : List ℕ) → length (shift c l) ≡ length l
unfolding shift
length_shift c [] = refl
length_shift c (x ∷ l) = ap suc (length_shift c l)

-- whether q has at least k signs, as a number
at_least : ℕ → ℕ → ℕ
at_least k m = cond (leb k m) 1 0

restrictions-once : (k i : ℕ) (L : List ℕ) (q : ℕ) → q < 3 ^ i → min 1 (times q (restrictions k i L)) ≡ at_least k (signs_of i L q)
unfolding restrictions at_least
restrictions-once k i L q h = rw (times-keep, times-up_to_in q (3 ^ i) h) (go (leb k (signs_of i L q)))
  where
    go : (b : Bool) → min 1 (cond b 1 0) ≡ cond b 1 0
    go true = refl
    go false = refl

three_steps : (m : ℕ) → m < 4 → at_least 1 m + (at_least 2 m + at_least 3 m) ≡ m
unfolding at_least
three_steps zero h = refl
three_steps (suc zero) h = refl
three_steps (suc (suc zero)) h = refl
three_steps (suc (suc (suc zero))) h = refl
three_steps (suc (suc (suc (suc m)))) h = absurd (omega arith)

-- the adapted list has a product for each pattern that occurs
pub adapted-length : (s : ℕ) (L : List ℕ) → Under (3 ^ s) L → length (adapted s L) ≡ total (λ q. min 1 (times q L)) (3 ^ s)
unfolding adapted total
adapted-length zero [] u = omega (arith, times-nil 0)
adapted-length zero (σ ∷ L) u =
    let e : σ ≡ 0 = omega (arith, u σ (omega (arith, times-same σ L))) in
    rw e (omega (arith, times-same 0 L))
adapted-length (suc i) L u =
    length-append A₁ (B₂ ++ B₃)
    ∙ ap (λ (x : ℕ). length A₁ + x) (length-append B₂ B₃)
    ∙ add3 (part 1 (adapted-length i (restrictions 1 i L) (restrictions_under 1 i L)))
    (length_shift (3 ^ i) _ ∙ part 2 (adapted-length i (restrictions 2 i L) (restrictions_under 2 i L)))
    (length_shift (2 * 3 ^ i) _ ∙ part 3 (adapted-length i (restrictions 3 i L) (restrictions_under 3 i L)))
    ∙ sym sums
    ∙ total_ext _ _ (3 ^ i) (λ q h. three_steps (signs_of i L q) (few q))
    ∙ sym spread
  where
    m : ℕ → ℕ
    m q = min 1 (times q L)

    A₁ : List ℕ
    A₁ = adapted i (restrictions 1 i L)

    B₂ : List ℕ
    B₂ = shift (3 ^ i) (adapted i (restrictions 2 i L))

    B₃ : List ℕ
    B₃ = shift (2 * 3 ^ i) (adapted i (restrictions 3 i L))

    s₁ : (k : ℕ) → ℕ → ℕ
    s₁ k q = at_least k (signs_of i L q)

    part : (k : ℕ) → {x : ℕ} → x ≡ total (λ q. min 1 (times q (restrictions k i L))) (3 ^ i) → x ≡ total (s₁ k) (3 ^ i)
    part k e = e ∙ total_ext _ _ (3 ^ i) (restrictions-once k i L)

    add3 : {a b c x y z : ℕ} → a ≡ x → b ≡ y → c ≡ z → a + (b + c) ≡ x + (y + z)
    add3 e f g = omega arith

    sums : total (λ q. s₁ 1 q + (s₁ 2 q + s₁ 3 q)) (3 ^ i) ≡ total (s₁ 1) (3 ^ i) + (total (s₁ 2) (3 ^ i) + total (s₁ 3) (3 ^ i))
    sums =
        total_plus (s₁ 1) (λ q. s₁ 2 q + s₁ 3 q) (3 ^ i)
        ∙ ap (λ (x : ℕ). total (s₁ 1) (3 ^ i) + x) (total_plus (s₁ 2) (s₁ 3) (3 ^ i))

    few : (q : ℕ) → signs_of i L q < 4
    few q = unfold signs_of in omega arith

    spread : total m (3 ^ suc i) ≡ total (signs_of i L) (3 ^ i)
    spread = unfold signs_of in total_thirds i m

-- ---- a rising list has each pattern once

point_total : (x n : ℕ) → x < n → total (λ q. times q (x ∷ [])) n ≡ 1
unfolding total
point_total x zero h = absurd (omega arith)
point_total x (suc n) h = go (ℕ_discrete x n) (point_total x n)
  where
    zeros : (m : ℕ) → m ≤ x → total (λ q. times q (x ∷ [])) m ≡ 0
    zeros m b = total_ext _ (λ q. 0) m (λ q k. omega (arith, times_other q x [] (omega arith), times-nil q)) ∙ total-zero m

    go : Dec (x ≡ n) → (x < n → total (λ q. times q (x ∷ [])) n ≡ 1) → total (λ q. times q (x ∷ [])) n + times n (x ∷ []) ≡ 1
    go (yes e) ih = rw (← e) (omega (arith, zeros x (omega arith), times-same x [], times-nil x))
    go (no e) ih = omega (arith, ih (omega arith), times_other n x [] (omega arith), times-nil n)

pub rising-length : (n : ℕ) (L : List ℕ) → Rising L → Below n L → total (λ q. min 1 (times q L)) n ≡ length L
unfolding Rising Below
rising-length n [] r b = total_ext _ (λ q. 0) n (λ q h. omega (arith, times-nil q)) ∙ total-zero n
rising-length n (x ∷ L) r b =
    total_ext _ (λ q. times q (x ∷ []) + min 1 (times q L)) n pointwise
    ∙ total_plus (λ q. times q (x ∷ [])) (λ q. min 1 (times q L)) n
    ∙ omega (arith, point_total x n b.0, rising-length n L r.1 b.1)
  where
    fresh : times x L ≡ 0
    fresh = go (dec_lt 0 (times x L))
      where
        go : Dec (0 < times x L) → times x L ≡ 0
        go (yes h) = absurd (omega (arith, r.0 x h))
        go (no h) = omega arith

    pointwise : (q : ℕ) → q < n → min 1 (times q (x ∷ L)) ≡ times q (x ∷ []) + min 1 (times q L)
    pointwise q h = go (ℕ_discrete q x)
      where
        go : Dec (q ≡ x) → min 1 (times q (x ∷ L)) ≡ times q (x ∷ []) + min 1 (times q L)
        go (yes e) = rw e (omega (arith, fresh, times-same x L, times-same x [], times-nil x))
        go (no e) = omega (arith, times_other q x L e, times_other q x [] e, times-nil q)

-- as many products as patterns
pub as_many : (s : ℕ) (L : List ℕ) → Rising L → Below (3 ^ s) L → length (adapted s L) ≡ length L
as_many s L r b = adapted-length s L (below_under (3 ^ s) L b) ∙ rising-length (3 ^ s) L r b

-- ---- the adapted list rises

pub rising-append : (l m : List ℕ) → Rising l → Rising m → ((x y : ℕ) → 0 < times x l → 0 < times y m → x < y) → Rising (l ++ m)
unfolding Rising
rising-append [] m r t h = t
rising-append (x ∷ l) m r t h = (
  λ y k. go y k (dec_lt 0 (times y l)),
  rising-append l m r.1 t (λ u v a b. h u v (omega (arith, times-append u (x ∷ []) l)) b),
)
  where
    go : (y : ℕ) → 0 < times y (l ++ m) → Dec (0 < times y l) → x < y
    go y k (yes a) = r.0 y a
    go y k (no a) = h x y (omega (arith, times-same x l)) (omega (arith, times-append y l m))

pub rising-shift : (c : ℕ) (l : List ℕ) → Rising l → Rising (shift c l)
unfolding Rising shift
rising-shift c [] r = tt
rising-shift c (x ∷ l) r = (λ y h. go y (shift_holds c y l h), rising-shift c l r.1)
  where
    go : (y : ℕ) → (a : ℕ) × (y ≡ a + c) × (0 < times a l) → x + c < y
    go y (a, e, m) = omega (arith, r.0 a m)

pub adapted-rising : (s : ℕ) (L : List ℕ) → Rising (adapted s L)
unfolding adapted Rising
adapted-rising zero [] = tt
adapted-rising zero (σ ∷ L) = (λ y h. absurd (omega (arith, times-nil y)), tt)
adapted-rising (suc i) L =
    rising-append A (B ++ C) (adapted-rising i (restrictions 1 i L))
    (rising-append B C (rising-shift (3 ^ i) _ (adapted-rising i (restrictions 2 i L)))
    (rising-shift (2 * 3 ^ i) _ (adapted-rising i (restrictions 3 i L))) BC)
    (λ x y h k. ABC x y h k)
  where
    A : List ℕ
    A = adapted i (restrictions 1 i L)

    B : List ℕ
    B = shift (3 ^ i) (adapted i (restrictions 2 i L))

    C : List ℕ
    C = shift (2 * 3 ^ i) (adapted i (restrictions 3 i L))

    in_b : (x : ℕ) → 0 < times x B → (3 ^ i ≤ x) × (x < 2 * 3 ^ i)
    in_b x h =
        let (a, e, m) = shift_holds (3 ^ i) x (adapted i (restrictions 2 i L)) h in
        omega (arith, adapted_below i a (restrictions 2 i L) m)

    in_c : (x : ℕ) → 0 < times x C → 2 * 3 ^ i ≤ x
    in_c x h = let (a, e, m) = shift_holds (2 * 3 ^ i) x (adapted i (restrictions 3 i L)) h in omega arith

    BC : (x y : ℕ) → 0 < times x B → 0 < times y C → x < y
    BC x y h k = omega (arith, in_b x h, in_c y k)

    ABC : (x y : ℕ) → 0 < times x A → 0 < times y (B ++ C) → x < y
    ABC x y h k = go (dec_lt 0 (times y B))
      where
        go : Dec (0 < times y B) → x < y
        go (yes b) = omega (arith, adapted_below i x (restrictions 1 i L) h, in_b y b)
        go (no b) = omega (arith, adapted_below i x (restrictions 1 i L) h, in_c y (omega (arith, times-append y B C)))

-- no product stands twice
pub rising-once : (l : List ℕ) → Rising l → (q : ℕ) → times q l ≤ 1
unfolding Rising
rising-once [] r q = omega (arith, times-nil q)
rising-once (x ∷ l) r q = go (ℕ_discrete q x) (dec_lt 0 (times q l)) (rising-once l r.1 q)
  where
    go : Dec (q ≡ x) → Dec (0 < times q l) → times q l ≤ 1 → times q (x ∷ l) ≤ 1
    go (yes e) (yes h) ih = absurd (omega (arith, r.0 q h))
    go (yes e) (no h) ih = let h' : ¬ (0 < times x l) = (rw e at h) in rw e (omega (arith, times-same x l))
    go (no e) d ih = omega (arith, times_other q x l e)
