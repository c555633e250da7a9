-- The step of the solver's recursion: from the moments of the patterns left to the numbers of the list, and back.
use mathlib.Core.Path.{◌≡◌, refl, sym, ap, ap₂, ◌∙◌, subst}
use mathlib.Core.Logic.{◌⊎◌, inl, inr}
use mathlib.Core.Bool.{Bool, true, false, cond}
use mathlib.Core.List.{List, [], ◌∷◌, ◌++◌, map}
use Prim.Native.Nat.{ℕ, zero, suc, ◌+◌, ◌*◌, ◌-◌, ◌^◌, ◌/◌, ◌%◌, min, ◌<◌, ◌≤◌}
use native.Mathlib.Omega.{arith}
use native.Mathlib.Nat.{le_refl, zero-add}
use native.Mathlib.Numerals.{one-add}
use native.Mathlib.Decide.{ℕ_discrete, dec_lt}
use borrow.Author.Tests.{leb-false}
use lib.Dec.{leb}
use lib.IntN.{ℤ, pos, ◌+ℤ◌, ◌-ℤ◌}
use lib.ListN.{length, get_or, take, drop, length-append, length-drop}
use lib.Seq.{length-take-le}
use Rattle.integers.specs.Sums.{sum_abs}
use Rattle.integers.proofs.Parts.{up, dn, int, sum, dif}
use Rattle.integers.proofs.Diff.{diff_one}
use Rattle.signs.specs.Lists.{times, Below, Rising, shift}
use Rattle.signs.specs.Signs.{weighted}
use Rattle.signs.specs.Adapted.{signs_of, restrictions, adapted}
use Rattle.adapted.specs.Split.{marks_of, count_of, chosen}
use Rattle.signs.proofs.Lists.{times-nil, times_other, restrictions_holds, restrictions-out}
use Rattle.signs.proofs.Blocks.{adapted_below}
use Rattle.signs.proofs.Digits.{digits, top, low}
use Rattle.signs.proofs.Size.{as_many, length_shift}
use Rattle.signs.proofs.Extend.{restrictions-rising}
use Rattle.signs.proofs.Positions.{stands_at, place_of, below_at}
use Rattle.signs.proofs.Tallies.{fold, plus}
use Rattle.solver_moments.specs.Moments.{second_of, third_of, Second, Third, rank, addend, Spread, NumberOf, NumberAt}
use Rattle.solver_residuals.proofs.Gathering.{below_all}
use Rattle.solutions.specs.Solution.{Posed, Solution}
use Rattle.solutions.specs.Solver.{Weight, known1, known2, lookup, weight_of, values}
use Rattle.solver_residuals.specs.Residuals.{residuals}
use Rattle.solver_residuals.proofs.Sums.{residuals-length}
use Rattle.solver_recursion.specs.Steps.{Parted}
use Rattle.signs.proofs.Weights.{part, part_out, weighted-tally, diff_parts}
use Rattle.solutions.proofs.Lookup.{lookup-same, lookup_other}
use Rattle.solutions.proofs.Bounds.{dist, fold-size}
use Rattle.solutions.proofs.Solve.{Solves, solves_same, tally_diff, glue-0, glue-1, glue-2, restrictions_none, down_0, sum_is, kp, kn, vdp}
use Rattle.solutions.proofs.Solve.{vdn, down_1, Vp, Vn, lp, ln, tdp, tdn, difference_is, down_2, Tp, Tn, doubled, w₀, w₀', w₁, w₁', w₂, w₂'}
use Rattle.solutions.proofs.Solve.{p⁺, n⁺, balance_1, solution}
use Rattle.solutions.proofs.SolverRight.{solves_of, give_of, values_length}
use Rattle.solver_recursion.proofs.Places.{part_at, Bal, values_are, block_0, block_1, block_2, part-size, values-size}

-- ---- known moments, as `known1` and `known2` have them

one : (t : ℕ) → min 1 (suc t) ≡ 1
one t = omega arith

second_known : (t₀ t₁ t₂ m : ℕ) (d : ℤ) (a b : ℕ) → m ≡ min 1 t₀ + 2 * min 1 t₁ + 4 * min 1 t₂ → Bal d a b
    → Bal (second_of m d) (known1 t₀ t₁ t₂ a b) (known1 t₀ t₁ t₂ b a)
unfolding second_of known1
second_known zero zero zero m d a b e h = let f : m ≡ 0 = omega arith in rw f (omega arith)
second_known zero zero (suc t₂) m d a b e h = let f : m ≡ 4 = omega arith in rw f (omega (int, dif (pos 0) d))
second_known zero (suc t₁) zero m d a b e h = let f : m ≡ 2 = omega arith in rw f h
second_known zero (suc t₁) (suc t₂) m d a b e h = let f : m ≡ 6 = omega arith in rw f (omega arith)
second_known (suc t₀) zero zero m d a b e h = let f : m ≡ 1 = omega arith in rw f (omega arith)
second_known (suc t₀) zero (suc t₂) m d a b e h = let f : m ≡ 5 = omega arith in rw f (omega arith)
second_known (suc t₀) (suc t₁) zero m d a b e h = let f : m ≡ 3 = omega arith in rw f (omega arith)
second_known (suc t₀) (suc t₁) (suc t₂) m d a b e h = let f : m ≡ 7 = omega arith in rw f (omega arith)

third_known : (t₀ t₁ t₂ m : ℕ) (d e : ℤ) (a b v v' : ℕ) → m ≡ min 1 t₀ + 2 * min 1 t₁ + 4 * min 1 t₂ → 1 ≤ min 1 t₀ + min 1 t₁ + min 1 t₂
    → Bal d a b → Bal e v v' → Bal (third_of m d e) (known2 t₀ t₁ t₂ a v v') (known2 t₀ t₁ t₂ b v' v)
unfolding third_of known2
third_known zero zero zero m d e a b v v' q s h k = absurd (omega arith)
third_known zero zero (suc t₂) m d e a b v v' q s h k = let f : m ≡ 4 = omega arith in rw f h
third_known zero (suc t₁) zero m d e a b v v' q s h k = let f : m ≡ 2 = omega arith in rw f h
third_known zero (suc t₁) (suc t₂) m d e a b v v' q s h k = let f : m ≡ 6 = omega arith in rw f h
third_known (suc t₀) zero zero m d e a b v v' q s h k = let f : m ≡ 1 = omega arith in rw f (omega arith)
third_known (suc t₀) zero (suc t₂) m d e a b v v' q s h k = let f : m ≡ 5 = omega arith in rw f (omega (int, dif (pos 0) e))
third_known (suc t₀) (suc t₁) zero m d e a b v v' q s h k = let f : m ≡ 3 = omega arith in rw f k
third_known (suc t₀) (suc t₁) (suc t₂) m d e a b v v' q s h k = let f : m ≡ 7 = omega arith in rw f (omega arith)

-- where no sign stands nothing is known, and where many do
none_1 : (t₀ t₁ t₂ a b : ℕ) → min 1 t₀ + min 1 t₁ + min 1 t₂ < 1 → known1 t₀ t₁ t₂ a b ≡ 0
unfolding known1
none_1 zero zero zero a b h = refl
none_1 zero zero (suc t₂) a b h = absurd (omega arith)
none_1 zero (suc t₁) t₂ a b h = absurd (omega arith)
none_1 (suc t₀) t₁ t₂ a b h = absurd (omega arith)

none_2 : (t₀ t₁ t₂ a v v' : ℕ) → min 1 t₀ + min 1 t₁ + min 1 t₂ < 1 → known2 t₀ t₁ t₂ a v v' ≡ 0
unfolding known2
none_2 zero zero zero a v v' h = refl
none_2 zero zero (suc t₂) a v v' h = absurd (omega arith)
none_2 zero (suc t₁) t₂ a v v' h = absurd (omega arith)
none_2 (suc t₀) zero zero a v v' h = refl
none_2 (suc t₀) zero (suc t₂) a v v' h = absurd (omega arith)
none_2 (suc t₀) (suc t₁) t₂ a v v' h = absurd (omega arith)

many-1 : (t₀ t₁ t₂ a b : ℕ) → 2 ≤ min 1 t₀ + min 1 t₁ + min 1 t₂ → known1 t₀ t₁ t₂ a b ≡ 0
unfolding known1
many-1 zero zero zero a b h = refl
many-1 zero zero (suc t₂) a b h = absurd (omega arith)
many-1 zero (suc t₁) zero a b h = absurd (omega arith)
many-1 zero (suc t₁) (suc t₂) a b h = refl
many-1 (suc t₀) t₁ t₂ a b h = refl

many-2 : (t₀ t₁ t₂ a v v' : ℕ) → 3 ≤ min 1 t₀ + min 1 t₁ + min 1 t₂ → known2 t₀ t₁ t₂ a v v' ≡ 0
unfolding known2
many-2 zero zero zero a v v' h = refl
many-2 zero zero (suc t₂) a v v' h = absurd (omega arith)
many-2 zero (suc t₁) t₂ a v v' h = absurd (omega arith)
many-2 (suc t₀) zero zero a v v' h = refl
many-2 (suc t₀) zero (suc t₂) a v v' h = absurd (omega arith)
many-2 (suc t₀) (suc t₁) zero a v v' h = absurd (omega arith)
many-2 (suc t₀) (suc t₁) (suc t₂) a v v' h = refl

count-three : (a b c : ℕ) → count_of (min 1 a + 2 * min 1 b + 4 * min 1 c) ≡ min 1 a + min 1 b + min 1 c
unfolding count_of
count-three zero zero zero = refl
count-three zero zero (suc c) = rw (one c) refl
count-three zero (suc b) zero = rw (one b) refl
count-three zero (suc b) (suc c) = rw (one b, one c) refl
count-three (suc a) zero zero = rw (one a) refl
count-three (suc a) zero (suc c) = rw (one a, one c) refl
count-three (suc a) (suc b) zero = rw (one a, one b) refl
count-three (suc a) (suc b) (suc c) = rw (one a, one b, one c) refl

same_dist : (a b c e : ℕ) → c ≡ 0 → e ≡ 0 → dist (a + c) (b + e) ≤ dist a b
unfolding dist
same_dist a b c e h k = omega arith

pub count-signs : (i : ℕ) (L : List ℕ) (q : ℕ) → count_of (marks_of (3 ^ i) L q) ≡ signs_of i L q
unfolding marks_of signs_of
count-signs i L q = count-three (times q L) (times (q + 3 ^ i) L) (times (q + 2 * 3 ^ i) L)

-- ---- the numbers of one low part with the three signs, and its moments

-- numbers with these moments are what the moments give
number_by : (p n : ℕ → ℕ) (w q c : ℕ) (d e g z : ℤ) (u u' M M' N N' : ℕ) → c < 3 → Bal z (p (q + c * w)) (n (q + c * w))
    → p q + p (q + w) + p (q + 2 * w) + u' ≡ n q + n (q + w) + n (q + 2 * w) + u
    → p (q + w) + n (q + 2 * w) + M' ≡ n (q + w) + p (q + 2 * w) + M
    → p (q + w) + p (q + 2 * w) + N' ≡ n (q + w) + n (q + 2 * w) + N
    → Bal d u u' → Bal e M M' → Bal g N N' → NumberOf c d e g z
number_by p n w q zero d e g z u u' M M' N N' h b s₀ s₁ s₂ bd be bg =
    let r : q + 0 * w ≡ q = omega arith in omega (int, ap p r, ap n r, dif d g)
number_by p n w q (suc zero) d e g z u u' M M' N N' h b s₀ s₁ s₂ bd be bg =
    let r : q + 1 * w ≡ q + w = omega arith in omega (int, ap p r, ap n r, sum z z, sum g e)
number_by p n w q (suc (suc zero)) d e g z u u' M M' N N' h b s₀ s₁ s₂ bd be bg = omega (int, sum z z, dif g e)
number_by p n w q (suc (suc (suc c))) d e g z u u' M M' N N' h b s₀ s₁ s₂ bd be bg = absurd (omega arith)

halved : (z : ℤ) (a b : ℕ) → a + (dn z + dn z) ≡ b + (up z + up z) → Bal z ((a - b) / 2) ((b - a) / 2)
halved z a b h = omega arith

-- and what the moments give has these moments
number_back : (c : ℕ) (d e g z : ℤ) (u u' M M' N N' : ℕ) (p₀ p₁ p₂ n₀ n₁ n₂ a b : ℕ) → c < 3 → NumberOf c d e g z → Bal d u u' → Bal e M M'
    → Bal g N N'
    → p₀ ≡ u + N' → n₀ ≡ u' + N → p₁ ≡ ((N + M) - (N' + M')) / 2 → n₁ ≡ ((N' + M') - (N + M)) / 2 → p₂ ≡ ((N + M') - (N' + M)) / 2 → n₂
    ≡ ((N' + M) - (N + M')) / 2
    → (c ≡ 0 → (a ≡ p₀) × (b ≡ n₀)) → (c ≡ 1 → (a ≡ p₁) × (b ≡ n₁)) → (c ≡ 2 → (a ≡ p₂) × (b ≡ n₂)) → Bal z a b
number_back zero d e g z u u' M M' N N' p₀ p₁ p₂ n₀ n₁ n₂ a b h k bd be bg e₀ f₀ e₁ f₁ e₂ f₂ c₀ c₁ c₂ =
    let (x, y) = c₀ refl in omega (int, dif d g)
number_back (suc zero) d e g z u u' M M' N N' p₀ p₁ p₂ n₀ n₁ n₂ a b h k bd be bg e₀ f₀ e₁ f₁ e₂ f₂ c₀ c₁ c₂ =
    let (x, y) = c₁ refl in
    rw (x, y, e₁, f₁) (halved z (N + M) (N' + M') (omega (int, sum z z, sum g e)))
number_back (suc (suc zero)) d e g z u u' M M' N N' p₀ p₁ p₂ n₀ n₁ n₂ a b h k bd be bg e₀ f₀ e₁ f₁ e₂ f₂ c₀ c₁ c₂ =
    let (x, y) = c₂ refl in
    rw (x, y, e₂, f₂) (halved z (N + M') (N' + M) (omega (int, sum z z, dif g e)))
number_back (suc (suc (suc c))) d e g z u u' M M' N N' p₀ p₁ p₂ n₀ n₁ n₂ a b h k bd be bg e₀ f₀ e₁ f₁ e₂ f₂ c₀ c₁ c₂ = absurd (omega arith)

even_sum : (z e g : ℤ) (M M' N N' : ℕ) → z +ℤ z ≡ g +ℤ e → Bal e M M' → Bal g N N' → (N + M + (N' + M')) % 2 ≡ 0
even_sum z e g M M' N N' h be bg =
    let k : (N + M) + (dn z + dn z) ≡ (N' + M') + (up z + up z) = omega (int, sum z z, sum g e) in
    omega arith

digit-0 : (q c w : ℕ) → c ≡ 0 → q + c * w ≡ q
digit-0 q c w e = rw e (omega arith)

digit-1 : (q c w : ℕ) → c ≡ 1 → q + c * w ≡ q + w
digit-1 q c w e = rw e (omega arith)

digit-2 : (q c w : ℕ) → c ≡ 2 → q + c * w ≡ q + 2 * w
digit-2 q c w e = rw e refl

-- ---- what residuals of the numbers asked

lookup-residuals : (i : ℕ) (l : List ℕ) (v : List ℤ) (A : List ℕ) (x : List ℤ) (α : ℕ) → 0 < times α A → length x ≡ length A
    → lookup α A (residuals i l v A x) ≡ lookup α A x -ℤ weighted i l v α
unfolding residuals
lookup-residuals i l v [] x α h e = absurd (omega (arith, times-nil α))
lookup-residuals i l v (a ∷ A) [] α h e = absurd (omega arith)
lookup-residuals i l v (a ∷ A) (y ∷ x) α h e = go (ℕ_discrete α a) (lookup-residuals i l v A x α)
  where
    go : Dec (α ≡ a) → (0 < times α A → length x ≡ length A → lookup α A (residuals i l v A x) ≡ lookup α A x -ℤ weighted i l v α)
        → lookup α (a ∷ A) ((y -ℤ weighted i l v a) ∷ residuals i l v A x) ≡ lookup α (a ∷ A) (y ∷ x) -ℤ weighted i l v α
    go (yes f) ih =
        rw f (lookup-same a A (y -ℤ weighted i l v a) (residuals i l v A x)
        ∙ ap (λ (z : ℤ). z -ℤ weighted i l v a) (sym (lookup-same a A y x)))
    go (no f) ih =
        lookup_other α a A (y -ℤ weighted i l v a) (residuals i l v A x) f ∙ ih (omega (arith, times_other α a A f)) (omega arith)
        ∙ ap (λ (z : ℤ). z -ℤ weighted i l v α) (sym (lookup_other α a A y x f))

-- ---- a problem on a list, asked by any weight that has the list's numbers

abbrev Asks : ℕ → List ℕ → List ℤ → (ℕ → ℕ) → (ℕ → ℕ) → Type 0
Asks i L ds p n = (α : ℕ) → 0 < times α (adapted i L) → p α + dn (lookup α (adapted i L) ds) ≡ n α + up (lookup α (adapted i L) ds)

to_solves : (i : ℕ) (L : List ℕ) (ds ws : List ℤ) (p n : ℕ → ℕ) → Posed i L ds → Asks i L ds p n → Solution i L ds ws
    → Solves i L p n (part up L ws) (part dn L ws)
unfolding weight_of
to_solves i L ds ws p n P a S =
    let s = solves_of i L ds P ws S.give in
    record { out = s.out; eqs = λ α m. omega (arith, s.eqs α m, a α m) }

from_solves : (i : ℕ) (L : List ℕ) (ds : List ℤ) (p n : ℕ → ℕ) (w : Weight) → Posed i L ds → Asks i L ds p n
    → Solves i L p n w.up w.dn
    → sum_abs (values w L) ≤ 64 → Solution i L ds (values w L)
unfolding weight_of
from_solves i L ds p n w P a S h =
    record {
      one_each = values_length w L;
      give = give_of i L ds P w (record { out = S.out; eqs = λ α m. omega (arith, S.eqs α m, a α m) });
      small = h;
    }

-- ---- numbers put back: each has its place among the patterns chosen

pub rank-all : (k : ℕ) (l m : List ℕ) → length m ≡ length l → rank k m (length m) ≡ length (chosen k l m)
unfolding rank chosen
rank-all k [] [] e = refl
rank-all k [] (m ∷ ms) e = absurd (omega arith)
rank-all k (q ∷ l) [] e = absurd (omega arith)
rank-all k (q ∷ l) (m ∷ ms) e = go (leb k (count_of m)) (rank-all k l ms (omega arith))
  where
    go : (b : Bool) → rank k ms (length ms) ≡ length (chosen k l ms)
        → cond b 1 0 + rank k ms (length ms) ≡ length (cond b (q ∷ chosen k l ms) (chosen k l ms))
    go true h = omega arith
    go false h = omega arith

chosen_at : (k : ℕ) (l m : List ℕ) (j : ℕ) → j < length l → length m ≡ length l → leb k (count_of (get_or m j 0)) ≡ true
    → (rank k m j < length (chosen k l m)) × (get_or (chosen k l m) (rank k m j) 0 ≡ get_or l j 0)
unfolding rank chosen
chosen_at k [] m j h e t = absurd (omega arith)
chosen_at k (q ∷ l) [] j h e t = absurd (omega arith)
chosen_at k (q ∷ l) (m ∷ ms) zero h e t = rw t (omega arith, refl)
chosen_at k (q ∷ l) (m ∷ ms) (suc j) h e t = go (leb k (count_of m)) (chosen_at k l ms j (omega arith) (omega arith) t)
  where
    go : (b : Bool) → (rank k ms j < length (chosen k l ms)) × (get_or (chosen k l ms) (rank k ms j) 0 ≡ get_or l j 0)
        → (cond b 1 0 + rank k ms j < length (cond b (q ∷ chosen k l ms) (chosen k l ms)))
        × (get_or (cond b (q ∷ chosen k l ms) (chosen k l ms)) (cond b 1 0 + rank k ms j) 0 ≡ get_or l j 0)
    go true (r, f) = (omega arith, rw (one-add (rank k ms j)) f)
    go false (r, f) = (omega arith, rw (zero-add (rank k ms j)) f)

-- ---- the numbers asked of the three lists

-- a sub-list, with what its mark says
module _ (i : ℕ) (L mark at : List ℕ) (x : List ℤ) (P : Posed (suc i) L x) (Q : Parted i L (restrictions 1 i L) mark at) where
  abbrev L₁ : List ℕ
  L₁ = restrictions 1 i L

  abbrev L₂ : List ℕ
  L₂ = restrictions 2 i L

  abbrev L₃ : List ℕ
  L₃ = restrictions 3 i L

  abbrev x₁ : List ℤ
  x₁ = take (length L₁) x

  abbrev x₂ : List ℤ
  x₂ = take (length L₂) (drop (length L₁) x)

  abbrev x₃ : List ℤ
  x₃ = drop (length L₁ + length L₂) x

  abbrev D : Weight
  D = weight_of (λ α. lookup α (adapted (suc i) L) x)

  abbrev w : ℕ
  w = 3 ^ i

  below : (k : ℕ) → Below (3 ^ i) (restrictions k i L)
  below k = below_all (3 ^ i) (restrictions k i L) (λ q m. (restrictions_holds k i L q m).0)

  many : (k : ℕ) → length (adapted i (restrictions k i L)) ≡ length (restrictions k i L)
  many k = as_many i (restrictions k i L) (restrictions-rising k i L) (below k)

  pub three : length x ≡ length L₁ + (length L₂ + length L₃)
  unfolding adapted
  three =
      omega (
        arith,
        P.full,
        as_many (suc i) L P.rising P.below,
        length-append (adapted i L₁) (shift (3 ^ i) (adapted i L₂) ++ shift (2 * 3 ^ i) (adapted i L₃)),
        length-append (shift (3 ^ i) (adapted i L₂)) (shift (2 * 3 ^ i) (adapted i L₃)),
        length_shift (3 ^ i) (adapted i L₂),
        length_shift (2 * 3 ^ i) (adapted i L₃),
        many 1,
        many 2,
        many 3,
      )

  -- a solution as a weight, and how large it is
  whole : (ws : List ℤ) → Solution (suc i) L x ws → Solves (suc i) L D.up D.dn (part up L ws) (part dn L ws)
  whole ws S = solves_of (suc i) L x P ws S.give

  inner_size : (k : ℕ) (l : List ℕ) (v : Weight) (ws : List ℤ) → Solution (suc i) L x ws → Rising l → Below (3 ^ i) l
      → ((q : ℕ) → 0 < times q l
      → dist (v.up q) (v.dn q) ≤ dist (fold i k (part up L ws) (part dn L ws) q) (fold i k (part dn L ws) (part up L ws) q))
      → sum_abs (values v l) ≤ 64
  inner_size k l v ws S r b f =
      omega (
        arith,
        values-size i v l (fold i k (part up L ws) (part dn L ws)) (fold i k (part dn L ws) (part up L ws)) r b f,
        fold-size i k (part up L ws) (part dn L ws),
        part-size (suc i) L ws,
        S.small,
      )

  posed₁ : Posed i L₁ x₁
  posed₁ = record { rising = restrictions-rising 1 i L; below = below 1; full = length-take-le (length L₁) x (omega (arith, three)) }

  asks₁ : Asks i L₁ x₁ (λ α. D.up (α + 0 * 3 ^ i)) (λ α. D.dn (α + 0 * 3 ^ i))
  unfolding weight_of
  asks₁ α m =
      let e : lookup α (adapted i L₁) x₁
      ≡ lookup (α + 0 * 3 ^ i) (adapted (suc i) L) x = ap (λ (n : ℕ). lookup α (adapted i L₁) (take n x)) (sym (many 1))
      ∙ block_0 i L x α m in
      rw e (omega arith)

  pub first : ((vs : List ℤ) → Solution i L₁ x₁ vs → ⊥) → (ws : List ℤ) → Solution (suc i) L x ws → ⊥
  first none ws S =
      let p : ℕ → ℕ = part up L ws in
      let n : ℕ → ℕ = part dn L ws in
      let v : Weight = record { up = fold i 0 p n; dn = fold i 0 n p } in
      none (values v L₁)
      (from_solves i L₁ x₁ (λ α. D.up (α + 0 * 3 ^ i)) (λ α. D.dn (α + 0 * 3 ^ i)) v posed₁ asks₁
      (down_0 i L D.up D.dn p n (whole ws S))
      (inner_size 0 L₁ v ws S (restrictions-rising 1 i L) (below 1) (λ q m. le_refl _)))

  -- ---- the first moments d

  -- a pattern of L₁ by its place, or none is there
  placed : (q : ℕ) → q < 3 ^ i → ((j : ℕ) × (j < length L₁) × (get_or L₁ j 0 ≡ q)) ⊎ ((times q L₁ ≡ 0) × (signs_of i L q < 1))
  placed q h = go (dec_lt 0 (times q L₁))
    where
      go : Dec (0 < times q L₁) → ((j : ℕ) × (j < length L₁) × (get_or L₁ j 0 ≡ q)) ⊎ ((times q L₁ ≡ 0) × (signs_of i L q < 1))
      go (yes m) = inl (place_of q L₁ m)
      go (no m) = let z : times q L₁ ≡ 0 = omega arith in inr (z, restrictions-out 1 i L q h z)

  mark_is : (j : ℕ) → j < length L₁ → get_or mark j 0
      ≡ min 1 (times (get_or L₁ j 0) L) + 2 * min 1 (times (get_or L₁ j 0 + 3 ^ i) L) + 4 * min 1 (times (get_or L₁ j 0 + 2 * 3 ^ i) L)
  unfolding marks_of
  mark_is j h = Q.marks j h

  stands : (j : ℕ) → j < length L₁
      → 1 ≤ min 1 (times (get_or L₁ j 0) L) + min 1 (times (get_or L₁ j 0 + 3 ^ i) L) + min 1 (times (get_or L₁ j 0 + 2 * 3 ^ i) L)
  unfolding signs_of
  stands j h = (restrictions_holds 1 i L (get_or L₁ j 0) (stands_at L₁ j h)).1

  bal_at : (c : List ℤ) (j : ℕ) → length c ≡ length L₁ → j < length L₁
      → Bal (get_or c j (pos 0)) (part up L₁ c (get_or L₁ j 0)) (part dn L₁ c (get_or L₁ j 0))
  bal_at c j e h = omega (arith, part_at up L₁ c j (restrictions-rising 1 i L) e h, part_at dn L₁ c j (restrictions-rising 1 i L) e h)

  -- numbers that are put back, as a weight
  bal_put : (k : ℕ) (c : List ℤ) (j : ℕ) → chosen k L₁ mark ≡ restrictions k i L → length c ≡ length (restrictions k i L) → j < length L₁
      → Bal (addend k mark c j) (part up (restrictions k i L) c (get_or L₁ j 0)) (part dn (restrictions k i L) c (get_or L₁ j 0))
  unfolding addend
  bal_put k c j ch e h = go (leb k (count_of (get_or mark j 0))) refl
    where
      go : (b : Bool) → leb k (count_of (get_or mark j 0)) ≡ b
          → Bal (cond b (get_or c (rank k mark j) (pos 0)) (pos 0)) (part up (restrictions k i L) c (get_or L₁ j 0))
          (part dn (restrictions k i L) c (get_or L₁ j 0))
      go true t =
          let (r, f) = chosen_at k L₁ mark j h Q.marked t in
          let r' : rank k mark j < length (restrictions k i L) = rw ch at r in
          let f' : get_or (restrictions k i L) (rank k mark j) 0 ≡ get_or L₁ j 0 = rw ch at f in
          let a : part up (restrictions k i L) c (get_or L₁ j 0)
          ≡ up (get_or c (rank k mark j) (pos 0)) = rw (← f')
          (part_at up (restrictions k i L) c (rank k mark j) (restrictions-rising k i L) e r') in
          let b : part dn (restrictions k i L) c (get_or L₁ j 0)
          ≡ dn (get_or c (rank k mark j) (pos 0)) = rw (← f')
          (part_at dn (restrictions k i L) c (rank k mark j) (restrictions-rising k i L) e r') in
          omega arith
      go false t =
          let s : signs_of i L (get_or L₁ j 0) < k = omega (
            arith,
            leb-false k (count_of (get_or mark j 0)) t,
            ap count_of (Q.marks j h),
            count-signs i L (get_or L₁ j 0),
          ) in
          let z : times (get_or L₁ j 0) (restrictions k i L) ≡ 0 = restrictions_none k i L (get_or L₁ j 0) s in
          omega (arith, part_out up (restrictions k i L) c (get_or L₁ j 0) z, part_out dn (restrictions k i L) c (get_or L₁ j 0) z)

  module _ (d : List ℤ) (S₁ : Solution i L₁ x₁ d) where
    abbrev u : ℕ → ℕ
    u = part up L₁ d

    abbrev u' : ℕ → ℕ
    u' = part dn L₁ d

    SU : Solves i L₁ (λ α. D.up (α + 0 * 3 ^ i)) (λ α. D.dn (α + 0 * 3 ^ i)) u u'
    SU = to_solves i L₁ x₁ d (λ α. D.up (α + 0 * 3 ^ i)) (λ α. D.dn (α + 0 * 3 ^ i)) posed₁ asks₁ S₁

    abbrev k₊ : ℕ → ℕ
    k₊ = kp i L D.up D.dn u u' SU

    abbrev k₋ : ℕ → ℕ
    k₋ = kn i L D.up D.dn u u' SU

    -- ---- the known second moments e₀

    module _ (e₀ : List ℤ) (le : length e₀ ≡ length L₁) (K : Second mark d e₀) where
      bal_e₀ : (j : ℕ) → j < length L₁ → Bal (get_or e₀ j (pos 0)) (k₊ (get_or L₁ j 0)) (k₋ (get_or L₁ j 0))
      unfolding kp kn
      bal_e₀ j h =
          let q = get_or L₁ j 0 in
          rw (K.at j (omega (arith, Q.marked)))
          (second_known (times q L) (times (q + 3 ^ i) L) (times (q + 2 * 3 ^ i) L) (get_or mark j 0) (get_or d j (pos 0)) (u q) (u' q)
          (mark_is j h) (bal_at d j S₁.one_each h))

      known : (q : ℕ) → q < 3 ^ i → part up L₁ e₀ q + k₋ q ≡ part dn L₁ e₀ q + k₊ q
      unfolding kp kn signs_of
      known q h = go (placed q h)
        where
          go : ((j : ℕ) × (j < length L₁) × (get_or L₁ j 0 ≡ q)) ⊎ ((times q L₁ ≡ 0) × (signs_of i L q < 1))
              → part up L₁ e₀ q + k₋ q ≡ part dn L₁ e₀ q + k₊ q
          go (inl (j, l, e)) = rw (← e) (omega (arith, bal_e₀ j l, bal_at e₀ j le l))
          go (inr (z, s)) =
              omega (
                arith,
                part_out up L₁ e₀ q z,
                part_out dn L₁ e₀ q z,
                none_1 (times q L) (times (q + 3 ^ i) L) (times (q + 2 * 3 ^ i) L) (u q) (u' q) s,
                none_1 (times q L) (times (q + 3 ^ i) L) (times (q + 2 * 3 ^ i) L) (u' q) (u q) s,
              )

      abbrev r₂ : List ℤ
      r₂ = residuals i L₁ e₀ (adapted i L₂) x₂

      long₂ : length x₂ ≡ length (adapted i L₂)
      long₂ = length-take-le (length L₂) (drop (length L₁) x) (omega (arith, three, length-drop (length L₁) x)) ∙ sym (many 2)

      posed₂ : Posed i L₂ r₂
      posed₂ =
          record { rising = restrictions-rising 2 i L; below = below 2; full = residuals-length i L₁ e₀ (adapted i L₂) x₂ long₂ ∙ many 2 }

      abbrev v₊ : ℕ → ℕ
      v₊ = vdp i L D.up D.dn u u' SU

      abbrev v₋ : ℕ → ℕ
      v₋ = vdn i L D.up D.dn u u' SU

      asks₂ : Asks i L₂ r₂ v₊ v₋
      unfolding weight_of vdp vdn
      asks₂ α m =
          let X = lookup (α + 1 * 3 ^ i) (adapted (suc i) L) x in
          let W = weighted i L₁ e₀ α in
          let e : lookup α (adapted i L₂) r₂ ≡ X -ℤ W =
          lookup-residuals i L₁ e₀ (adapted i L₂) x₂ α m long₂
          ∙ ap (λ (z : ℤ). z -ℤ W)
          (ap (λ (n : ℕ). lookup α (adapted i L₂) (take (length L₂) (drop n x))) (sym (many 1))
          ∙ block_1 i L x (length L₂) α m (omega (arith, many 2))) in
          rw e
          (omega (
            arith,
            dif X W,
            diff_one W (weighted-tally i α L₁ e₀ (adapted_below i α L₂ m) (below 1)) (diff_parts W),
            tally_diff i α (part up L₁ e₀) (part dn L₁ e₀) k₊ k₋ known,
          ))

      no_known₁ : (a b q : ℕ) → 0 < times q L₂ → dist (a + k₋ q) (b + k₊ q) ≤ dist a b
      unfolding kp kn signs_of
      no_known₁ a b q m =
          let s = (restrictions_holds 2 i L q m).1 in
          same_dist a b (k₋ q) (k₊ q) (many-1 (times q L) (times (q + 3 ^ i) L) (times (q + 2 * 3 ^ i) L) (u' q) (u q) s)
          (many-1 (times q L) (times (q + 3 ^ i) L) (times (q + 2 * 3 ^ i) L) (u q) (u' q) s)

      pub second : ((vs : List ℤ) → Solution i L₂ r₂ vs → ⊥) → (ws : List ℤ) → Solution (suc i) L x ws → ⊥
      second none ws S =
          let p : ℕ → ℕ = part up L ws in
          let n : ℕ → ℕ = part dn L ws in
          let v : Weight = record { up = plus (fold i 1 p n) k₋; dn = plus (fold i 1 n p) k₊ } in
          none (values v L₂)
          (from_solves i L₂ r₂ v₊ v₋ v posed₂ asks₂ (down_1 i L D.up D.dn u u' SU p n (whole ws S))
          (inner_size 1 L₂ v ws S (restrictions-rising 2 i L) (below 2) (λ q m. no_known₁ (fold i 1 p n q) (fold i 1 n p q) q m)))

      -- ---- the second moments e, and the known third moments g₀

      module _ (f e : List ℤ) (ch : chosen 2 L₁ mark ≡ L₂) (S₂ : Solution i L₂ r₂ f) (le' : length e ≡ length L₁)
          (G : Spread 2 mark f e₀ e) where
        abbrev y : ℕ → ℕ
        y = part up L₂ f

        abbrev y' : ℕ → ℕ
        y' = part dn L₂ f

        SV : Solves i L₂ v₊ v₋ y y'
        SV = to_solves i L₂ r₂ f v₊ v₋ posed₂ asks₂ S₂

        abbrev V₊ : ℕ → ℕ
        V₊ = Vp i L D.up D.dn u u' SU y y' SV

        abbrev V₋ : ℕ → ℕ
        V₋ = Vn i L D.up D.dn u u' SU y y' SV

        bal_e : (j : ℕ) → j < length L₁ → Bal (get_or e j (pos 0)) (V₊ (get_or L₁ j 0)) (V₋ (get_or L₁ j 0))
        unfolding Vp Vn
        bal_e j h =
            rw (G.at j (omega (arith, Q.marked)))
            (omega (arith, sum (get_or e₀ j (pos 0)) (addend 2 mark f j), bal_e₀ j h, bal_put 2 f j ch S₂.one_each h))

        abbrev l₊ : ℕ → ℕ
        l₊ = lp i L D.up D.dn u u' SU y y' SV

        abbrev l₋ : ℕ → ℕ
        l₋ = ln i L D.up D.dn u u' SU y y' SV

        module _ (g₀ : List ℤ) (lg : length g₀ ≡ length L₁) (K₃ : Third mark d e g₀) where
          bal_g₀ : (j : ℕ) → j < length L₁ → Bal (get_or g₀ j (pos 0)) (l₊ (get_or L₁ j 0)) (l₋ (get_or L₁ j 0))
          unfolding lp ln
          bal_g₀ j h =
              let q = get_or L₁ j 0 in
              rw (K₃.at j (omega (arith, Q.marked)))
              (third_known (times q L) (times (q + 3 ^ i) L) (times (q + 2 * 3 ^ i) L) (get_or mark j 0) (get_or d j (pos 0))
              (get_or e j (pos 0))
              (u q) (u' q) (V₊ q) (V₋ q) (mark_is j h) (stands j h)
              (bal_at d j S₁.one_each h) (bal_e j h))

          known₃ : (q : ℕ) → q < 3 ^ i → part up L₁ g₀ q + l₋ q ≡ part dn L₁ g₀ q + l₊ q
          unfolding lp ln signs_of
          known₃ q h = go (placed q h)
            where
              go : ((j : ℕ) × (j < length L₁) × (get_or L₁ j 0 ≡ q)) ⊎ ((times q L₁ ≡ 0) × (signs_of i L q < 1))
                  → part up L₁ g₀ q + l₋ q ≡ part dn L₁ g₀ q + l₊ q
              go (inl (j, l, e)) = rw (← e) (omega (arith, bal_g₀ j l, bal_at g₀ j lg l))
              go (inr (z, s)) =
                  omega (
                    arith,
                    part_out up L₁ g₀ q z,
                    part_out dn L₁ g₀ q z,
                    none_2 (times q L) (times (q + 3 ^ i) L) (times (q + 2 * 3 ^ i) L) (u q) (V₊ q) (V₋ q) s,
                    none_2 (times q L) (times (q + 3 ^ i) L) (times (q + 2 * 3 ^ i) L) (u' q) (V₋ q) (V₊ q) s,
                  )

          abbrev r₃ : List ℤ
          r₃ = residuals i L₁ g₀ (adapted i L₃) x₃

          long₃ : length x₃ ≡ length (adapted i L₃)
          long₃ = omega (arith, three, length-drop (length L₁ + length L₂) x, many 3)

          posed₃ : Posed i L₃ r₃
          posed₃ =
              record {
                rising = restrictions-rising 3 i L;
                below = below 3;
                full = residuals-length i L₁ g₀ (adapted i L₃) x₃ long₃
                    ∙ many 3;
              }

          abbrev t₊ : ℕ → ℕ
          t₊ = tdp i L D.up D.dn u u' SU y y' SV

          abbrev t₋ : ℕ → ℕ
          t₋ = tdn i L D.up D.dn u u' SU y y' SV

          asks₃ : Asks i L₃ r₃ t₊ t₋
          unfolding weight_of tdp tdn
          asks₃ α m =
              let X = lookup (α + 2 * 3 ^ i) (adapted (suc i) L) x in
              let W = weighted i L₁ g₀ α in
              let e : lookup α (adapted i L₃) r₃ ≡ X -ℤ W =
              lookup-residuals i L₁ g₀ (adapted i L₃) x₃ α m long₃
              ∙ ap (λ (z : ℤ). z -ℤ W)
              (ap₂ (λ (n k : ℕ). lookup α (adapted i L₃) (drop (n + k) x)) (sym (many 1)) (sym (many 2)) ∙ block_2 i L x α m) in
              rw e
              (omega (
                arith,
                dif X W,
                diff_one W (weighted-tally i α L₁ g₀ (adapted_below i α L₃ m) (below 1)) (diff_parts W),
                tally_diff i α (part up L₁ g₀) (part dn L₁ g₀) l₊ l₋ known₃,
              ))

          no_known₂ : (a b q : ℕ) → 0 < times q L₃ → dist (a + l₋ q) (b + l₊ q) ≤ dist a b
          unfolding lp ln signs_of
          no_known₂ a b q m =
              let s = (restrictions_holds 3 i L q m).1 in
              same_dist a b (l₋ q) (l₊ q) (many-2 (times q L) (times (q + 3 ^ i) L) (times (q + 2 * 3 ^ i) L) (u' q) (V₋ q) (V₊ q) s)
              (many-2 (times q L) (times (q + 3 ^ i) L) (times (q + 2 * 3 ^ i) L) (u q) (V₊ q) (V₋ q) s)

          pub third : ((vs : List ℤ) → Solution i L₃ r₃ vs → ⊥) → (ws : List ℤ) → Solution (suc i) L x ws → ⊥
          third none ws S =
              let p : ℕ → ℕ = part up L ws in
              let n : ℕ → ℕ = part dn L ws in
              let v : Weight = record { up = plus (fold i 2 p n) l₋; dn = plus (fold i 2 n p) l₊ } in
              none (values v L₃)
              (from_solves i L₃ r₃ t₊ t₋ v posed₃ asks₃ (down_2 i L D.up D.dn u u' SU y y' SV p n (whole ws S))
              (inner_size 2 L₃ v ws S (restrictions-rising 3 i L) (below 3) (λ q m. no_known₂ (fold i 2 p n q) (fold i 2 n p q) q m)))

          -- ---- the third moments g, and the numbers

          module _ (h g : List ℤ) (ch₃ : chosen 3 L₁ mark ≡ L₃) (S₃ : Solution i L₃ r₃ h) (lg' : length g ≡ length L₁)
              (G₃ : Spread 3 mark h g₀ g) where
            abbrev z₊ : ℕ → ℕ
            z₊ = part up L₃ h

            abbrev z₋ : ℕ → ℕ
            z₋ = part dn L₃ h

            ST : Solves i L₃ t₊ t₋ z₊ z₋
            ST = to_solves i L₃ r₃ h t₊ t₋ posed₃ asks₃ S₃

            abbrev T₊ : ℕ → ℕ
            T₊ = Tp i L D.up D.dn u u' SU y y' SV z₊ z₋ ST

            abbrev T₋ : ℕ → ℕ
            T₋ = Tn i L D.up D.dn u u' SU y y' SV z₊ z₋ ST

            bal_g : (j : ℕ) → j < length L₁ → Bal (get_or g j (pos 0)) (T₊ (get_or L₁ j 0)) (T₋ (get_or L₁ j 0))
            unfolding Tp Tn
            bal_g j q =
                rw (G₃.at j (omega (arith, Q.marked)))
                (omega (arith, sum (get_or g₀ j (pos 0)) (addend 3 mark h j), bal_g₀ j q, bal_put 3 h j ch₃ S₃.one_each q))

            -- a pattern of L by its low part and its last digit
            digits_at : (k : ℕ) → k < length L
                → (q c : ℕ) × (q < 3 ^ i) × (c < 3) × (get_or L k 0 ≡ q + c * 3 ^ i) × (get_or L k 0 / 3 ^ i ≡ c)
                × (get_or L₁ (get_or at k 0) 0 ≡ q)
            digits_at k b =
                let (q, c, l, s, e) = digits i (get_or L k 0) (below_at (3 ^ suc i) L P.below k b) in
                (q, c, l, s, e, ap (λ (n : ℕ). n / 3 ^ i) e ∙ top i c l, Q.places k b ∙ ap (λ (n : ℕ). n % 3 ^ i) e ∙ low i c l)

            -- the numbers of a solution are those that the moments give
            pub numbers : (ws : List ℤ) → Solution (suc i) L x ws → (k : ℕ) → k < length L
                → NumberAt (3 ^ i) L at d e g k (get_or ws k (pos 0))
            unfolding fold Tp Tn
            numbers ws S k b =
                let p : ℕ → ℕ = part up L ws in
                let n : ℕ → ℕ = part dn L ws in
                let (q, c, l, s, ek, ec, ej) = digits_at k b in
                let j = get_or at k 0 in
                let m : j < length L₁ = Q.noted k b in
                let W = whole ws S in
                let bz : Bal (get_or ws k (pos 0)) (p (q + c * 3 ^ i)) (n (q + c * 3 ^ i)) =
                rw (← ek) (omega (arith, part_at up L ws k P.rising S.one_each b, part_at dn L ws k P.rising S.one_each b)) in
                let bd : Bal (get_or d j (pos 0)) (u q) (u' q) = rw ej at (bal_at d j S₁.one_each m) in
                let be : Bal (get_or e j (pos 0)) (V₊ q) (V₋ q) = rw ej at (bal_e j m) in
                let bg : Bal (get_or g j (pos 0)) (T₊ q) (T₋ q) = rw ej at (bal_g j m) in
                let t = solves_same i L₃ t₊ t₋ (plus (fold i 2 p n) l₋) (plus (fold i 2 n p) l₊) z₊ z₋
                (down_2 i L D.up D.dn u u' SU y y' SV p n W) ST q l in
                rw ec
                (number_by p n (3 ^ i) q c (get_or d j (pos 0)) (get_or e j (pos 0)) (get_or g j (pos 0)) (get_or ws k (pos 0)) (u q)
                (u' q) (V₊ q)
                (V₋ q) (T₊ q) (T₋ q) s bz
                (sum_is i L D.up D.dn u u' SU p n W q l)
                (difference_is i L D.up D.dn u u' SU y y' SV p n W q l)
                (omega (arith, t))
                bd be bg)

            evens : (out : List ℤ) → ((k : ℕ) → k < length L → NumberAt (3 ^ i) L at d e g k (get_or out k (pos 0)))
                → (q : ℕ) → q < 3 ^ i → doubled i L D.up D.dn u u' SU y y' SV z₊ z₋ ST q % 2 ≡ 0
            unfolding doubled
            evens out f q l = go (dec_lt 0 (times (q + 3 ^ i) L))
              where
                go : Dec (0 < times (q + 3 ^ i) L) → (T₊ q + V₊ q + (T₋ q + V₋ q)) % 2 ≡ 0
                go (yes m) =
                    let (k, b, ek) = place_of (q + 3 ^ i) L m in
                    let j = get_or at k 0 in
                    let r : j < length L₁ = Q.noted k b in
                    let once : q + 3 ^ i ≡ q + 1 * 3 ^ i = omega arith in
                    let ec : get_or L k 0 / 3 ^ i ≡ 1 = ap (λ (n : ℕ). n / 3 ^ i) (ek ∙ once) ∙ top i 1 l in
                    let ej : get_or L₁ j 0 ≡ q = Q.places k b ∙ ap (λ (n : ℕ). n % 3 ^ i) (ek ∙ once) ∙ low i 1 l in
                    let be : Bal (get_or e j (pos 0)) (V₊ q) (V₋ q) = rw ej at (bal_e j r) in
                    let bg : Bal (get_or g j (pos 0)) (T₊ q) (T₋ q) = rw ej at (bal_g j r) in
                    let z : get_or out k (pos 0) +ℤ get_or out k (pos 0) ≡ get_or g j (pos 0) +ℤ get_or e j (pos 0) = rw ec at (f k b) in
                    even_sum (get_or out k (pos 0)) (get_or e j (pos 0)) (get_or g j (pos 0)) (V₊ q) (V₋ q) (T₊ q) (T₋ q) z be bg
                go (no m) =
                    let t : T₊ q + V₊ q ≡ T₋ q + V₋ q = balance_1 i L D.up D.dn u u' SU y y' SV z₊ z₋ ST q l (omega arith) in
                    omega arith

            abbrev W⁺ : Weight
            W⁺ = record { up = p⁺ i L D.up D.dn u u' SU y y' SV z₊ z₋ ST; dn = n⁺ i L D.up D.dn u u' SU y y' SV z₊ z₋ ST }

            bal_out : (z : ℤ) (k : ℕ) → k < length L → NumberAt (3 ^ i) L at d e g k z → Bal z (W⁺.up (get_or L k 0)) (W⁺.dn (get_or L k 0))
            unfolding p⁺ n⁺ w₀ w₀' w₁ w₁' w₂ w₂'
            bal_out z k b f =
                let (q, c, l, s, ek, ec, ej) = digits_at k b in
                let j = get_or at k 0 in
                let m : j < length L₁ = Q.noted k b in
                let bd : Bal (get_or d j (pos 0)) (u q) (u' q) = rw ej at (bal_at d j S₁.one_each m) in
                let be : Bal (get_or e j (pos 0)) (V₊ q) (V₋ q) = rw ej at (bal_e j m) in
                let bg : Bal (get_or g j (pos 0)) (T₊ q) (T₋ q) = rw ej at (bal_g j m) in
                let a₀ = w₀ i L D.up D.dn u u' SU y y' SV z₊ z₋ ST in
                let a₁ = w₁ i L D.up D.dn u u' SU y y' SV z₊ z₋ ST in
                let a₂ = w₂ i L D.up D.dn u u' SU y y' SV z₊ z₋ ST in
                let b₀ = w₀' i L D.up D.dn u u' SU y y' SV z₊ z₋ ST in
                let b₁ = w₁' i L D.up D.dn u u' SU y y' SV z₊ z₋ ST in
                let b₂ = w₂' i L D.up D.dn u u' SU y y' SV z₊ z₋ ST in
                number_back c (get_or d j (pos 0)) (get_or e j (pos 0)) (get_or g j (pos 0)) z (u q) (u' q) (V₊ q) (V₋ q) (T₊ q) (T₋ q)
                (a₀ q) (a₁ q) (a₂ q) (b₀ q) (b₁ q) (b₂ q) (W⁺.up (get_or L k 0)) (W⁺.dn (get_or L k 0)) s
                (rw ec at f) bd be bg refl refl refl refl refl refl
                (λ t. (
                  ap W⁺.up (ek ∙ digit-0 q c (3 ^ i) t) ∙ glue-0 i a₀ a₁ a₂ q l,
                  ap W⁺.dn (ek ∙ digit-0 q c (3 ^ i) t)
                      ∙ glue-0 i b₀ b₁ b₂ q l,
                ))
                (λ t. (
                  ap W⁺.up (ek ∙ digit-1 q c (3 ^ i) t) ∙ glue-1 i a₀ a₁ a₂ q l,
                  ap W⁺.dn (ek ∙ digit-1 q c (3 ^ i) t)
                      ∙ glue-1 i b₀ b₁ b₂ q l,
                ))
                (λ t. (
                  ap W⁺.up (ek ∙ digit-2 q c (3 ^ i) t) ∙ glue-2 i a₀ a₁ a₂ q l,
                  ap W⁺.dn (ek ∙ digit-2 q c (3 ^ i) t)
                      ∙ glue-2 i b₀ b₁ b₂ q l,
                ))

            -- and numbers that the moments give are a solution
            pub finish : (out : List ℤ) → length out ≡ length L
                → ((k : ℕ) → k < length L → NumberAt (3 ^ i) L at d e g k (get_or out k (pos 0))) → sum_abs out ≤ 64
                → Solution (suc i) L x out
            finish out lo f s =
                let v : values W⁺ L ≡ out = values_are W⁺ L out lo (λ k b. bal_out (get_or out k (pos 0)) k b (f k b)) in
                record {
                  one_each = lo;
                  give = subst (λ (c : List ℤ). map (weighted (suc i) L c) (adapted (suc i) L) ≡ x) v
                      (give_of (suc i) L x P W⁺ (solution i L D.up D.dn u u' SU y y' SV z₊ z₋ ST (evens out f)));
                  small = s;
                }
