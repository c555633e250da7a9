-- Which number closes a run, from the answers taken: the three causes, and that no two of them meet.
use mathlib.Core.Path.{◌≡◌, refl, sym, ap, ◌∙◌, subst}
use mathlib.Core.Logic.{◌⊎◌, inl, inr}
use mathlib.Core.List.{List, [], ◌∷◌, ◌++◌, append_assoc}
use Prim.Native.Nat.{ℕ, zero, suc, ◌^◌, ◌<◌, ◌≤◌}
use native.Mathlib.Omega.{arith}
use lib.IntN.{ℤ, pos, negsuc, nat_abs}
use lib.Signed.{◌<ℤ◌}
use lib.ListN.{length, take, drop, take-append-drop}
use Rattle.refusals.specs.Limits.{most_points}
use Rattle.integers.proofs.Parts.{int, parts, side, neg}
use Rattle.signs.proofs.Queries.{counts}
use Rattle.signs.specs.Signs.{query}
use Rattle.rounds.specs.Rows.{Row, rows_of, restrict, patterns, Oracle, Fits}
use Rattle.rounds.specs.Rounds.{round_of, Counts, Answered, Determined}
use Rattle.rounds.proofs.Answers.{Facts, facts, query-zero}
use Rattle.rounds.proofs.Rounds.{next_counts, oracle_next, query-small}
use Rattle.runs.specs.Demand.{FirstOut, Outside, SomeOutside, LaterOut, NoCounts, SomeFits}

-- an answer out of its limits
abbrev pub OutOfLimits : List ℤ → Type 0
OutOfLimits zs = FirstOut zs ⊎ LaterOut zs

-- why the number k closes the run after the answers zs
pub data Cause (s k : ℕ) (zs : List ℤ) (ps : List ℕ) : Type 0 where
  by_first : k ≡ 8 → FirstOut zs → (LaterOut zs → ⊥) → Cause s k zs ps
  by_later : k ≡ 9 → (FirstOut zs → ⊥) → LaterOut zs → Cause s k zs ps
  by_counts : k ≡ 10 → NoCounts s zs ps → (LaterOut zs → ⊥) → Cause s k zs ps

-- ---- outside −n .. n

pub outside_far : (n : ℕ) (z : ℤ) → Outside n z → n < nat_abs z
outside_far n z (inl h) = omega (int, parts z, side z, neg (pos n), h)
outside_far n z (inr h) = omega (int, parts z, side z, h)

pub far_outside : (n : ℕ) (z : ℤ) → n < nat_abs z → Outside n z
far_outside n (pos m) h = inr (omega (int, h))
far_outside n (negsuc m) h = inl (omega (int, neg (pos n), h))

some-append : (n : ℕ) (l m : List ℤ) → SomeOutside n (l ++ m) → SomeOutside n l ⊎ SomeOutside n m
unfolding SomeOutside
some-append n [] m h = inr h
some-append n (z ∷ l) m (inl h) = inl (inl h)
some-append n (z ∷ l) m (inr h) = go (some-append n l m h)
  where
    go : SomeOutside n l ⊎ SomeOutside n m → (Outside n z ⊎ SomeOutside n l) ⊎ SomeOutside n m
    go (inl k) = inl (inr k)
    go (inr k) = inr k

some_left : (n : ℕ) (l m : List ℤ) → SomeOutside n l → SomeOutside n (l ++ m)
unfolding SomeOutside
some_left n [] m h = absurd h
some_left n (z ∷ l) m (inl h) = inl h
some_left n (z ∷ l) m (inr h) = inr (some_left n l m h)

some_right : (n : ℕ) (l m : List ℤ) → SomeOutside n m → SomeOutside n (l ++ m)
unfolding SomeOutside
some_right n [] m h = h
some_right n (z ∷ l) m h = inr (some_right n l m h)

-- one answer more
pub one-within : (n : ℕ) (l m : List ℤ) (z : ℤ) → (SomeOutside n (l ++ m) → ⊥) → nat_abs z ≤ n → SomeOutside n (l ++ (m ++ (z ∷ []))) → ⊥
unfolding SomeOutside
one-within n l m z w h k = go (some-append n (l ++ m) (z ∷ []) (subst (SomeOutside n) (sym (append_assoc l m (z ∷ []))) k))
  where
    go : SomeOutside n (l ++ m) ⊎ SomeOutside n (z ∷ []) → ⊥
    go (inl x) = w x
    go (inr (inl x)) = omega (arith, outside_far n z x)
    go (inr (inr x)) = x

pub one_outside : (n : ℕ) (l m : List ℤ) (z : ℤ) → n < nat_abs z → SomeOutside n (l ++ (m ++ (z ∷ [])))
unfolding SomeOutside
one_outside n l m z h = some_right n l (m ++ (z ∷ [])) (some_right n m (z ∷ []) (inl (far_outside n z h)))

-- ---- answers that begin with n

pub later_from : (n : ℕ) (l zs : List ℤ) → zs ≡ pos n ∷ l → LaterOut zs → SomeOutside n l
later_from n l zs e (m, k, f, h) =
    let a : m ≡ n = cc in
    let b : k ≡ l = cc in
    subst (λ (x : ℕ). SomeOutside x l) a (subst (SomeOutside m) b h)

pub first_in : (n : ℕ) (l zs : List ℤ) → zs ≡ pos n ∷ l → n ≤ most_points → FirstOut zs → ⊥
first_in n l zs e h (z, k, f, o) = go (let a : z ≡ pos n = cc in a) o
  where
    go : z ≡ pos n → (z <ℤ pos 0) ⊎ (pos 64 <ℤ z) → ⊥
    go a (inl x) = omega (int, a, x)
    go a (inr x) = omega (int, a, x, h)

pub limits_in : (n : ℕ) (l zs : List ℤ) → zs ≡ pos n ∷ l → n ≤ most_points → (SomeOutside n l → ⊥) → OutOfLimits zs → ⊥
limits_in n l zs e h w (inl x) = first_in n l zs e h x
limits_in n l zs e h w (inr x) = w (later_from n l zs e x)

pub none_in : OutOfLimits [] → ⊥
none_in (inl (z, k, e, o)) = omega (arith, ap length e)
none_in (inr (n, k, e, o)) = omega (arith, ap length e)

-- ---- a first part of the answers

pub limits-take : (k : ℕ) (zs : List ℤ) → OutOfLimits (take k zs) → OutOfLimits zs
limits-take k zs (inl (z, l, e, o)) =
    inl (z, l ++ drop k zs, sym (take-append-drop k zs) ∙ ap (λ (x : List ℤ). x ++ drop k zs) e, o)
limits-take k zs (inr (n, l, e, o)) =
    inr (
      n,
      l ++ drop k zs,
      sym (take-append-drop k zs) ∙ ap (λ (x : List ℤ). x ++ drop k zs) e,
      some_left n l (drop k zs) o,
    )

-- ---- what fits

some_fits : (s : ℕ) (E ps : List ℕ) (zs : List ℤ) → Fits s E ps zs → SomeOutside (length E) zs → ⊥
unfolding Fits SomeOutside
some_fits s E ps [] f h = h
some_fits s E [] (z ∷ zs) f h = f
some_fits s E (α ∷ ps) (z ∷ zs) f (inl h) = omega (arith, outside_far (length E) z h, ap nat_abs f.0, query-small s α E)
some_fits s E (α ∷ ps) (z ∷ zs) f (inr h) = some_fits s E ps zs f.1 h

-- answers that an oracle fits are in their limits
pub fits_in : (s : ℕ) (E ps : List ℕ) (zs : List ℤ) → Oracle s E → Fits s E (0 ∷ ps) zs → OutOfLimits zs → ⊥
unfolding Fits SomeOutside
fits_in s E ps [] O f h = none_in h
fits_in s E ps (z ∷ zs) O f h =
    limits_in (length E) zs (z ∷ zs) (ap (λ (x : ℤ). x ∷ zs) (f.0 ∙ query-zero s E)) O.held (some_fits s E ps zs f.1) h

-- ---- no counts

module _ (s : ℕ) (zs : List ℤ) (ps : List ℕ) where
  -- where an oracle fits there are counts
  pub counts_fit : NoCounts s zs ps → SomeFits s ps zs → ⊥
  counts_fit (i, h, a, none) (E, O, f) =
      none (rows_of (3 ^ suc i) (counts (restrict (suc i) E)))
      (subst (λ (qs : List ℕ). Counts i a.rows qs zs (rows_of (3 ^ suc i) (counts (restrict (suc i) E)))) (sym a.products)
      (subst (λ (ys : List ℤ).
      Counts i a.rows (a.asked ++ round_of i (patterns a.rows)) ys (rows_of (3 ^ suc i) (counts (restrict (suc i) E))))
      (sym a.answers)
      (next_counts i a.before a.now a.asked a.rows F a.all _
      (oracle_next i a.before a.now a.asked a.rows F a.all s E h O.below
      (subst (λ (qs : List ℕ). Fits s E qs (a.before ++ a.now)) a.products
      (subst (λ (ys : List ℤ). Fits s E ps ys) a.answers f))))))
    where
      F : Facts i a.before a.asked a.rows
      F = facts i a.before a.asked a.rows a.after

  -- and the first answer is in its limits
  pub counts-first : NoCounts s zs ps → FirstOut zs → ⊥
  counts-first (i, h, a, none) o =
      first_in F.n (F.later_answers ++ a.now) zs (a.answers ∙ ap (λ (l : List ℤ). l ++ a.now) F.first-answer) F.small o
    where
      F : Facts i a.before a.asked a.rows
      F = facts i a.before a.asked a.rows a.after

  -- ---- one cause at a time

  pub is_8 : (k : ℕ) → Cause s k zs ps → FirstOut zs → k ≡ 8
  is_8 k (by_first e o n) h = e
  is_8 k (by_later e n o) h = absurd (n h)
  is_8 k (by_counts e c n) h = absurd (counts-first c h)

  pub is_9 : (k : ℕ) → Cause s k zs ps → LaterOut zs → k ≡ 9
  is_9 k (by_first e o n) h = absurd (n h)
  is_9 k (by_later e n o) h = e
  is_9 k (by_counts e c n) h = absurd (n h)

  pub is_10 : (k : ℕ) → Cause s k zs ps → NoCounts s zs ps → (LaterOut zs → ⊥) → k ≡ 10
  is_10 k (by_first e o n) c l = absurd (counts-first c o)
  is_10 k (by_later e n o) c l = absurd (l o)
  is_10 k (by_counts e d n) c l = e

  pub why_8 : Cause s 8 zs ps → FirstOut zs
  why_8 (by_first e o n) = o
  why_8 (by_later e n o) = absurd (omega arith)
  why_8 (by_counts e c n) = absurd (omega arith)

  pub why_9 : Cause s 9 zs ps → LaterOut zs
  why_9 (by_first e o n) = absurd (omega arith)
  why_9 (by_later e n o) = o
  why_9 (by_counts e c n) = absurd (omega arith)

  pub why_10 : Cause s 10 zs ps → NoCounts s zs ps × (LaterOut zs → ⊥)
  why_10 (by_first e o n) = absurd (omega arith)
  why_10 (by_later e n o) = absurd (omega arith)
  why_10 (by_counts e c n) = (c, n)
