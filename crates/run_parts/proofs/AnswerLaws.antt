-- Laws for a round's answers: copied and tested in one pass, and cut into the two halves that are solved.
use mathlib.Core.Path.{◌≡◌, refl, sym, ap, ◌∙◌, subst}
use mathlib.Core.Bool.{Bool, true, false, ◌&&◌}
use mathlib.Core.Option.{none}
use mathlib.Core.List.{List, [], ◌∷◌, ◌++◌, append_assoc}
use Prim.Native.Nat.{ℕ, zero, suc, ◌+◌, ◌*◌, ◌-◌, ◌≤◌, ◌<◌}
use native.Mathlib.Omega.{arith}
use borrow.Author.Count.{below_more}
use borrow.Author.Tests.{leb-true, leb-false}
use lib.Dec.{leb}
use lib.IntN.{ℤ, pos, nat_abs}
use lib.ListN.{length, get_or, take, drop, set, length-append, length-drop, take-append-drop, get_or-append}
use lib.Seq.{length-take-le, take_all}
use Rattle.refusals.specs.Limits.{most_points}
use Rattle.integers.specs.Sums.{Within}
use Rattle.integers.proofs.Sums.{within_of}
use Rattle.solutions.proofs.Bounds.{solution_small}
use Rattle.rounds.specs.Rows.{rows_with}
use Rattle.rounds.specs.RoundEnd.{round_rows}
use Rattle.run_round_end.proofs.MomentLaws.{rounds_none}
use Rattle.runs.proofs.Held.{stored}
use Rattle.run_parts.specs.Parts.{Copied}

-- ---- the test of the answers, as they are passed

-- what the flag says of the first k
abbrev pub Told : Bool → List ℤ → ℕ → Type 0
Told true zs k = (j : ℕ) → j < k → nat_abs (get_or zs j (pos 0)) ≤ most_points
Told false zs k = Within most_points zs → ⊥

pub told_next : (b r : Bool) (zs : List ℤ) (k : ℕ) → Told b zs k → r ≡ leb (nat_abs (get_or zs k (pos 0))) most_points && b
    → Told r zs (k + 1)
told_next b r zs k t e = subst (λ (a : Bool). Told a zs (k + 1)) (sym e) (go (leb m most_points) refl b t)
  where
    m : ℕ
    m = nat_abs (get_or zs k (pos 0))

    go : (a : Bool) → leb m most_points ≡ a → (b : Bool) → Told b zs k → Told (a && b) zs (k + 1)
    go true f true t = below_more (λ (j : ℕ). nat_abs (get_or zs j (pos 0)) ≤ most_points) k t (leb-true m most_points f)
    go true f false t = t
    go false f b t = λ w. omega (arith, leb-false m most_points f, w.at k)

pub told_last : (b : Bool) (zs out : List ℤ) (k : ℕ) → Told b zs k → length zs ≤ k → take (length zs) out ≡ zs → Copied zs out b
told_last true zs out k t h e = (within_of most_points zs (λ j l. t j (omega arith)), e)
told_last false zs out k t h e = t

-- ---- bounds of a list and of one more

within-front : (b : ℕ) (xs ys : List ℤ) → Within b (xs ++ ys) → Within b xs
within-front b xs ys w = within_of b xs (λ k h. rw (get_or-append xs ys (pos 0) k h) at (w.at k))

within_last : (b : ℕ) (xs : List ℤ) (z : ℤ) → Within b xs → nat_abs z ≤ b → Within b (xs ++ (z ∷ []))
within_last b xs z w h = record { at = go xs (λ k. w.at k) }
  where
    go : (xs : List ℤ) → ((k : ℕ) → nat_abs (get_or xs k (pos 0)) ≤ b) → (k : ℕ) → nat_abs (get_or (xs ++ (z ∷ [])) k (pos 0)) ≤ b
    go [] f zero = h
    go [] f (suc k) = f k
    go (x ∷ xs) f zero = f 0
    go (x ∷ xs) f (suc k) = go xs (λ j. f (suc j)) k

-- ---- the two halves, of which the last answer ends the second

-- the answers from the n-th on, as the code lends them
pub rest : (n : ℕ) (zs : List ℤ) → take (length zs - n) (drop n zs) ≡ drop n zs
rest n zs = take_all (length zs - n) (drop n zs) (omega (arith, length-drop n zs))

module _ (i : ℕ) (P C : List ℕ) (zs : List ℤ) (z : ℤ) (hC : length C ≡ length P) (h : length zs + 1 ≡ 2 * length P) where
  abbrev n : ℕ
  n = length P

  first-long : length (take n zs) ≡ length P
  first-long = length-take-le n zs (omega arith)

  second-long : length (drop n zs ++ (z ∷ [])) ≡ length P
  second-long = omega (arith, length-append (drop n zs) (z ∷ []), length-drop n zs)

  halves : zs ++ (z ∷ []) ≡ take n zs ++ (drop n zs ++ (z ∷ []))
  halves = ap (λ (l : List ℤ). l ++ (z ∷ [])) (sym (take-append-drop n zs)) ∙ append_assoc (take n zs) (drop n zs) (z ∷ [])

  -- no solution has a number outside the range among its queries
  pub first-outside : (Within most_points (take n zs) → ⊥) → round_rows i (rows_with P C) (zs ++ (z ∷ [])) ≡ none
  first-outside f =
      rw halves (rounds_none i P C (take n zs) (drop n zs ++ (z ∷ [])) hC first-long second-long
      (λ us vs S T. f (solution_small i P (take n zs) us S)))

  pub second-outside : (Within most_points (drop n zs) → ⊥) → round_rows i (rows_with P C) (zs ++ (z ∷ [])) ≡ none
  second-outside f =
      rw halves (rounds_none i P C (take n zs) (drop n zs ++ (z ∷ [])) hC first-long second-long
      (λ us vs S T. f (within-front most_points (drop n zs) (z ∷ []) (solution_small i P (drop n zs ++ (z ∷ [])) vs T))))

  -- what the call is given, from what was copied to x and y
  pub record Given (x y : List ℤ) : Type 0 where
    pub long₁ : length (take n x) ≡ length P
    pub long₂ : length (take n (set y (n - 1) z)) ≡ length P
    pub within₁ : Within most_points (take n x)
    pub within₂ : Within most_points (take n (set y (n - 1) z))
    pub whole : take n x ++ take n (set y (n - 1) z) ≡ zs ++ (z ∷ [])

  pub given : (x y : List ℤ) → nat_abs z ≤ most_points → n ≤ length y → Copied (take n zs) x true → Copied (drop n zs) y true → Given x y
  given x y most room a b =
      let e : take n x ≡ take n zs = subst (λ (k : ℕ). take k x ≡ take n zs) first-long a.1 in
      let m : n - 1 + 1 ≡ n = omega arith in
      let k : length (drop n zs) ≡ n - 1 = omega (arith, length-drop n zs) in
      let f : take (n - 1) y ≡ drop n zs = subst (λ (k : ℕ). take k y ≡ drop n zs) k b.1 in
      let g : take n (set y (n - 1) z) ≡ drop n zs ++ (z ∷ []) =
      subst (λ (k : ℕ). take k (set y (n - 1) z) ≡ drop n zs ++ (z ∷ [])) m
      (stored y (n - 1) z (omega arith) ∙ ap (λ (l : List ℤ). l ++ (z ∷ [])) f) in
      record {
        long₁ = rw e first-long;
        long₂ = rw g second-long;
        within₁ = rw e a.0;
        within₂ = rw g (within_last most_points (drop n zs) z b.0 most);
        whole = rw (e, g) (sym halves);
      }
