-- What is counted once: two lists that have the same points, each once, have as many, and the same counts, queries and patterns, so that
-- "the points, each once" says all that a query needs. And whatever the lists, the same points have the same patterns.
use mathlib.Core.Path.{◌≡◌, refl, sym, ap, subst, ◌∙◌}
use mathlib.Core.Logic.{◌⊎◌, inl, inr, ⊎_elim}
use mathlib.Core.List.{List, [], ◌∷◌, map, map-map}
use Prim.Native.Nat.{ℕ}
use native.Mathlib.Omega.{arith}
use lib.ListN.{length}
use Rattle.signs.specs.Lists.{times}
use Rattle.signs.specs.Signs.{sign_digit}
use Rattle.sign_counts.specs.Counts.{sign_counts, panel_number}
use Rattle.contents.specs.Contents.{Contents, product_value, query_in, pattern_at, patterns_in}
use Rattle.contents.specs.Counts.{counts_in}
use Rattle.contents.specs.Distinct.{In, Alike, NoneTwice, EachOnce, on_points}
use Rattle.contents.proofs.Counts.{counts_in_all, counts-panel}

module _ {X : Type 0} where
  -- ---- a list with one of its points taken out

  module _ (x : X) where
    unfoldable out : (l : List X) → In x l → List X
    unfolding In
    out [] h = []
    out (y ∷ l) (inl e) = l
    out (y ∷ l) (inr h) = y ∷ out l h

    out_in : (z : X) (l : List X) (h : In x l) → In z (out l h) → In z l
    unfolding In out
    out_in z [] h i = i
    out_in z (y ∷ l) (inl e) i = inr i
    out_in z (y ∷ l) (inr h) i = ⊎_elim inl (λ j. inr (out_in z l h j)) i

    in_out : (z : X) (l : List X) (h : In x l) → In z l → (z ≡ x) ⊎ In z (out l h)
    unfolding In out
    in_out z [] h i = inr i
    in_out z (y ∷ l) (inl e) i = ⊎_elim (λ j. inl (j ∙ sym e)) inr i
    in_out z (y ∷ l) (inr h) (inl e) = inr (inl e)
    in_out z (y ∷ l) (inr h) (inr i) = ⊎_elim inl (λ j. inr (inr j)) (in_out z l h i)

    out_twice : (l : List X) (h : In x l) → NoneTwice l → NoneTwice (out l h)
    unfolding In out NoneTwice
    out_twice [] h n = n
    out_twice (y ∷ l) (inl e) n = n.1
    out_twice (y ∷ l) (inr h) n = (λ i. n.0 (out_in y l h i), out_twice l h n.1)

    out_gone : (l : List X) (h : In x l) → NoneTwice l → In x (out l h) → ⊥
    unfolding In out NoneTwice
    out_gone [] h n i = i
    out_gone (y ∷ l) (inl e) n i = n.0 (subst (λ (z : X). In z l) e i)
    out_gone (y ∷ l) (inr h) n (inl e) = n.0 (subst (λ (z : X). In z l) e h)
    out_gone (y ∷ l) (inr h) n (inr i) = out_gone l h n.1 i

    out-times : (f : X → ℕ) (q : ℕ) (l : List X) (h : In x l) → times q (map f l) ≡ times q (f x ∷ map f (out l h))
    unfolding In out times
    out-times f q [] h = absurd h
    out-times f q (y ∷ l) (inl e) = rw e refl
    out-times f q (y ∷ l) (inr h) = omega (arith, out-times f q l h)

  -- ---- two lists with the same points, each once

  pub once-times : (f : X → ℕ) (q : ℕ) (l m : List X) → NoneTwice l → NoneTwice m → Alike l m → times q (map f l) ≡ times q (map f m)
  unfolding In NoneTwice times
  once-times f q [] [] n k a = refl
  once-times f q [] (y ∷ m) n k a = absurd ((a y).1 (inl refl))
  once-times f q (x ∷ l) m n k a =
      omega (arith, out-times x f q m h, once-times f q l (out x m h) n.1 (out_twice x m h k) rest)
    where
      h : In x m
      h = (a x).0 (inl refl)

      rest : Alike l (out x m h)
      rest z = (
        λ i. ⊎_elim (λ e. absurd (n.0 (subst (λ (y : X). In y l) e i))) (λ j. j) (in_out x z m h ((a z).0 (inr i))),
        λ i. ⊎_elim (λ e. absurd (out_gone x m h k (subst (λ (y : X). In y (out x m h)) e i))) (λ j. j) ((a z).1 (out_in x z m h i)),
      )

  module _ (K : Contents X) (α : ℕ) (p l m : List X) (u : EachOnce p l) (v : EachOnce p m) where
    both : Alike l m
    both x = (λ i. (v.alike x).0 ((u.alike x).1 i), λ i. (u.alike x).0 ((v.alike x).1 i))

    digits : (d : ℕ) → times d (map sign_digit (map (product_value K α) l)) ≡ times d (map sign_digit (map (product_value K α) m))
    digits d =
        ap (times d) (map-map sign_digit (product_value K α) l)
        ∙ once-times (λ x. sign_digit (product_value K α x)) d l m u.none_twice v.none_twice both
        ∙ ap (times d) (sym (map-map sign_digit (product_value K α) m))

    -- THE LAW: the three counts are those of any list that has each point once, and so is the query
    pub once-counts : counts_in (on_points K l) α ≡ counts_in (on_points K m) α
    unfolding counts_in sign_counts
    once-counts = rw (digits 0, digits 1, digits 2) refl

    pub once-query : query_in (on_points K l) α ≡ query_in (on_points K m) α
    once-query = sym (counts-panel (on_points K l) α) ∙ ap panel_number once-counts ∙ counts-panel (on_points K m) α

    pub once-long : length l ≡ length m
    once-long = sym (counts_in_all (on_points K l) α) ∙ rw once-counts (counts_in_all (on_points K m) α)

  -- ---- the same points, however often

  module _ {Y : Type 0} (f : X → Y) where
    pub in_map : (x : X) (l : List X) → In x l → In (f x) (map f l)
    unfolding In
    in_map x [] h = h
    in_map x (y ∷ l) h = ⊎_elim (λ e. inl (ap f e)) (λ i. inr (in_map x l i)) h

    pub map_in : (y : Y) (l : List X) → In y (map f l) → (x : X) × In x l × (y ≡ f x)
    unfolding In
    map_in y [] h = absurd h
    map_in y (x ∷ l) (inl e) = (x, inl refl, e)
    map_in y (x ∷ l) (inr h) = let (z, i, e) = map_in y l h in (z, inr i, e)

    pub alike-map : (l m : List X) → Alike l m → Alike (map f l) (map f m)
    alike-map l m a y = (
      λ i. let (x, j, e) = map_in y l i in rw e (in_map x m ((a x).0 j)),
      λ i. let (x, j, e) = map_in y m i in rw e (in_map x l ((a x).1 j)),
    )

  -- their patterns are the same
  pub alike-patterns : (K : Contents X) (l m : List X) → Alike l m → Alike (patterns_in (on_points K l)) (patterns_in (on_points K m))
  unfolding patterns_in
  alike-patterns K l m a = alike-map (pattern_at K) l m a
