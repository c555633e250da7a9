-- Points counted once: `distinct` has each point of a list once and no other, keeps a list that has none twice, and takes one point more at
-- the end where it is a new one.
use mathlib.Core.Path.{◌≡◌, refl, sym, ap, ◌∙◌}
use mathlib.Core.Logic.{◌⊎◌, inl, inr, ⊎_elim}
use mathlib.Core.Bool.{Bool, true, false, false≢true}
use mathlib.Core.List.{List, [], ◌∷◌, ◌++◌, append-nil}
use Prim.Native.Nat.{suc, ◌≤◌}
use native.Mathlib.Omega.{arith}
use lib.ListN.{length}
use Rattle.integers.proofs.Tests.{bool_cases}
use Rattle.contents.specs.Distinct.{Equality, without, distinct, In, NoneTwice, EachOnce}

-- ---- a point in two lists, one after the other

module _ {X : Type 0} (x : X) where
  pub append_in : (l m : List X) → In x (l ++ m) → In x l ⊎ In x m
  unfolding In
  append_in [] m h = inr h
  append_in (y ∷ l) m (inl e) = inl (inl e)
  append_in (y ∷ l) m (inr h) = ⊎_elim (λ i. inl (inr i)) inr (append_in l m h)

  pub in_left : (l m : List X) → In x l → In x (l ++ m)
  unfolding In
  in_left [] m h = absurd h
  in_left (y ∷ l) m h = ⊎_elim inl (λ i. inr (in_left l m i)) h

  pub in_right : (l m : List X) → In x m → In x (l ++ m)
  unfolding In
  in_right [] m h = h
  in_right (y ∷ l) m h = inr (in_right l m h)

module _ {X : Type 0} (same : X → X → Bool) (E : Equality same) where
  -- ---- the points that are not x

  leaves : (x y : X) (l : List X) → same x y ≡ true → without same x (y ∷ l) ≡ without same x l
  unfolding without
  leaves x y l e = rw e refl

  keeps : (x y : X) (l : List X) → same x y ≡ false → without same x (y ∷ l) ≡ y ∷ without same x l
  unfolding without
  keeps x y l e = rw e refl

  -- a point that passes the test is x, and none other does
  other : (x y : X) → same x y ≡ false → y ≡ x → ⊥
  other x y e h = false≢true (sym e ∙ rw h (E.self x))

  without_in : (x y : X) (l : List X) → In y (without same x l) → In y l
  unfolding In
  without_in x y [] h = unfold without in h
  without_in x y (z ∷ l) h = go (bool_cases (same x z)) (without_in x y l)
    where
      go : (same x z ≡ true) ⊎ (same x z ≡ false) → (In y (without same x l) → In y l) → (y ≡ z) ⊎ In y l
      go (inl e) ih = inr (ih (rw (leaves x z l e) at h))
      go (inr e) ih = ⊎_elim inl (λ i. inr (ih i)) (rw (keeps x z l e) at h)

  without_none : (x : X) (l : List X) → In x (without same x l) → ⊥
  unfolding In
  without_none x [] h = unfold without in h
  without_none x (z ∷ l) h = go (bool_cases (same x z)) (without_none x l)
    where
      go : (same x z ≡ true) ⊎ (same x z ≡ false) → (In x (without same x l) → ⊥) → ⊥
      go (inl e) ih = ih (rw (leaves x z l e) at h)
      go (inr e) ih = ⊎_elim (λ i. other x z e (sym i)) ih (rw (keeps x z l e) at h)

  in_without : (x y : X) (l : List X) → (y ≡ x → ⊥) → In y l → In y (without same x l)
  unfolding In
  in_without x y [] n h = absurd h
  in_without x y (z ∷ l) n h = go (bool_cases (same x z)) (in_without x y l n)
    where
      go : (same x z ≡ true) ⊎ (same x z ≡ false) → (In y l → In y (without same x l)) → In y (without same x (z ∷ l))
      go (inl e) ih = rw (leaves x z l e) (⊎_elim (λ i. absurd (n (i ∙ sym (E.equal x z e)))) ih h)
      go (inr e) ih = rw (keeps x z l e) (⊎_elim inl (λ i. inr (ih i)) h)

  without_twice : (x : X) (l : List X) → NoneTwice l → NoneTwice (without same x l)
  unfolding NoneTwice
  without_twice x [] h = unfold without in tt
  without_twice x (z ∷ l) h = go (bool_cases (same x z)) (without_twice x l h.1)
    where
      go : (same x z ≡ true) ⊎ (same x z ≡ false) → NoneTwice (without same x l) → NoneTwice (without same x (z ∷ l))
      go (inl e) ih = rw (leaves x z l e) ih
      go (inr e) ih = rw (keeps x z l e) (λ i. h.0 (without_in x z l i), ih)

  without_all : (x : X) (l : List X) → (In x l → ⊥) → without same x l ≡ l
  unfolding In
  without_all x [] h = unfold without in refl
  without_all x (z ∷ l) h = go (bool_cases (same x z)) (without_all x l (λ i. h (inr i)))
    where
      go : (same x z ≡ true) ⊎ (same x z ≡ false) → without same x l ≡ l → without same x (z ∷ l) ≡ z ∷ l
      go (inl e) ih = absurd (h (inl (E.equal x z e)))
      go (inr e) ih = keeps x z l e ∙ ap (λ (m : List X). z ∷ m) ih

  without_fewer : (x : X) (l : List X) → length (without same x l) ≤ length l
  without_fewer x [] = unfold without in omega arith
  without_fewer x (z ∷ l) = go (bool_cases (same x z)) (without_fewer x l)
    where
      go : (same x z ≡ true) ⊎ (same x z ≡ false) → length (without same x l) ≤ length l
          → length (without same x (z ∷ l)) ≤ suc (length l)
      go (inl e) ih = rw (leaves x z l e) (omega arith)
      go (inr e) ih = rw (keeps x z l e) (omega arith)

  without-append : (x : X) (l m : List X) → without same x (l ++ m) ≡ without same x l ++ without same x m
  without-append x [] m = unfold without in refl
  without-append x (z ∷ l) m = go (bool_cases (same x z)) (without-append x l m)
    where
      go : (same x z ≡ true) ⊎ (same x z ≡ false) → without same x (l ++ m) ≡ without same x l ++ without same x m
          → without same x (z ∷ (l ++ m)) ≡ without same x (z ∷ l) ++ without same x m
      go (inl e) ih = rw (leaves x z l e, leaves x z (l ++ m) e) ih
      go (inr e) ih = rw (keeps x z l e, keeps x z (l ++ m) e) (ap (λ (n : List X). z ∷ n) ih)

  -- ---- each point once

  distinct_in : (x : X) (l : List X) → In x (distinct same l) → In x l
  unfolding distinct In
  distinct_in x [] h = h
  distinct_in x (y ∷ l) h = ⊎_elim inl (λ i. inr (distinct_in x l (without_in y x (distinct same l) i))) h

  in_distinct : (x : X) (l : List X) → In x l → In x (distinct same l)
  unfolding distinct In
  in_distinct x [] h = h
  in_distinct x (y ∷ l) h = go (bool_cases (same y x)) (in_distinct x l)
    where
      go : (same y x ≡ true) ⊎ (same y x ≡ false) → (In x l → In x (distinct same l)) → (x ≡ y) ⊎ In x (without same y (distinct same l))
      go (inl e) ih = inl (sym (E.equal y x e))
      go (inr e) ih = ⊎_elim inl (λ i. inr (in_without y x (distinct same l) (other y x e) (ih i))) h

  distinct_twice : (l : List X) → NoneTwice (distinct same l)
  unfolding distinct NoneTwice
  distinct_twice [] = tt
  distinct_twice (x ∷ l) = (without_none x (distinct same l), without_twice x (distinct same l) (distinct_twice l))

  -- THE LAW
  pub distinct-once : (l : List X) → EachOnce l (distinct same l)
  distinct-once l = record { none_twice = distinct_twice l; alike = λ x. (in_distinct x l, distinct_in x l) }

  -- a list that has no point twice stays
  pub distinct_stays : (l : List X) → NoneTwice l → distinct same l ≡ l
  unfolding distinct NoneTwice
  distinct_stays [] h = refl
  distinct_stays (x ∷ l) h = ap (λ (m : List X). x ∷ m) (ap (without same x) (distinct_stays l h.1) ∙ without_all x l h.0)

  -- and none grows
  pub distinct_fewer : (l : List X) → length (distinct same l) ≤ length l
  unfolding distinct
  distinct_fewer [] = omega arith
  distinct_fewer (x ∷ l) = omega (arith, without_fewer x (distinct same l), distinct_fewer l)

  -- ---- one point more, at the end

  abbrev More : X → List X → Type 0
  More x l =
      (In x l × (distinct same (l ++ (x ∷ [])) ≡ distinct same l))
      ⊎ ((In x l → ⊥) × (distinct same (l ++ (x ∷ [])) ≡ distinct same l ++ (x ∷ [])))

  more : (x : X) (l : List X) → More x l
  unfolding In distinct
  more x [] = inr (λ h. h, unfold without in refl)
  more x (y ∷ l) = go (more x l) (bool_cases (same y x))
    where
      end : (b : List X) → without same y (x ∷ []) ≡ b → distinct same (l ++ (x ∷ [])) ≡ distinct same l ++ (x ∷ [])
          → y ∷ without same y (distinct same (l ++ (x ∷ []))) ≡ y ∷ (without same y (distinct same l) ++ b)
      end b e h = rw (h, without-append y (distinct same l) (x ∷ []), e) refl

      go : More x l → (same y x ≡ true) ⊎ (same y x ≡ false) → More x (y ∷ l)
      go (inl (h, e)) t = inl (inr h, rw e refl)
      go (inr (h, e)) (inl t) =
          inl
          (inl (sym (E.equal y x t)), end [] (leaves y x [] t ∙ (unfold without in refl)) e ∙ ap (λ (m : List X). y ∷ m) (append-nil _))
      go (inr (h, e)) (inr t) = inr (⊎_elim (other y x t) h, end (x ∷ []) (keeps y x [] t ∙ (unfold without in refl)) e)

  pub distinct-again : (x : X) (l : List X) → In x l → distinct same (l ++ (x ∷ [])) ≡ distinct same l
  distinct-again x l h = ⊎_elim (λ w. w.1) (λ w. absurd (w.0 h)) (more x l)

  pub distinct_new : (x : X) (l : List X) → (In x l → ⊥) → distinct same (l ++ (x ∷ [])) ≡ distinct same l ++ (x ∷ [])
  distinct_new x l h = ⊎_elim (λ w. absurd (h w.0)) (λ w. w.1) (more x l)
