-- Runs of stores (`sets`, of the logic's library): one after another, beside a single store, and on a list that a run has filled.
use mathlib.Core.Path.{◌≡◌, refl, sym, ap, ◌∙◌}
use mathlib.Core.Logic.{◌≢◌}
use mathlib.Core.List.{List, [], ◌∷◌, ◌++◌, append-nil}
use Prim.Native.Nat.{ℕ, zero, suc, ◌+◌, ◌≤◌, ◌<◌}
use native.Mathlib.Omega.{arith}
use lib.ListN.{length, get_or, take, drop, set, length-append, get_or-append}
use lib.Seq.{drop-length, sets, sets-eq, set-set, set_comm, length-take-le, get_or-append-add}

module _ {A : Type 0} where
  -- ---- runs

  -- two runs, the second where the first ends, are one
  pub sets_append : (a b l : List A) (i : ℕ) → sets (sets l i a) (i + length a) b ≡ sets l i (a ++ b)
  sets_append [] b l i = let e : i + 0 ≡ i = omega arith in rw e
  sets_append (x ∷ a) b l i = let e : i + suc (length a) ≡ suc i + length a = omega arith in rw e (sets_append a b (set l i x) (suc i))

  -- a run from the front on
  pub sets_front : (a l : List A) → length a ≤ length l → sets l 0 a ≡ a ++ drop (length a) l
  sets_front a l h = let e : 0 + length a ≡ length a = omega arith in rw e at (sets-eq a l 0 (omega arith))

  -- a run of as many as there are
  pub sets_all : (a l : List A) → length a ≡ length l → sets l 0 a ≡ a
  sets_all a l e =
      sets_front a l (omega arith) ∙ ap (λ (r : List A). a ++ r) (ap (λ (n : ℕ). drop n l) e ∙ drop-length l) ∙ append-nil a

  -- a run past the first element
  pub sets_cons : (x : A) (l : List A) (i : ℕ) (vs : List A) → sets (x ∷ l) (suc i) vs ≡ x ∷ sets l i vs
  sets_cons x l i [] = refl
  sets_cons x l i (v ∷ vs) = sets_cons x (set l i v) (suc i) vs

  -- a run of what is there
  pub sets_same : (l : List A) (i : ℕ) → sets l i (drop i l) ≡ l
  sets_same [] zero = refl
  sets_same [] (suc i) = refl
  sets_same (x ∷ l) zero = sets_cons x l 0 l ∙ ap (λ (r : List A). x ∷ r) (sets_same l 0)
  sets_same (x ∷ l) (suc i) = sets_cons x l i (drop i l) ∙ ap (λ (r : List A). x ∷ r) (sets_same l i)

  -- ---- a run and a single store

  -- a store outside a run may come before it
  pub set-outside : (a l : List A) (i j : ℕ) (b : A) → ((k : ℕ) → k < length a → i + k ≢ j)
      → set (sets l i a) j b ≡ sets (set l j b) i a
  set-outside [] l i j b ne = refl
  set-outside (x ∷ a) l i j b ne =
      let here : i ≢ j = λ e. ne 0 (omega arith) (omega arith) in
      set-outside a (set l i x) (suc i) j b (λ k h e. ne (suc k) (omega arith) (omega arith))
      ∙ ap (λ (m : List A). sets m (suc i) a) (set_comm l i j x b here)

  -- a run whose last element is stored first
  pub sets_last : (a l : List A) (i : ℕ) (b : A) → sets (set l (i + length a) b) i a ≡ sets l i (a ++ (b ∷ []))
  sets_last a l i b = sym (set-outside a l i (i + length a) b (λ k h. omega arith)) ∙ sets_append a (b ∷ []) l i

  -- a store within a run, and what stands there
  pub set-within : (vs l : List A) (i k : ℕ) (x : A) → k < length vs → set (sets l i vs) (i + k) x ≡ sets l i (set vs k x)
  set-within [] l i k x h = absurd (omega arith)
  set-within (a ∷ vs) l i zero x h =
      let e : i + 0 ≡ i = omega arith in
      rw e (set-outside vs (set l i a) (suc i) i x (λ j g. omega arith) ∙ ap (λ (m : List A). sets m (suc i) vs) (set-set l i a x))
  set-within (a ∷ vs) l i (suc k) x h =
      let e : i + suc k ≡ suc i + k = omega arith in rw e (set-within vs (set l i a) (suc i) k x (omega arith))

  pub get_d_sets : (vs l : List A) (i k : ℕ) (d : A) → k < length vs → i + length vs ≤ length l
      → get_or (sets l i vs) (i + k) d ≡ get_or vs k d
  get_d_sets vs l i k d h g =
      let e : length (take i l) ≡ i = length-take-le i l (omega arith) in
      let f : i + k < length (take i l ++ vs) = omega (arith, length-append (take i l) vs) in
      rw (sets-eq vs l i g)
      (get_or-append (take i l ++ vs) (drop (i + length vs) l) d (i + k) f ∙ rw e at (get_or-append-add (take i l) vs k d))
