-- Sums of integers over a list: `sum_ℤ`, and of their absolute values, `sum_abs`. Linearity, the bounds, and the step of a loop that has
-- passed the first i elements: what stands over `take (i + 1) xs` from what stands over `take i xs`.
use mathlib.Core.Path.{◌≡◌, refl, sym, ap, ap₂, ◌∙◌}
use mathlib.Core.List.{List, [], ◌∷◌, ◌++◌, map}
use Prim.Native.Nat.{ℕ, zero, suc, ◌+◌, ◌*◌, ◌≤◌, ◌<◌}
use native.Mathlib.Omega.{arith}
use native.Mathlib.Numerals.{add-one}
use native.Mathlib.Decide.{dec_lt}
use lib.ListN.{length, get_or, take, get_or-eq_default}
use lib.Seq.{take-suc, take_all}
use lib.IntN.{ℤ, pos, neg_ℤ, nat_abs, ◌+ℤ◌, ◌*ℤ◌, +ℤ_idl, +ℤ_idr, +ℤ_assoc, *ℤ-zero}
use Rattle.integers.specs.Sums.{sum_ℤ, sum_abs, Within, sum_to}
use Rattle.integers.proofs.Abs.{abs_sum}
use Rattle.integers.proofs.Ring.{groupℤ, *ℤ-dist}

-- ---- bounds
pub abs_sum_ℤ : (xs : List ℤ) → nat_abs (sum_ℤ xs) ≤ sum_abs xs
unfolding sum_ℤ sum_abs
abs_sum_ℤ [] = omega arith
abs_sum_ℤ (x ∷ xs) = let ih = abs_sum_ℤ xs in omega (arith, abs_sum x (sum_ℤ xs))

within_tail : {b : ℕ} {x : ℤ} {xs : List ℤ} → Within b (x ∷ xs) → Within b xs
within_tail w = record { at = λ k. w.at (suc k) }

-- from the places of the list, and to a larger bound
pub within_of : (n : ℕ) (v : List ℤ) → ((k : ℕ) → k < length v → nat_abs (get_or v k (pos 0)) ≤ n) → Within n v
within_of n v f = record { at = λ j. go j (dec_lt j (length v)) }
  where
    go : (j : ℕ) → Dec (j < length v) → nat_abs (get_or v j (pos 0)) ≤ n
    go j (yes h) = f j h
    go j (no h) = rw (get_or-eq_default v (pos 0) {n = j} (omega arith)) (omega arith)

pub within_more : (m n : ℕ) (v : List ℤ) → m ≤ n → Within m v → Within n v
within_more m n v h w = record { at = λ j. omega (arith, w.at j) }

pub sum_abs-within : (b : ℕ) (xs : List ℤ) → Within b xs → sum_abs xs ≤ b * length xs
unfolding sum_abs
sum_abs-within b [] w = omega arith
sum_abs-within b (x ∷ xs) w = let ih = sum_abs-within b xs (within_tail w) in omega (arith, w.at 0)

-- ---- append
pub sum_ℤ-++ : (xs ys : List ℤ) → sum_ℤ (xs ++ ys) ≡ sum_ℤ xs +ℤ sum_ℤ ys
unfolding sum_ℤ
sum_ℤ-++ [] ys = sym (+ℤ_idl (sum_ℤ ys))
sum_ℤ-++ (x ∷ xs) ys = ap (λ s. x +ℤ s) (sum_ℤ-++ xs ys) ∙ sym (+ℤ_assoc x (sum_ℤ xs) (sum_ℤ ys))

pub sum_abs-++ : (xs ys : List ℤ) → sum_abs (xs ++ ys) ≡ sum_abs xs + sum_abs ys
unfolding sum_abs
sum_abs-++ [] ys = omega arith
sum_abs-++ (x ∷ xs) ys = omega (arith, sum_abs-++ xs ys)

-- ---- one more element, and all of them
sum_one : (a : ℤ) → sum_ℤ (a ∷ []) ≡ a
unfolding sum_ℤ
sum_one a = +ℤ_idr a

abs_one : (a : ℤ) → sum_abs (a ∷ []) ≡ nat_abs a
unfolding sum_abs
abs_one a = omega arith

pub sum_ℤ-step : (xs : List ℤ) (i : ℕ) → i < length xs → sum_ℤ (take (i + 1) xs) ≡ sum_ℤ (take i xs) +ℤ get_or xs i (pos 0)
sum_ℤ-step xs i h =
    rw (add-one i, take-suc xs i (pos 0) h, sum_ℤ-++ (take i xs) (get_or xs i (pos 0) ∷ []), sum_one (get_or xs i (pos 0)))

pub sum_abs-step : (xs : List ℤ) (i : ℕ) → i < length xs → sum_abs (take (i + 1) xs) ≡ sum_abs (take i xs) + nat_abs (get_or xs i (pos 0))
sum_abs-step xs i h =
    rw (add-one i, take-suc xs i (pos 0) h, sum_abs-++ (take i xs) (get_or xs i (pos 0) ∷ []), abs_one (get_or xs i (pos 0)))

pub sum_ℤ-all : (xs : List ℤ) (i : ℕ) → length xs ≤ i → sum_ℤ (take i xs) ≡ sum_ℤ xs
sum_ℤ-all xs i h = ap sum_ℤ (take_all i xs h)

pub sum_abs-all : (xs : List ℤ) (i : ℕ) → length xs ≤ i → sum_abs (take i xs) ≡ sum_abs xs
sum_abs-all xs i h = ap sum_abs (take_all i xs h)

-- the first i are no more than all
pub sum_abs-take : (xs : List ℤ) (i : ℕ) → sum_abs (take i xs) ≤ sum_abs xs
unfolding sum_abs
sum_abs-take [] zero = omega arith
sum_abs-take [] (suc i) = omega arith
sum_abs-take (x ∷ xs) zero = omega arith
sum_abs-take (x ∷ xs) (suc i) = omega (arith, sum_abs-take xs i)

-- the sum is small where each number is
pub sum-small : (b : ℕ) (xs : List ℤ) → Within b xs → nat_abs (sum_ℤ xs) ≤ b * length xs
sum-small b xs w = let p = abs_sum_ℤ xs in let q = sum_abs-within b xs w in omega arith

-- and so is the sum of the first i
pub sum-take-small : (b : ℕ) (xs : List ℤ) (i : ℕ) → Within b xs → nat_abs (sum_ℤ (take i xs)) ≤ b * length xs
sum-take-small b xs i w =
    let p = abs_sum_ℤ (take i xs) in
    let q = sum_abs-take xs i in
    let r = sum_abs-within b xs w in
    omega arith

-- nothing passed
pub sum_ℤ_none : (xs : List ℤ) → sum_ℤ (take 0 xs) ≡ pos 0
unfolding sum_ℤ
sum_ℤ_none [] = refl
sum_ℤ_none (x ∷ xs) = refl

pub sum_abs_none : (xs : List ℤ) → sum_abs (take 0 xs) ≡ 0
unfolding sum_abs
sum_abs_none [] = refl
sum_abs_none (x ∷ xs) = refl

-- ---- linearity, over any list that the summands are read off
module _ {A : Type 0} where
  pub sum-map-+ : (f g : A → ℤ) (xs : List A) → sum_ℤ (map (λ a. f a +ℤ g a) xs) ≡ sum_ℤ (map f xs) +ℤ sum_ℤ (map g xs)
  unfolding sum_ℤ
  sum-map-+ f g [] = refl
  sum-map-+ f g (x ∷ xs) = rw (sum-map-+ f g xs) (simp groupℤ)

  pub sum-map_neg : (f : A → ℤ) (xs : List A) → sum_ℤ (map (λ a. neg_ℤ (f a)) xs) ≡ neg_ℤ (sum_ℤ (map f xs))
  unfolding sum_ℤ
  sum-map_neg f [] = refl
  sum-map_neg f (x ∷ xs) = rw (sum-map_neg f xs) (simp groupℤ)

  pub sum-map-* : (k : ℤ) (f : A → ℤ) (xs : List A) → sum_ℤ (map (λ a. k *ℤ f a) xs) ≡ k *ℤ sum_ℤ (map f xs)
  unfolding sum_ℤ
  sum-map-* k f [] = sym (*ℤ-zero k)
  sum-map-* k f (x ∷ xs) = rw (sum-map-* k f xs) (sym (*ℤ-dist k (f x) (sum_ℤ (map f xs))))

  pub sum-map_ext : (f g : A → ℤ) → ((a : A) → f a ≡ g a) → (xs : List A) → sum_ℤ (map f xs) ≡ sum_ℤ (map g xs)
  unfolding sum_ℤ
  sum-map_ext f g e [] = refl
  sum-map_ext f g e (x ∷ xs) = ap₂ ◌+ℤ◌ (e x) (sum-map_ext f g e xs)

-- a sum of sums over two lists, the other way round
pub sum-map-zero : {B : Type 0} (ys : List B) → sum_ℤ (map (λ b. pos 0) ys) ≡ pos 0
unfolding sum_ℤ
sum-map-zero [] = refl
sum-map-zero (y ∷ ys) = ap (λ z. pos 0 +ℤ z) (sum-map-zero ys)

module _ {A B : Type 0} where
  pub sum-map_swap : (f : A → B → ℤ) (xs : List A) (ys : List B)
      → sum_ℤ (map (λ a. sum_ℤ (map (f a) ys)) xs) ≡ sum_ℤ (map (λ b. sum_ℤ (map (λ a. f a b) xs)) ys)
  unfolding sum_ℤ
  sum-map_swap f [] ys = sym (sum-map-zero ys)
  sum-map_swap f (x ∷ xs) ys =
      ap (λ z. sum_ℤ (map (f x) ys) +ℤ z) (sum-map_swap f xs ys) ∙ sym (sum-map-+ (f x) (λ b. sum_ℤ (map (λ a. f a b) xs)) ys)

-- ---- a sum over the indices below n, for a loop whose i-th turn adds f i
pub sum_to_none : (f : ℕ → ℤ) → sum_to f 0 ≡ pos 0
unfolding sum_to
sum_to_none f = refl

pub sum_to-step : (f : ℕ → ℤ) (n : ℕ) → sum_to f (n + 1) ≡ sum_to f n +ℤ f n
unfolding sum_to
sum_to-step f n = rw (add-one n)

pub sum_to_abs : (f : ℕ → ℤ) (b : ℕ) → ((k : ℕ) → nat_abs (f k) ≤ b) → (n : ℕ) → nat_abs (sum_to f n) ≤ b * n
unfolding sum_to
sum_to_abs f b h zero = omega arith
sum_to_abs f b h (suc n) = let ih = sum_to_abs f b h n in omega (arith, abs_sum (sum_to f n) (f n), h n)

pub sum_to_ext : (f g : ℕ → ℤ) (n : ℕ) → ((k : ℕ) → k < n → f k ≡ g k) → sum_to f n ≡ sum_to g n
unfolding sum_to
sum_to_ext f g zero e = refl
sum_to_ext f g (suc n) e = ap₂ ◌+ℤ◌ (sum_to_ext f g n (λ k h. e k (omega arith))) (e n (omega arith))

pub sum_to-+ : (f g : ℕ → ℤ) (n : ℕ) → sum_to (λ k. f k +ℤ g k) n ≡ sum_to f n +ℤ sum_to g n
unfolding sum_to
sum_to-+ f g zero = refl
sum_to-+ f g (suc n) = rw (sum_to-+ f g n) (simp groupℤ)

pub sum_to_neg : (f : ℕ → ℤ) (n : ℕ) → sum_to (λ k. neg_ℤ (f k)) n ≡ neg_ℤ (sum_to f n)
unfolding sum_to
sum_to_neg f zero = refl
sum_to_neg f (suc n) = rw (sum_to_neg f n) (simp groupℤ)

pub sum_to-* : (a : ℤ) (f : ℕ → ℤ) (n : ℕ) → sum_to (λ k. a *ℤ f k) n ≡ a *ℤ sum_to f n
unfolding sum_to
sum_to-* a f zero = sym (*ℤ-zero a)
sum_to-* a f (suc n) = rw (sum_to-* a f n) (sym (*ℤ-dist a (sum_to f n) (f n)))

-- a sum of sums, the other way round
pub sum_to-zero : (n : ℕ) → sum_to (λ k. pos 0) n ≡ pos 0
unfolding sum_to
sum_to-zero zero = refl
sum_to-zero (suc n) = ap (λ z. z +ℤ pos 0) (sum_to-zero n)

pub sum_to_swap : (f : ℕ → ℕ → ℤ) (m n : ℕ) → sum_to (λ i. sum_to (f i) n) m ≡ sum_to (λ j. sum_to (λ i. f i j) m) n
unfolding sum_to
sum_to_swap f zero n = sym (sum_to-zero n)
sum_to_swap f (suc m) n =
    ap (λ z. z +ℤ sum_to (f m) n) (sum_to_swap f m n) ∙ sym (sum_to-+ (λ j. sum_to (λ i. f i j) m) (f m) n)

-- the two sums agree
sum_to-take : (xs : List ℤ) (n : ℕ) → n ≤ length xs → sum_to (λ k. get_or xs k (pos 0)) n ≡ sum_ℤ (take n xs)
unfolding sum_to sum_ℤ
sum_to-take xs zero h = refl
sum_to-take xs (suc n) h =
    ap (λ z. z +ℤ get_or xs n (pos 0)) (sum_to-take xs n (omega arith))
    ∙ sym (sum_ℤ-step xs n h) ∙ ap (λ (i : ℕ). sum_ℤ (take i xs)) (add-one n)

pub sum_to_list : (xs : List ℤ) → sum_to (λ k. get_or xs k (pos 0)) (length xs) ≡ sum_ℤ xs
sum_to_list xs = sum_to-take xs (length xs) (omega arith) ∙ sum_ℤ-all xs (length xs) (omega arith)
