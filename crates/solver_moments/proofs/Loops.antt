-- What the loops of this crate keep from turn to turn, and that a turn keeps it.
use Prim.Native.Nat.{ℕ, zero, suc, ◌+◌, ◌*◌, ◌/◌, ◌≤◌, ◌<◌}
use native.Mathlib.Nat.{le_refl}
use native.Mathlib.Numerals.{add-one}
use native.Mathlib.Decide.{dec_lt}
use native.Mathlib.Omega.{arith}
use mathlib.Core.Path.{◌≡◌, refl, sym, ap, ap₂, subst, ◌∙◌}
use mathlib.Core.Bool.{Bool, true, false, cond, not, ◌&&◌, ◌||◌}
use mathlib.Core.List.{List}
use Rattle.std.specs.Prelude.{Some, None}
use borrow.Author.Tests.{leb-true, leb-false}
use lib.Dec.{leb}
use lib.IntN.{ℤ, pos, nat_abs, ◌+ℤ◌, +ℤ_idr}
use lib.ListN.{length, get_or, take, set, length-set}
use lib.Signed.{shr_z}
use Rattle.integers.specs.Sums.{sum_abs, Within}
use Rattle.integers.proofs.Abs.{abs_sum}
use Rattle.integers.specs.Search.{any_below}
use Rattle.integers.proofs.Halves.{abs_half}
use Rattle.integers.proofs.Search.{some_none, some_which, some_false, left_false, right_false}
use Rattle.integers.proofs.Sums.{sum_abs_none, sum_abs-step, sum_abs-all, sum_abs-take}
use Rattle.signs.specs.Lists.{total}
use Rattle.adapted.specs.Split.{count_of}
use Rattle.solver_moments.specs.Moments.{rank, addend, put_one, Spread, doubled_of, is_odd, Fitting, CombinedBoth}
use Rattle.integers.proofs.Stores.{each_more, untouched_more}
use Rattle.solver_moments.proofs.Laws.{rank-zero, rank-suc, number_doubled, doubled_number, abs_doubled, even_half, odd_half}

-- ---- put

pub record Putting (k : ℕ) (mark : List ℕ) (f v₀ v : List ℤ) (n j : ℕ) : Type 0 where
  pub place : j ≤ length mark
  pub ranked : n ≡ rank k mark j
  pub long : length v ≡ length v₀
  pub done : (h : ℕ) → h < j → get_or v h (pos 0) ≡ get_or v₀ h (pos 0) +ℤ addend k mark f h
  pub rest : (h : ℕ) → j ≤ h → get_or v h (pos 0) ≡ get_or v₀ h (pos 0)

pub putting_first : (k : ℕ) (mark : List ℕ) (f v : List ℤ) → Putting k mark f v v 0 0
putting_first k mark f v =
    record { place = omega arith; ranked = sym (rank-zero k mark); long = refl; done = λ h i. absurd (omega arith); rest = λ h i. refl }

pub putting_next : (k : ℕ) (mark : List ℕ) (f v₀ v w : List ℤ) (n n' j : ℕ) → Putting k mark f v₀ v n j → j < length mark
    → length v₀ ≡ length mark
    → n' ≡ n + cond (leb k (count_of (get_or mark j 0))) 1 0
    → w ≡ put_one (leb k (count_of (get_or mark j 0))) v j (get_or v j (pos 0) +ℤ get_or f n (pos 0))
    → Putting k mark f v₀ w n' (j + 1)
unfolding addend
putting_next k mark f v₀ v w n n' j P h e en ew = go (leb k (count_of (get_or mark j 0))) refl
  where
    here : (b : Bool) → leb k (count_of (get_or mark j 0)) ≡ b → cond b (get_or f n (pos 0)) (pos 0) ≡ addend k mark f j
    here b t = rw (← t, P.ranked) refl

    first : get_or v j (pos 0) ≡ get_or v₀ j (pos 0)
    first = P.rest j (le_refl j)

    go : (b : Bool) → leb k (count_of (get_or mark j 0)) ≡ b → Putting k mark f v₀ w n' (j + 1)
    go true t =
        let x : w ≡ set v j (get_or v j (pos 0) +ℤ get_or f n (pos 0)) = ew ∙ rw t refl in
        record {
          place = omega arith;
          ranked = en ∙ ap₂ ◌+◌ P.ranked refl ∙ sym (ap (rank k mark) (add-one j) ∙ rank-suc k mark j h);
          long = rw (x, length-set) P.long;
          done =
              rw x (each_more (pos 0) (λ i z. z ≡ get_or v₀ i (pos 0) +ℤ addend k mark f i) v j _ (omega (arith, P.long))
              (rw first (ap (λ (z : ℤ). get_or v₀ j (pos 0) +ℤ z) (here true t))) P.done);
          rest = rw x (untouched_more (pos 0) v₀ v j _ P.rest);
        }
    go false t =
        let x : w ≡ v = ew ∙ rw t refl in
        record {
          place = omega arith;
          ranked = en ∙ ap₂ ◌+◌ P.ranked refl ∙ sym (ap (rank k mark) (add-one j) ∙ rank-suc k mark j h);
          long = rw x P.long;
          done = rw x (λ i q. below i q (dec_lt i j));
          rest = rw x (λ i q. P.rest i (omega arith));
        }
      where
        below : (i : ℕ) → i < j + 1 → Dec (i < j) → get_or v i (pos 0) ≡ get_or v₀ i (pos 0) +ℤ addend k mark f i
        below i q (yes s) = P.done i s
        below i q (no s) =
            let z : i ≡ j = omega arith in
            rw z (first ∙ sym (+ℤ_idr (get_or v₀ j (pos 0))) ∙ ap (λ (y : ℤ). get_or v₀ j (pos 0) +ℤ y) (here false t))

pub putting_within : (k : ℕ) (mark : List ℕ) (f v₀ v : List ℤ) (n j : ℕ) → Putting k mark f v₀ v n j → Within 128 v₀ → Within 64 f
    → Within 256 v
unfolding addend
putting_within k mark f v₀ v n j P w₀ w = record { at = λ h. go h (dec_lt h j) }
  where
    one : (b : Bool) (z : ℤ) → nat_abs z ≤ 64 → nat_abs (cond b z (pos 0)) ≤ 64
    one true z q = q
    one false z q = omega arith

    go : (h : ℕ) → Dec (h < j) → nat_abs (get_or v h (pos 0)) ≤ 256
    go h (yes q) =
        rw (P.done h q) (omega (
          arith,
          abs_sum (get_or v₀ h (pos 0)) (addend k mark f h),
          w₀.at h,
          one (leb k (count_of (get_or mark h 0))) (get_or f (rank k mark h) (pos 0)) (w.at (rank k mark h)),
        ))
    go h (no q) = rw (P.rest h (omega arith)) (omega (arith, w₀.at h))

pub putting_last : (k : ℕ) (mark : List ℕ) (f v₀ v : List ℤ) (n j : ℕ) → Putting k mark f v₀ v n j → length mark ≤ j → Spread k mark f v₀ v
putting_last k mark f v₀ v n j P h = record { at = λ i q. P.done i (omega arith) }

-- ---- combine_pair

-- the doubles x of numbers: the first k are halved to u, and s is the sum of their absolute values
pub record Halving (x : ℕ → ℤ) (u₀ u : List ℤ) (s k : ℕ) : Type 0 where
  pub long : length u ≡ length u₀
  pub halves : (j : ℕ) → j < k → get_or u j (pos 0) ≡ shr_z (x j) 2
  pub summed : s ≡ total (λ j. nat_abs (x j)) k

halving_first : (x : ℕ → ℤ) (u : List ℤ) → Halving x u u 0 0
unfolding total
halving_first x u = record { long = refl; halves = λ j h. absurd (omega arith); summed = refl }

halving_next : (x : ℕ → ℤ) (u₀ u : List ℤ) (s k m : ℕ) (z : ℤ) → Halving x u₀ u s k → k < length u₀ → m ≡ nat_abs (x k)
    → z ≡ shr_z (x k) 2 → Halving x u₀ (set u k z) (s + m) (k + 1)
unfolding total
halving_next x u₀ u s k m z H h e f =
    record {
      long = length-set u k z ∙ H.long;
      halves = each_more (pos 0) (λ j y. y ≡ shr_z (x j) 2) u k z (omega (arith, H.long)) f H.halves;
      summed = rw (add-one k) (ap₂ ◌+◌ H.summed e);
    }

total-small : (x : ℕ → ℤ) (b : ℕ) → ((j : ℕ) → nat_abs (x j) ≤ b) → (k : ℕ) → total (λ j. nat_abs (x j)) k ≤ b * k
unfolding total
total-small x b h zero = omega arith
total-small x b h (suc k) = omega (arith, total-small x b h k, h k)

pub halving_small : (x : ℕ → ℤ) (u₀ u : List ℤ) (s k : ℕ) → Halving x u₀ u s k → ((j : ℕ) → nat_abs (x j) ≤ 1024) → s ≤ 1024 * k
halving_small x u₀ u s k H h = omega (arith, H.summed, total-small x 1024 h k)

-- the sum of doubles is twice that of the numbers
total_doubles : (x : ℕ → ℤ) (ws : List ℤ) (k : ℕ) → k ≤ length ws
    → ((j : ℕ) → j < k → get_or ws j (pos 0) +ℤ get_or ws j (pos 0) ≡ x j)
    → total (λ j. nat_abs (x j)) k ≡ sum_abs (take k ws) + sum_abs (take k ws)
unfolding total
total_doubles x ws zero h f = omega (arith, sum_abs_none ws)
total_doubles x ws (suc k) h f =
    omega (
      arith,
      total_doubles x ws k (omega arith) (λ j q. f j (omega arith)),
      sum_abs-step ws k (omega arith),
      ap (λ (i : ℕ). sum_abs (take i ws)) (add-one k),
      abs_half (x k) (get_or ws k (pos 0)) (f k (omega arith)),
    )

-- both systems, and one of the doubles is odd or none is
pub record Combining (x y : ℕ → ℤ) (u₀ v₀ u v : List ℤ) (s t : ℕ) (odd : Bool) (n k : ℕ) : Type 0 where
  pub place : k ≤ n
  pub one : Halving x u₀ u s k
  pub other : Halving y v₀ v t k
  pub odds : odd ≡ any_below (λ j. is_odd (x j) || is_odd (y j)) k

pub combining_first : (x y : ℕ → ℤ) (u v : List ℤ) (n : ℕ) → Combining x y u v u v 0 0 false n 0
combining_first x y u v n =
    record {
      place = omega arith;
      one = halving_first x u;
      other = halving_first y v;
      odds = sym (some_none (λ j. is_odd (x j) || is_odd (y j)));
    }

pub combining_next : (x y : ℕ → ℤ) (u₀ v₀ u v : List ℤ) (s t : ℕ) (odd odd' : Bool) (n k a b : ℕ) (p q : ℤ)
    → Combining x y u₀ v₀ u v s t odd n k → k < n → length u₀ ≡ n → length v₀ ≡ n
    → odd' ≡ odd || (is_odd (x k) || is_odd (y k))
    → a ≡ nat_abs (x k) → b ≡ nat_abs (y k) → p ≡ shr_z (x k) 2 → q ≡ shr_z (y k) 2
    → Combining x y u₀ v₀ (set u k p) (set v k q) (s + a) (t + b) odd' n (k + 1)
unfolding any_below
combining_next x y u₀ v₀ u v s t odd odd' n k a b p q C h lu lv eo ea eb ep eq =
    record {
      place = omega arith;
      one = halving_next x u₀ u s k a p C.one (omega arith) ea ep;
      other = halving_next y v₀ v t k b q C.other (omega arith) eb eq;
      odds = eo ∙ rw (add-one k, C.odds) refl;
    }

-- twice the number of a pattern
abbrev pub doubled_at : ℕ → List ℕ → List ℕ → List ℤ → List ℤ → List ℤ → ℕ → ℤ
doubled_at w L at d e g k =
    doubled_of (get_or L k 0 / w) (get_or d (get_or at k 0) (pos 0)) (get_or e (get_or at k 0) (pos 0)) (get_or g (get_or at k 0) (pos 0))

module _ (w : ℕ) (L at : List ℕ) (d e g : List ℤ) where
  pub doubled_small : Within 256 d → Within 256 e → Within 256 g → (k : ℕ) → nat_abs (doubled_at w L at d e g k) ≤ 1024
  doubled_small wd we wg k =
      abs_doubled (get_or L k 0 / w) (get_or d (get_or at k 0) (pos 0)) (get_or e (get_or at k 0) (pos 0))
      (get_or g (get_or at k 0) (pos 0)) 256
      (wd.at (get_or at k 0)) (we.at (get_or at k 0)) (wg.at (get_or at k 0))

  -- what numbers that fit say of the doubles
  fitting_doubled : (ws : List ℤ) → Fitting w L at d e g ws → (k : ℕ) → k < length L
      → get_or ws k (pos 0) +ℤ get_or ws k (pos 0) ≡ doubled_at w L at d e g k
  fitting_doubled ws F k h =
      number_doubled (get_or L k 0 / w) (get_or d (get_or at k 0) (pos 0)) (get_or e (get_or at k 0) (pos 0))
      (get_or g (get_or at k 0) (pos 0))
      (get_or ws k (pos 0)) (F.numbers k h)

  fitting_even : (ws : List ℤ) → Fitting w L at d e g ws → (k : ℕ) → k < length L → is_odd (doubled_at w L at d e g k) ≡ true → ⊥
  fitting_even ws F k h t = odd_half (doubled_at w L at d e g k) (get_or ws k (pos 0)) t (fitting_doubled ws F k h)

  fitting-few : (ws : List ℤ) → Fitting w L at d e g ws → total (λ j. nat_abs (doubled_at w L at d e g j)) (length L) ≤ 128
  fitting-few ws F =
      omega (
        arith,
        total_doubles (doubled_at w L at d e g) ws (length L) (omega (arith, F.one_each)) (fitting_doubled ws F),
        sum_abs-take ws (length L),
        F.small,
      )

  -- and what the doubles say of their halves
  halving_last : (u₀ u : List ℤ) (s : ℕ) → Halving (doubled_at w L at d e g) u₀ u s (length L) → length u₀ ≡ length L
      → ((k : ℕ) → k < length L → is_odd (doubled_at w L at d e g k) ≡ false) → s ≤ 128 → Fitting w L at d e g u
  halving_last u₀ u s H l ev h =
      record {
        one_each = H.long ∙ l;
        numbers =
            λ k q. doubled_number (get_or L k 0 / w) (get_or d (get_or at k 0) (pos 0)) (get_or e (get_or at k 0) (pos 0))
            (get_or g (get_or at k 0) (pos 0)) (get_or u k (pos 0)) (twice k q);
        small =
            omega (
              arith,
              total_doubles (doubled_at w L at d e g) u (length L) (omega (arith, H.long, l)) twice,
              sum_abs-all u (length L) (omega (arith, H.long, l)),
              H.summed,
            );
      }
    where
      twice : (k : ℕ) → k < length L → get_or u k (pos 0) +ℤ get_or u k (pos 0) ≡ doubled_at w L at d e g k
      twice k q = rw (H.halves k q) (even_half (doubled_at w L at d e g k) (ev k q))

module _ (w : ℕ) (L at : List ℕ) (d e g d₂ e₂ g₂ : List ℤ) where
  abbrev x : ℕ → ℤ
  x = doubled_at w L at d e g

  abbrev y : ℕ → ℤ
  y = doubled_at w L at d₂ e₂ g₂

  pub combining_last : (u₀ v₀ u v : List ℤ) (s t : ℕ) (odd : Bool) (k : ℕ) → Combining x y u₀ v₀ u v s t odd (length L) k
      → length L ≤ k → length u₀ ≡ length L → length v₀ ≡ length L → (b : Bool) → b ≡ not odd && (leb s 128 && leb t 128)
      → CombinedBoth w L at d e g d₂ e₂ g₂ u v (cond b (Some tt) None)
  combining_last u₀ v₀ u v s t odd k C h lu lv b eb = rw eb (go odd (leb s 128) (leb t 128) refl refl refl)
    where
      either : ℕ → Bool
      either j = is_odd (x j) || is_odd (y j)

      end : Combining x y u₀ v₀ u v s t odd (length L) (length L)
      end = subst (Combining x y u₀ v₀ u v s t odd (length L)) (omega (arith, C.place)) C

      -- an odd double has no half
      refused : (us vs : List ℤ) → Fitting w L at d e g us → Fitting w L at d₂ e₂ g₂ vs → (j : ℕ) → j < length L
          → (p : Bool) → is_odd (x j) ≡ p → p || is_odd (y j) ≡ true → ⊥
      refused us vs F G j q true t r = fitting_even w L at d e g us F j q t
      refused us vs F G j q false t r = fitting_even w L at d₂ e₂ g₂ vs G j q r

      go : (o p q : Bool) → odd ≡ o → leb s 128 ≡ p → leb t 128 ≡ q
          → CombinedBoth w L at d e g d₂ e₂ g₂ u v (cond (not o && (p && q)) (Some tt) None)
      go true p q eo ep eq =
          λ us vs F G.
          let (j, l, r) = some_which either (length L) (sym end.odds ∙ eo) in
          refused us vs F G j l (is_odd (x j)) refl r
      go false false q eo ep eq = λ us vs F G. omega (arith, fitting-few w L at d e g us F, end.one.summed, leb-false s 128 ep)
      go false true false eo ep eq =
          λ us vs F G. omega (arith, fitting-few w L at d₂ e₂ g₂ vs G, end.other.summed, leb-false t 128 eq)
      go false true true eo ep eq =
          let even = some_false either (length L) (sym end.odds ∙ eo) in (
            halving_last w L at d e g u₀ u s end.one lu (λ j q. left_false (is_odd (x j)) (is_odd (y j)) (even j q)) (leb-true s 128 ep),
            halving_last w L at d₂ e₂ g₂ v₀ v t end.other lv (λ j q. right_false (is_odd (x j)) (is_odd (y j)) (even j q))
                (leb-true t 128 eq),
          )
