-- The query of a product on an opened card by words: the points left, where the product is not 0, and among them those where an odd number
-- of factors is negative.
--
--   sign_at l o               == the sign at a point by its bit l among the points left and its bit o among the odd ones
--   Kept P a rest j left odd == at each point of the opened card P the sign that these two words give, times the sign of the product `rest`
--                               of its first j polynomials, is the sign of the product a
use mathlib.Core.Path.{◌≡◌, refl, sym, ap, ap₂, subst, ◌∙◌}
use mathlib.Core.Bool.{Bool, true, false, cond}
use mathlib.Core.List.{[], ◌∷◌, map, map-append}
use Prim.Native.Nat.{ℕ, zero, suc, ◌+◌, ◌*◌, ◌-◌, ◌/◌, ◌%◌, ◌^◌, ◌<◌, ◌≤◌, min, max}
use native.Mathlib.Omega.{arith}
use native.Mathlib.Nat.{pow-suc}
use lib.Bits.{bit_and, bit_or, bit_xor, differ, and_le_l}
use lib.Count.{ones}
use lib.Dec.{eqb}
use lib.IntN.{ℤ, pos, negsuc, ◌+ℤ◌, ◌*ℤ◌, zero-*ℤ, *ℤ-zero, +ℤ_idr}
use lib.ListN.{get_or, length-map}
use lib.Pow.{ones_lt}
use Rattle.integers.specs.Sign.{sgn_ℤ}
use Rattle.integers.specs.Sums.{sum_ℤ, sum_to}
use Rattle.integers.proofs.Diff.{one-*ℤ}
use Rattle.integers.proofs.Ring.{*ℤ-assoc, *ℤ-left-comm, *ℤ-1}
use Rattle.integers.proofs.Sign.{sgn-*}
use Rattle.integers.proofs.Sums.{sum_ℤ-++}
use Rattle.signs.specs.Lists.{times, up_to, total}
use Rattle.integers.specs.Powers.{power}
use Rattle.signs.specs.Signs.{sign_of, sign, sign_digit}
use Rattle.signs.specs.Bits.{bit_of}
use Rattle.signs.proofs.Digits.{top, low}
use Rattle.signs.proofs.Lists.{times-append}
use Rattle.sign_counts.specs.Counts.{sign_counts, panel_number, in_all}
use Rattle.sign_counts.specs.declared.SignCounts.{SignCounts}
use Rattle.sign_counts.proofs.Laws.{all-counted, panel-sum}
use Rattle.contents.proofs.Patterns.{sgn_power}
use Rattle.layout.proofs.Contents.{up_to-long}
use Rattle.query.specs.declared.Opened.{Opened}
use Rattle.query.specs.Opened.{bit_at, digit_by, column_to, sign_on, counts_on, summed}
use Rattle.query.proofs.Words.{bit_small, bit_and_lem, bit_or_lem, bit_xor_lem, bit_none, bit_first, ones_bits}

-- ---- one point

abbrev pub sign_at : ℕ → ℕ → ℤ
sign_at zero o = pos 0
sign_at (suc l) zero = pos 1
sign_at (suc l) (suc o) = negsuc 0

-- a point left: one factor more, with the power d and the sign bits u and v
factor_left : (d u v o : ℕ) → d < 3 → u < 2 → v < 2 → o < 2
    → sign_at (cond (eqb d 0) 1 (min 1 (max u v))) (cond (eqb d 1) (differ o v) o) ≡ power (sign_of (digit_by u v)) d *ℤ sign_at 1 o
unfolding power sign_of
factor_left zero u v o hd hu hv ho = sym (one-*ℤ (sign_at 1 o))
factor_left (suc zero) zero zero o hd hu hv ho = sym (zero-*ℤ (sign_at 1 o))
factor_left (suc zero) (suc zero) zero zero hd hu hv ho = refl
factor_left (suc zero) (suc zero) zero (suc zero) hd hu hv ho = refl
factor_left (suc zero) (suc zero) zero (suc (suc o)) hd hu hv ho = absurd (omega arith)
factor_left (suc zero) (suc (suc u)) zero o hd hu hv ho = absurd (omega arith)
factor_left (suc zero) u (suc (suc v)) o hd hu hv ho = absurd (omega arith)
factor_left (suc zero) zero (suc zero) zero hd hu hv ho = refl
factor_left (suc zero) zero (suc zero) (suc zero) hd hu hv ho = refl
factor_left (suc zero) zero (suc zero) (suc (suc o)) hd hu hv ho = absurd (omega arith)
factor_left (suc zero) (suc zero) (suc zero) zero hd hu hv ho = refl
factor_left (suc zero) (suc zero) (suc zero) (suc zero) hd hu hv ho = refl
factor_left (suc zero) (suc zero) (suc zero) (suc (suc o)) hd hu hv ho = absurd (omega arith)
factor_left (suc zero) (suc (suc u)) (suc zero) o hd hu hv ho = absurd (omega arith)
factor_left (suc (suc zero)) zero zero o hd hu hv ho = sym (zero-*ℤ (sign_at 1 o))
factor_left (suc (suc zero)) (suc zero) zero o hd hu hv ho = sym (one-*ℤ (sign_at 1 o))
factor_left (suc (suc zero)) (suc (suc u)) zero o hd hu hv ho = absurd (omega arith)
factor_left (suc (suc zero)) zero (suc zero) o hd hu hv ho = sym (one-*ℤ (sign_at 1 o))
factor_left (suc (suc zero)) (suc zero) (suc zero) o hd hu hv ho = sym (one-*ℤ (sign_at 1 o))
factor_left (suc (suc zero)) (suc (suc u)) (suc zero) o hd hu hv ho = absurd (omega arith)
factor_left (suc (suc zero)) u (suc (suc v)) o hd hu hv ho = absurd (omega arith)
factor_left (suc (suc (suc d))) u v o hd hu hv ho = absurd (omega arith)

factor : (d u v l o : ℕ) → d < 3 → u < 2 → v < 2 → l < 2 → o < 2
    → sign_at (cond (eqb d 0) l (min l (max u v))) (cond (eqb d 1) (differ o v) o) ≡ power (sign_of (digit_by u v)) d *ℤ sign_at l o
factor d u v zero o hd hu hv hl ho =
    ap (λ (x : ℕ). sign_at x (cond (eqb d 1) (differ o v) o)) (out (eqb d 0)) ∙ sym (*ℤ-zero (power (sign_of (digit_by u v)) d))
  where
    out : (b : Bool) → ◌≡◌ {A = ℕ} (cond b 0 (min 0 (max u v))) 0
    out true = refl
    out false = omega arith
factor d u v (suc zero) o hd hu hv hl ho = factor_left d u v o hd hu hv ho
factor d u v (suc (suc l)) o hd hu hv hl ho = absurd (omega arith)

-- the count that it adds to: l is the point's bit among those left, m among the odd ones that are left, and z its sign
record Adds (l m : ℕ) (z : ℤ) : Type 0 where
  plus : bit_of 1 (sign_digit z) + m ≡ l
  minus : bit_of 2 (sign_digit z) ≡ m
  none : bit_of 0 (sign_digit z) + l ≡ 1

adds : (l o : ℕ) → l < 2 → o < 2 → Adds l (min l o) (sign_at l o)
unfolding sign_digit
adds zero zero h g = record { plus = refl; minus = refl; none = refl }
adds zero (suc zero) h g = record { plus = refl; minus = refl; none = refl }
adds (suc zero) zero h g = record { plus = refl; minus = refl; none = refl }
adds (suc zero) (suc zero) h g = record { plus = refl; minus = refl; none = refl }
adds zero (suc (suc o)) h g = absurd (omega arith)
adds (suc zero) (suc (suc o)) h g = absurd (omega arith)
adds (suc (suc l)) o h g = absurd (omega arith)

-- ---- all points at once

left_bit : (b : Bool) (left p n k : ℕ) → bit_at (cond b left (bit_and left (bit_or p n))) k
    ≡ cond b (bit_at left k) (min (bit_at left k) (max (bit_at p k) (bit_at n k)))
left_bit true left p n k = refl
left_bit false left p n k = bit_and_lem left (bit_or p n) k ∙ ap (min (bit_at left k)) (bit_or_lem p n k)

odd_bit : (b : Bool) (odd n k : ℕ) → bit_at (cond b (bit_xor odd n) odd) k ≡ cond b (differ (bit_at odd k) (bit_at n k)) (bit_at odd k)
odd_bit true odd n k = bit_xor_lem odd n k
odd_bit false odd n k = refl

left_less : (b : Bool) (left m : ℕ) → cond b left (bit_and left m) ≤ left
left_less true left m = omega arith
left_less false left m = and_le_l left m

-- ---- the columns of an opened card, digit by digit

digit_lt : (u v : ℕ) → u < 2 → digit_by u v < 3
digit_lt u v h = go (eqb v 1)
  where
    go : (b : Bool) → cond b 2 u < 3
    go true = omega arith
    go false = omega arith

column_below : (P : Opened) (s k : ℕ) → column_to P s k < 3 ^ s
unfolding column_to
column_below P zero k = omega arith
column_below P (suc s) k =
    let u = bit_at (get_or P.positive s 0) k in
    let v = bit_at (get_or P.negative s 0) k in
    go (digit_by u v) (digit_lt u v (bit_small (get_or P.positive s 0) k)) (column_below P s k)
  where
    go : (d : ℕ) → d < 3 → column_to P s k < 3 ^ s → column_to P s k + d * 3 ^ s < 3 ^ suc s
    go zero h b = omega (arith, pow-suc 3 s)
    go (suc zero) h b = omega (arith, pow-suc 3 s)
    go (suc (suc zero)) h b = omega (arith, pow-suc 3 s)
    go (suc (suc (suc d))) h b = absurd (omega arith)

-- ---- the two words on their way

pub record Kept (P : Opened) (a rest j left odd : ℕ) : Type 0 where
  pub small : left < 2 ^ P.n
  pub at : (k : ℕ) → k < P.n → sign_at (bit_at left k) (bit_at odd k) *ℤ sign j rest (column_to P j k) ≡ sign P.s a (column_to P P.s k)

module _ (P : Opened) (a : ℕ) where
  pub kept_none : Kept P a a P.s (2 ^ P.n - 1) 0
  kept_none =
      record { small = ones_lt P.n; at = λ k h. rw (bit_first P.n k h, bit_none k) (one-*ℤ (sign P.s a (column_to P P.s k))) }

  -- the power d of polynomial j, and the lower ones r
  module _ (r d j left odd : ℕ) (three : d < 3) (below : r < 3 ^ j) where
    kept-sign : (k : ℕ) →
        let p = get_or P.positive j 0 in
        let n = get_or P.negative j 0 in
        sign_at (bit_at (cond (eqb d 0) left (bit_and left (bit_or p n))) k) (bit_at (cond (eqb d 1) (bit_xor odd n) odd) k) *ℤ sign j r
        (column_to P j k)
        ≡ sign_at (bit_at left k) (bit_at odd k) *ℤ sign (suc j) (r + d * 3 ^ j) (column_to P (suc j) k)
    unfolding sign column_to
    kept-sign k =
        let p = get_or P.positive j 0 in
        let n = get_or P.negative j 0 in
        let q = digit_by (bit_at p k) (bit_at n k) in
        let b = column_below P j k in
        let x = sign_at (bit_at left k) (bit_at odd k) in
        let y = power (sign_of q) d in
        let z = sign j r (column_to P j k) in
        ap (λ (w : ℤ). w *ℤ z) (ap₂ sign_at (left_bit (eqb d 0) left p n k) (odd_bit (eqb d 1) odd n k)
        ∙ factor d (bit_at p k) (bit_at n k) (bit_at left k) (bit_at odd k) three (bit_small p k) (bit_small n k) (bit_small left k)
        (bit_small odd k))
        ∙ *ℤ-assoc y x z
        ∙ *ℤ-left-comm y x z
        ∙ ap (◌*ℤ◌ x) (sym (rw (top j q b, low j q b, top j d below, low j d below) refl))

    kept_next : Kept P a (r + d * 3 ^ j) (suc j) left odd →
        let p = get_or P.positive j 0 in
        let n = get_or P.negative j 0 in
        Kept P a r j (cond (eqb d 0) left (bit_and left (bit_or p n))) (cond (eqb d 1) (bit_xor odd n) odd)
    kept_next m =
        record {
          small = omega (arith, left_less (eqb d 0) left (bit_or (get_or P.positive j 0) (get_or P.negative j 0)), m.small);
          at = λ k h. kept-sign k ∙ m.at k h;
        }

  -- the same of the numbers that the code has
  pub kept_off : (i j rest r d left odd : ℕ) → j ≡ suc i → d < 3 → r < 3 ^ i → rest ≡ r + d * 3 ^ i → Kept P a rest j left odd
      → Kept P a r i (cond (eqb d 0) left (bit_and left (bit_or (get_or P.positive i 0) (get_or P.negative i 0))))
      (cond (eqb d 1) (bit_xor odd (get_or P.negative i 0)) odd)
  kept_off i j rest r d left odd ej three below er m =
      kept_next r d i left odd three below
      (subst (λ (x : ℕ). Kept P a x (suc i) left odd) er (subst (λ (x : ℕ). Kept P a rest x left odd) ej m))

-- ---- the three counts by the two words

-- one point more
times_next : (f : ℕ → ℤ) (d n : ℕ)
    → times d (map sign_digit (map f (up_to (suc n)))) ≡ times d (map sign_digit (map f (up_to n))) + bit_of d (sign_digit (f n))
unfolding up_to times
times_next f d n =
    rw (map-append f (up_to n) (n ∷ []), map-append sign_digit (map f (up_to n)) (f n ∷ []))
    (omega (arith, times-append d (map sign_digit (map f (up_to n))) (sign_digit (f n) ∷ [])))

module _ (f : ℕ → ℤ) (l o : ℕ) where
  record Tallied (n : ℕ) : Type 0 where
    plus : times 1 (map sign_digit (map f (up_to n))) + total (bit_at (bit_and l o)) n ≡ total (bit_at l) n
    minus : times 2 (map sign_digit (map f (up_to n))) ≡ total (bit_at (bit_and l o)) n
    none : times 0 (map sign_digit (map f (up_to n))) + total (bit_at l) n ≡ n

  tallied : (n : ℕ) → ((k : ℕ) → k < n → sign_at (bit_at l k) (bit_at o k) ≡ f k) → Tallied n
  unfolding up_to total times
  tallied zero e = record { plus = refl; minus = refl; none = refl }
  tallied (suc n) e =
      let t = tallied n (λ k h. e k (omega arith)) in
      let a : Adds (bit_at l n) (bit_at (bit_and l o) n) (f n) =
      rw (← e n (omega arith), bit_and_lem l o n) (adds (bit_at l n) (bit_at o n) (bit_small l n) (bit_small o n)) in
      record {
        plus = omega (arith, t.plus, times_next f 1 n, a.plus);
        minus = omega (arith, t.minus, times_next f 2 n, a.minus);
        none = omega (arith, t.none, times_next f 0 n, a.none);
      }

-- no more odd points are left than points
pub odd_fewer : (l o n : ℕ) → l < 2 ^ n → ones (bit_and l o) ≤ ones l
odd_fewer l o n h =
    let t = tallied (λ k. sign_at (bit_at l k) (bit_at o k)) l o n (λ k g. refl) in
    omega (arith, ones_bits n l h, ones_bits n (bit_and l o) (omega (arith, and_le_l l o)), t.plus)

-- the law: the words give the counts
pub counts_words : (P : Opened) (a rest j left odd : ℕ) → Kept P a rest j left odd → j ≡ 0
    → ◌≡◌ {A = SignCounts}
    (record { positive = ones left - ones (bit_and left odd); negative = ones (bit_and left odd); zero = P.n - ones left })
    (counts_on P a)
unfolding counts_on sign_counts sign
counts_words P a rest zero left odd m e =
    let t = tallied (sign_on P a) left odd P.n (λ k g. sym (*ℤ-1 (sign_at (bit_at left k) (bit_at odd k))) ∙ m.at k g) in
    let b = ones_bits P.n left m.small in
    let c = ones_bits P.n (bit_and left odd) (omega (arith, and_le_l left odd, m.small)) in
    counts_are (omega (arith, t.plus, b, c)) (omega (arith, t.minus, b, c)) (omega (arith, t.none, b, c))
  where
    counts_are : {x y z u v w : ℕ} → x ≡ u → y ≡ v → z ≡ w
        → ◌≡◌ {A = SignCounts} (record { positive = x; negative = y; zero = z }) (record { positive = u; negative = v; zero = w })
    counts_are p q r = rw (p, q, r) refl
counts_words P a rest (suc j) left odd m e = absurd (omega arith)

-- ---- the sum of the signs

sgn_sign_of : (d : ℕ) → sgn_ℤ (sign_of d) ≡ sign_of d
unfolding sign_of
sgn_sign_of zero = refl
sgn_sign_of (suc zero) = refl
sgn_sign_of (suc (suc d)) = refl

sgn_sign : (s α σ : ℕ) → sgn_ℤ (sign s α σ) ≡ sign s α σ
unfolding sign
sgn_sign zero α σ = refl
sgn_sign (suc s) α σ =
    let d = σ / 3 ^ s in
    let e = α / 3 ^ s in
    sgn-* (power (sign_of d) e) (sign s (α % 3 ^ s) (σ % 3 ^ s))
    ∙ ap₂ ◌*ℤ◌ (sgn_power (sign_of d) e ∙ ap (λ (x : ℤ). power x e) (sgn_sign_of d)) (sgn_sign s (α % 3 ^ s) (σ % 3 ^ s))

sum-up_to : (f : ℕ → ℤ) → ((k : ℕ) → sgn_ℤ (f k) ≡ f k) → (n : ℕ) → sum_ℤ (map sgn_ℤ (map f (up_to n))) ≡ sum_to f n
unfolding up_to sum_to sum_ℤ
sum-up_to f e zero = refl
sum-up_to f e (suc n) =
    rw (
      map-append f (up_to n) (n ∷ []),
      map-append sgn_ℤ (map f (up_to n)) (f n ∷ []),
      sum_ℤ-++ (map sgn_ℤ (map f (up_to n))) (sgn_ℤ (f n) ∷ []),
    )
    (ap₂ ◌+ℤ◌ (sum-up_to f e n) (+ℤ_idr (sgn_ℤ (f n)) ∙ e n))

-- the law: the first count less the second is the sum of the signs
pub counts-summed : (P : Opened) (a : ℕ) → panel_number (counts_on P a) ≡ summed P a
unfolding counts_on summed
counts-summed P a =
    panel-sum (map (sign_on P a) (up_to P.n)) ∙ sum-up_to (sign_on P a) (λ k. sgn_sign P.s a (column_to P P.s k)) P.n

-- and the three add up to the points
pub counts-points : (P : Opened) (a : ℕ) → in_all (counts_on P a) ≡ P.n
unfolding counts_on
counts-points P a =
    all-counted (map (sign_on P a) (up_to P.n)) ∙ length-map (up_to P.n) (sign_on P a) ∙ up_to-long P.n
