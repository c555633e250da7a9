-- Numbers on a list of patterns by their places, and numbers asked by their blocks: what the steps of the solver read and write, in the
-- words of `part`, `lookup` and `size`.
use mathlib.Core.Path.{◌≡◌, refl, sym, ap, ◌∙◌}
use mathlib.Core.Logic.{◌≢◌}
use mathlib.Core.Bool.{cond}
use mathlib.Core.List.{List, [], ◌∷◌, ◌++◌}
use Prim.Native.Nat.{ℕ, zero, suc, ◌+◌, ◌*◌, ◌-◌, ◌^◌, ◌<◌, ◌≤◌}
use native.Mathlib.Omega.{arith}
use native.Mathlib.Decide.{ℕ_discrete, dec_lt}
use lib.Dec.{eqb}
use lib.IntN.{ℤ, pos, negsuc, nat_abs, sub_ℕ}
use lib.ListN.{length, get_or, take, drop}
use lib.Seq.{ext_get_or, drop-drop}
use Rattle.integers.specs.Sums.{sum_abs}
use Rattle.integers.proofs.Parts.{up, dn, int, parts}
use Rattle.integers.proofs.Tests.{eqb_same, eqb_other}
use Rattle.integers.proofs.Diff.{Diff, diff_sub, diff_same}
use Rattle.signs.specs.Lists.{times, Below, Rising, shift}
use Rattle.signs.specs.Adapted.{restrictions, adapted}
use Rattle.signs.proofs.Lists.{times-nil, times-same, times_other, times-cons, times-shift, shift_holds}
use Rattle.signs.proofs.Blocks.{adapted_below}
use Rattle.signs.proofs.Size.{total, total_mono, length_shift}
use Rattle.signs.proofs.Positions.{stands_at}
use Rattle.solutions.specs.Solver.{Weight, lookup, values}
use Rattle.signs.proofs.Weights.{part, part-first, part_later, part_empty, part_out, rising_fresh, diff_parts}
use Rattle.solutions.proofs.Bounds.{dist, size}

-- ---- a number by its place

pub part_at : (f : ℤ → ℕ) (L : List ℕ) (c : List ℤ) (j : ℕ) → Rising L → length c ≡ length L → j < length L
    → part f L c (get_or L j 0) ≡ f (get_or c j (pos 0))
unfolding Rising
part_at f [] c j r e h = absurd (omega arith)
part_at f (σ ∷ L) [] j r e h = absurd (omega arith)
part_at f (σ ∷ L) (w ∷ c) zero r e h = omega (arith, part-first f σ L w c, part_out f L c σ (rising_fresh σ L r))
part_at f (σ ∷ L) (w ∷ c) (suc j) r e h =
    part_later f σ L w c (get_or L j 0) (λ q. omega (arith, r.0 (get_or L j 0) (stands_at L j (omega arith))))
    ∙ part_at f L c j r.1 (omega arith) (omega arith)

values-at : (w : Weight) (L : List ℕ) (k : ℕ) → k < length L → get_or (values w L) k (pos 0) ≡ sub_ℕ (w.up (get_or L k 0))
    (w.dn (get_or L k 0))
unfolding values
values-at w [] k h = absurd (omega arith)
values-at w (q ∷ L) zero h = refl
values-at w (q ∷ L) (suc k) h = values-at w L k (omega arith)

values-long : (w : Weight) (L : List ℕ) → length (values w L) ≡ length L
unfolding values
values-long w [] = refl
values-long w (q ∷ L) = ap suc (values-long w L)

-- z is the difference a − b
abbrev pub Bal : ℤ → ℕ → ℕ → Type 0
Bal z a b = up z + b ≡ dn z + a

pub bal_sub : (z : ℤ) (a b : ℕ) → Bal z a b → sub_ℕ a b ≡ z
bal_sub z a b h = diff_same (sub_ℕ a b) z (diff_sub a b) (diff_parts z) (omega arith)

-- a list with the numbers that a weight has
pub values_are : (w : Weight) (L : List ℕ) (out : List ℤ) → length out ≡ length L
    → ((k : ℕ) → k < length L → Bal (get_or out k (pos 0)) (w.up (get_or L k 0)) (w.dn (get_or L k 0))) → values w L ≡ out
values_are w L out e f =
    ext_get_or (pos 0) (values w L) out (values-long w L ∙ sym e)
    (λ k h. let h' : k < length L = omega (arith, values-long w L) in values-at w L k h'
    ∙ bal_sub (get_or out k (pos 0)) (w.up (get_or L k 0)) (w.dn (get_or L k 0)) (f k h'))

-- ---- numbers asked, by blocks

lookup-nil : (α : ℕ) (A : List ℕ) → lookup α A [] ≡ pos 0
unfolding lookup
lookup-nil α [] = refl
lookup-nil α (a ∷ A) = refl

lookup_first : (α : ℕ) (A B : List ℕ) (x : List ℤ) → 0 < times α A → lookup α (A ++ B) x ≡ lookup α A (take (length A) x)
unfolding lookup
lookup_first α [] B x h = absurd (omega (arith, times-nil α))
lookup_first α (a ∷ A) B [] h = refl
lookup_first α (a ∷ A) B (d ∷ x) h = go (ℕ_discrete α a) (lookup_first α A B x)
  where
    go : Dec (α ≡ a) → (0 < times α A → lookup α (A ++ B) x ≡ lookup α A (take (length A) x))
        → cond (eqb α a) d (lookup α (A ++ B) x) ≡ cond (eqb α a) d (lookup α A (take (length A) x))
    go (yes e) ih = rw (e, eqb_same a) refl
    go (no e) ih = rw (eqb_other α a e) (ih (omega (arith, times_other α a A e)))

lookup_skip : (α : ℕ) (A B : List ℕ) (x : List ℤ) → times α A ≡ 0 → lookup α (A ++ B) x ≡ lookup α B (drop (length A) x)
unfolding lookup
lookup_skip α [] B x h = refl
lookup_skip α (a ∷ A) B [] h = sym (lookup-nil α B)
lookup_skip α (a ∷ A) B (d ∷ x) h = go (ℕ_discrete α a) (lookup_skip α A B x)
  where
    go : Dec (α ≡ a) → (times α A ≡ 0 → lookup α (A ++ B) x ≡ lookup α B (drop (length A) x))
        → cond (eqb α a) d (lookup α (A ++ B) x) ≡ lookup α B (drop (length A) x)
    go (yes e) ih = let h' : times a (a ∷ A) ≡ 0 = (rw e at h) in absurd (omega (arith, times-same a A))
    go (no e) ih = rw (eqb_other α a e) (ih (omega (arith, times_other α a A e)))

lookup-take : (α n : ℕ) (A : List ℕ) (x : List ℤ) → length A ≤ n → lookup α A (take n x) ≡ lookup α A x
unfolding lookup
lookup-take α n [] x h = refl
lookup-take α zero (a ∷ A) x h = absurd (omega arith)
lookup-take α (suc n) (a ∷ A) [] h = refl
lookup-take α (suc n) (a ∷ A) (d ∷ x) h = ap (cond (eqb α a) d) (lookup-take α n A x (omega arith))

same_test : (α a c : ℕ) → eqb (α + c) (a + c) ≡ eqb α a
same_test α a c = go (ℕ_discrete α a)
  where
    go : Dec (α ≡ a) → eqb (α + c) (a + c) ≡ eqb α a
    go (yes e) = rw (e, eqb_same (a + c), eqb_same a) refl
    go (no e) = rw (eqb_other α a e, eqb_other (α + c) (a + c) (λ f. e (omega arith))) refl

lookup-shift : (α c : ℕ) (A : List ℕ) (x : List ℤ) → lookup (α + c) (shift c A) x ≡ lookup α A x
unfolding lookup shift
lookup-shift α c [] x = refl
lookup-shift α c (a ∷ A) [] = refl
lookup-shift α c (a ∷ A) (d ∷ x) = rw (same_test α a c) (ap (cond (eqb α a) d) (lookup-shift α c A x))

out_of : (q : ℕ) (l : List ℕ) → (0 < times q l → ⊥) → times q l ≡ 0
out_of q l f = go (dec_lt 0 (times q l))
  where
    go : Dec (0 < times q l) → times q l ≡ 0
    go (yes h) = absurd (f h)
    go (no h) = omega arith

-- the numbers of the three blocks of an adapted list are those of the three adapted lists
module _ (i : ℕ) (L : List ℕ) (x : List ℤ) where
  abbrev A₁ : List ℕ
  A₁ = adapted i (restrictions 1 i L)

  abbrev A₂ : List ℕ
  A₂ = adapted i (restrictions 2 i L)

  abbrev A₃ : List ℕ
  A₃ = adapted i (restrictions 3 i L)

  pub block_0 : (α : ℕ) → 0 < times α A₁ → lookup α A₁ (take (length A₁) x) ≡ lookup (α + 0 * 3 ^ i) (adapted (suc i) L) x
  unfolding adapted
  block_0 α h =
      sym (ap (λ (β : ℕ). lookup β (adapted (suc i) L) x) (zeroth α) ∙ lookup_first α A₁ (shift (3 ^ i) A₂ ++ shift (2 * 3 ^ i) A₃) x h)
    where
      zeroth : (α : ℕ) → α + 0 * 3 ^ i ≡ α
      zeroth α = omega arith

  not_first : (α k : ℕ) → 1 ≤ k → times (α + k * 3 ^ i) A₁ ≡ 0
  not_first α k h = out_of (α + k * 3 ^ i) A₁ (λ m. absurd (far (adapted_below i (α + k * 3 ^ i) (restrictions 1 i L) m) h))
    where
      far : α + k * 3 ^ i < 3 ^ i → 1 ≤ k → ⊥
      far b c = go k c b
        where
          go : (k : ℕ) → 1 ≤ k → α + k * 3 ^ i < 3 ^ i → ⊥
          go zero c b = omega arith
          go (suc k) c b = let e : α + (k * 3 ^ i + 3 ^ i) < 3 ^ i = (rw (succ_times k) at b) in omega arith
            where
              succ_times : (k : ℕ) → suc k * 3 ^ i ≡ k * 3 ^ i + 3 ^ i
              succ_times k = omega arith

  pub block_1 : (n : ℕ) (α : ℕ) → 0 < times α A₂ → length A₂ ≤ n
      → lookup α A₂ (take n (drop (length A₁) x)) ≡ lookup (α + 1 * 3 ^ i) (adapted (suc i) L) x
  unfolding adapted
  block_1 n α h b =
      lookup-take α n A₂ (drop (length A₁) x) b
      ∙ sym (lookup_skip (α + 1 * 3 ^ i) A₁ (shift (3 ^ i) A₂ ++ shift (2 * 3 ^ i) A₃) x (not_first α 1 (omega arith))
      ∙ ap (λ (β : ℕ). lookup β (shift (3 ^ i) A₂ ++ shift (2 * 3 ^ i) A₃) (drop (length A₁) x)) (once α)
      ∙ lookup_first (α + 3 ^ i) (shift (3 ^ i) A₂) (shift (2 * 3 ^ i) A₃) (drop (length A₁) x) (rw (times-shift (3 ^ i) α A₂) h)
      ∙ lookup-shift α (3 ^ i) A₂ (take (length (shift (3 ^ i) A₂)) (drop (length A₁) x))
      ∙ lookup-take α (length (shift (3 ^ i) A₂)) A₂ (drop (length A₁) x) (omega (arith, length_shift (3 ^ i) A₂)))
    where
      once : (α : ℕ) → α + 1 * 3 ^ i ≡ α + 3 ^ i
      once α = omega arith

  pub block_2 : (α : ℕ) → 0 < times α A₃ → lookup α A₃ (drop (length A₁ + length A₂) x) ≡ lookup (α + 2 * 3 ^ i) (adapted (suc i) L) x
  unfolding adapted
  block_2 α h =
      sym (lookup_skip (α + 2 * 3 ^ i) A₁ (shift (3 ^ i) A₂ ++ shift (2 * 3 ^ i) A₃) x (not_first α 2 (omega arith))
      ∙ lookup_skip (α + 2 * 3 ^ i) (shift (3 ^ i) A₂) (shift (2 * 3 ^ i) A₃) (drop (length A₁) x) not_second
      ∙ lookup-shift α (2 * 3 ^ i) A₃ (drop (length (shift (3 ^ i) A₂)) (drop (length A₁) x))
      ∙ ap (lookup α A₃) (drop-drop (length (shift (3 ^ i) A₂)) (length A₁) x
      ∙ ap (λ (n : ℕ). drop (length A₁ + n) x) (length_shift (3 ^ i) A₂)))
    where
      not_second : times (α + 2 * 3 ^ i) (shift (3 ^ i) A₂) ≡ 0
      not_second =
          out_of (α + 2 * 3 ^ i) (shift (3 ^ i) A₂)
          (λ m. let (a, e, k) = shift_holds (3 ^ i) (α + 2 * 3 ^ i) A₂ m in omega (arith, adapted_below i a (restrictions 2 i L) k))

-- ---- sizes

total_plus : (f g : ℕ → ℕ) (n : ℕ) → total (λ q. f q + g q) n ≡ total f n + total g n
unfolding total
total_plus f g zero = refl
total_plus f g (suc n) = omega (arith, total_plus f g n)

-- k at x alone
spike : ℕ → ℕ → ℕ → ℕ
spike x k q = cond (eqb q x) k 0

spike_here : (x k : ℕ) → spike x k x ≡ k
unfolding spike
spike_here x k = rw (eqb_same x) refl

spike_there : (x k q : ℕ) → q ≢ x → spike x k q ≡ 0
unfolding spike
spike_there x k q h = rw (eqb_other q x h) refl

total_none : (x k n : ℕ) → n ≤ x → total (spike x k) n ≡ 0
unfolding total
total_none x k zero h = refl
total_none x k (suc n) h = omega (arith, total_none x k n (omega arith), spike_there x k n (omega arith))

total_spike : (x k n : ℕ) → total (spike x k) n ≤ k
unfolding total
total_spike x k zero = omega arith
total_spike x k (suc n) = go (ℕ_discrete n x) (total_spike x k n)
  where
    go : Dec (n ≡ x) → total (spike x k) n ≤ k → total (spike x k) n + spike x k n ≤ k
    go (yes e) ih = rw e (omega (arith, total_none x k x (omega arith), spike_here x k))
    go (no e) ih = omega (arith, spike_there x k n e)

total_has : (x k n : ℕ) → x < n → total (spike x k) n ≡ k
unfolding total
total_has x k zero h = absurd (omega arith)
total_has x k (suc n) h = go (ℕ_discrete n x) (total_has x k n)
  where
    go : Dec (n ≡ x) → (x < n → total (spike x k) n ≡ k) → total (spike x k) n + spike x k n ≡ k
    go (yes e) ih = rw e (omega (arith, total_none x k x (omega arith), spike_here x k))
    go (no e) ih = omega (arith, spike_there x k n e, ih (omega arith))

-- the numbers on a list are no larger, as a weight, than they are
total-zero : (f : ℕ → ℕ) (n : ℕ) → ((q : ℕ) → f q ≡ 0) → total f n ≡ 0
unfolding total
total-zero f zero e = refl
total-zero f (suc n) e = omega (arith, total-zero f n e, e n)

dist_first : (σ : ℕ) (L : List ℕ) (w : ℤ) (c : List ℤ) (q : ℕ)
    → dist (part up (σ ∷ L) (w ∷ c) q) (part dn (σ ∷ L) (w ∷ c) q) ≤ spike σ (nat_abs w) q + dist (part up L c q) (part dn L c q)
unfolding dist
dist_first σ L w c q = at (ℕ_discrete q σ)
  where
    at : Dec (q ≡ σ) → dist (part up (σ ∷ L) (w ∷ c) q) (part dn (σ ∷ L) (w ∷ c) q) ≤ spike σ (nat_abs w) q
        + dist (part up L c q) (part dn L c q)
    at (yes e) = rw e (omega (int, part-first up σ L w c, part-first dn σ L w c, spike_here σ (nat_abs w), parts w))
    at (no e) = omega (arith, part_later up σ L w c q e, part_later dn σ L w c q e, spike_there σ (nat_abs w) q e)

part-total : (n : ℕ) (L : List ℕ) (c : List ℤ) → total (λ q. dist (part up L c q) (part dn L c q)) n ≤ sum_abs c
unfolding sum_abs dist
part-total n [] c =
    omega (
      arith,
      total-zero (λ q. dist (part up [] c q) (part dn [] c q)) n
          (λ q. omega (arith, part_out up [] c q (times-nil q), part_out dn [] c q (times-nil q))),
    )
part-total n (σ ∷ L) [] =
    omega (
      arith,
      total-zero (λ q. dist (part up (σ ∷ L) [] q) (part dn (σ ∷ L) [] q)) n
          (λ q. omega (arith, part_empty up (σ ∷ L) q, part_empty dn (σ ∷ L) q)),
    )
part-total n (σ ∷ L) (w ∷ c) =
    omega (
      arith,
      total_mono (λ q. dist (part up (σ ∷ L) (w ∷ c) q) (part dn (σ ∷ L) (w ∷ c) q))
          (λ q. spike σ (nat_abs w) q + dist (part up L c q) (part dn L c q)) n (λ q h. dist_first σ L w c q),
      total_plus (spike σ (nat_abs w)) (λ q. dist (part up L c q) (part dn L c q)) n,
      total_spike σ (nat_abs w) n,
      part-total n L c,
    )

pub part-size : (s : ℕ) (L : List ℕ) (c : List ℤ) → size s (part up L c) (part dn L c) ≤ sum_abs c
unfolding size
part-size s L c = part-total (3 ^ s) L c

-- and the values of a weight on a list are no larger than the weight
sub-size : (z : ℤ) (a b : ℕ) → Diff z a b → nat_abs z ≤ dist a b
unfolding dist
sub-size (pos k) a b d = omega arith
sub-size (negsuc k) a b d = omega arith

-- g but at x
cut : ℕ → (ℕ → ℕ) → ℕ → ℕ
cut x g q = cond (eqb q x) 0 (g q)

cut_sum : (x : ℕ) (g : ℕ → ℕ) (q : ℕ) → cut x g q + spike x (g x) q ≤ g q
unfolding cut
cut_sum x g q = at (ℕ_discrete q x)
  where
    at : Dec (q ≡ x) → cond (eqb q x) 0 (g q) + spike x (g x) q ≤ g q
    at (yes e) = rw (e, eqb_same x) (omega (arith, spike_here x (g x)))
    at (no e) = rw (eqb_other q x e) (omega (arith, spike_there x (g x) q e))

cut_other : (x : ℕ) (g : ℕ → ℕ) (q : ℕ) → q ≢ x → cut x g q ≡ g q
unfolding cut
cut_other x g q e = rw (eqb_other q x e) refl

values-total : (n : ℕ) (w : Weight) (L : List ℕ) (g : ℕ → ℕ) → Rising L → Below n L
    → ((q : ℕ) → 0 < times q L → dist (w.up q) (w.dn q) ≤ g q) → sum_abs (values w L) ≤ total g n
unfolding Rising Below values sum_abs
values-total n w [] g r b f = omega arith
values-total n w (x ∷ L) g r b f =
    omega (
      arith,
      sub-size (sub_ℕ (w.up x) (w.dn x)) (w.up x) (w.dn x) (diff_sub (w.up x) (w.dn x)),
      f x (omega (arith, times-same x L)),
      values-total n w L (cut x g) r.1 b.1
          (λ q m. rw (cut_other x g q (λ e. omega (arith, r.0 q m))) (f q (omega (arith, times-cons q x L)))),
      total_mono (λ q. cut x g q + spike x (g x) q) g n (λ q h. cut_sum x g q),
      total_plus (cut x g) (spike x (g x)) n,
      total_has x (g x) n b.0,
    )

pub values-size : (s : ℕ) (w : Weight) (L : List ℕ) (p n : ℕ → ℕ) → Rising L → Below (3 ^ s) L
    → ((q : ℕ) → 0 < times q L → dist (w.up q) (w.dn q) ≤ dist (p q) (n q)) → sum_abs (values w L) ≤ size s p n
unfolding size
values-size s w L p n r b f = values-total (3 ^ s) w L (λ q. dist (p q) (n q)) r b f
