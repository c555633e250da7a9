-- What the loops of this crate keep from turn to turn, and what they leave.
use Prim.Native.Nat.{ℕ, suc, ◌+◌, ◌*◌, ◌^◌, ◌≤◌, ◌<◌}
use native.Mathlib.Nat.{add-zero}
use native.Mathlib.Numerals.{add-one}
use native.Mathlib.Omega.{arith}
use mathlib.Core.Path.{◌≡◌, refl, sym, ap, ap₂, ◌∙◌}
use mathlib.Core.Bool.{Bool, true, false, cond}
use Rattle.std.specs.Prelude.{Option, Some, None}
use mathlib.Core.List.{List, [], ◌∷◌, ◌++◌, append-nil}
use borrow.Author.Tests.{leb-false}
use lib.IntN.{ℤ, pos, nat_abs, ◌+ℤ◌, ◌-ℤ◌, ◌*ℤ◌, +ℤ_idl, +ℤ_idr, +ℤ_assoc, *ℤ-zero}
use lib.ListN.{length, get_or, take, drop, set, length-set, drop_of_length-le, get_or-append}
use lib.Seq.{sets, take-suc-set, length-take-le, get_or-take}
use Rattle.refusals.specs.Limits.{most_points}
use Rattle.integers.specs.Sums.{Within}
use Rattle.integers.proofs.Abs.{abs_sum, abs-*-le}
use Rattle.signs.specs.Lists.{times, Below, Rising, shift}
use Rattle.signs.specs.Signs.{sign, weighted}
use Rattle.signs.specs.Bits.{digit_set, sign_bits}
use Rattle.signs.specs.Adapted.{adapted}
use Rattle.signs.proofs.Lists.{times-same, times-cons}
use Rattle.signs.proofs.Blocks.{adapted_below}
use Rattle.signs.proofs.Size.{as_many}
use Rattle.adapted.proofs.Stores.{take_sets}
use Rattle.signs.proofs.Digitwise.{sign_bits_lem}
use Rattle.signs.proofs.Positions.{below_at}
use Rattle.solver_moments.specs.Moments.{put_one}
use Rattle.integers.proofs.Sums.{within_of}
use Rattle.integers.proofs.Stores.{each_more}
use Rattle.solver_residuals.specs.Residuals.{
  residuals,
  is_small,
  bit_sum,
  digit_sum,
  Subtracted,
  Gathered,
  SubtractedBoth,
  ResidualsBoth,
}
use Rattle.solver_residuals.proofs.Sums.{sign_small, sum_snoc, sum_none, sum_next, weighted_next, residuals_is, residuals-at}

-- ---- gather

pub record Gathering (i : ℕ) (l : List ℕ) (v : List ℤ) (o t : List ℕ) (u : List ℤ) (lo lt lu n j : ℕ) : Type 0 where
  pub place : j ≤ length l
  pub few : n ≤ j
  pub long-o : length o ≡ lo
  pub long-t : length t ≡ lt
  pub long-u : length u ≡ lu
  pub sums : (α : ℕ) → α < 3 ^ i → digit_sum i α (take n o) (take n t) (take n u) +ℤ weighted i (drop j l) (drop j v) α ≡ weighted i l v α
  pub small : (h : ℕ) → h < n → nat_abs (get_or u h (pos 0)) ≤ 256

pub gathering_first : (i : ℕ) (l : List ℕ) (v : List ℤ) (o t : List ℕ) (u : List ℤ)
    → Gathering i l v o t u (length o) (length t) (length u) 0 0
gathering_first i l v o t u =
    record {
      place = omega arith;
      few = omega arith;
      long-o = refl;
      long-t = refl;
      long-u = refl;
      sums = λ α h. ap (λ (z : ℤ). z +ℤ weighted i l v α) (sum_none (digit_set 1 i α) (digit_set 2 i α) [] []) ∙ +ℤ_idl (weighted i l v α);
      small = λ h q. absurd (omega arith);
    }

-- a pattern more: written where the test b holds, which it does where the number is not 0
pub gathering_next : (i : ℕ) (l : List ℕ) (v : List ℤ) (o t o' t' : List ℕ) (u u' : List ℤ) (lo lt lu n n' j : ℕ) (b : Bool)
    → Gathering i l v o t u lo lt lu n j
    → j < length l → length v ≡ length l → Below (3 ^ i) l → Within 256 v → length l ≤ lo → length l ≤ lt → length l ≤ lu
    → (b ≡ false → get_or v j (pos 0) ≡ pos 0)
    → n' ≡ n + cond b 1 0
    → o' ≡ put_one b o n (digit_set 1 i (get_or l j 0))
    → t' ≡ put_one b t n (digit_set 2 i (get_or l j 0))
    → u' ≡ put_one b u n (get_or v j (pos 0))
    → Gathering i l v o' t' u' lo lt lu n' (j + 1)
gathering_next i l v o t o' t' u u' lo lt lu n n' j b G h e be w ho ht hu z en eo et eu = go b refl
  where
    go : (c : Bool) → b ≡ c → Gathering i l v o' t' u' lo lt lu n' (j + 1)
    go true k =
        let no : o' ≡ set o n (digit_set 1 i (get_or l j 0)) = eo ∙ rw k refl in
        let nt : t' ≡ set t n (digit_set 2 i (get_or l j 0)) = et ∙ rw k refl in
        let nu : u' ≡ set u n (get_or v j (pos 0)) = eu ∙ rw k refl in
        let nn : n' ≡ suc n = en ∙ rw k (add-one n) in
        record {
          place = omega arith;
          few = omega (arith, G.few);
          long-o = rw (no, length-set) G.long-o;
          long-t = rw (nt, length-set) G.long-t;
          long-u = rw (nu, length-set) G.long-u;
          sums =
              λ α a. rw (
                nn,
                no,
                nt,
                nu,
                add-one j,
                take-suc-set o n (digit_set 1 i (get_or l j 0)) (omega (arith, G.few, G.long-o)),
                take-suc-set t n (digit_set 2 i (get_or l j 0)) (omega (arith, G.few, G.long-t)),
                take-suc-set u n (get_or v j (pos 0)) (omega (arith, G.few, G.long-u)),
              ) (with_x α a);
          small =
              rw (nn, nu) (λ m r. rw add-one
              at (each_more (pos 0) (λ _ z. nat_abs z ≤ 256) u n (get_or v j (pos 0)) (omega (arith, G.few, G.long-u)) (w.at j) G.small)
              m r);
        }
      where
        with_x : (α : ℕ) → α < 3 ^ i
            → digit_sum i α (take n o ++ (digit_set 1 i (get_or l j 0) ∷ [])) (take n t ++ (digit_set 2 i (get_or l j 0) ∷ []))
            (take n u ++ ((get_or v j (pos 0)) ∷ [])) +ℤ weighted i (drop (suc j) l) (drop (suc j) v) α ≡ weighted i l v α
        with_x α a =
            let S : ℤ = digit_sum i α (take n o) (take n t) (take n u) in
            let s : ℤ = sign i α (get_or l j 0) in
            ap (λ (z : ℤ). z +ℤ weighted i (drop (suc j) l) (drop (suc j) v) α)
            (sum_snoc (digit_set 1 i α) (digit_set 2 i α) (digit_set 1 i (get_or l j 0)) (digit_set 2 i (get_or l j 0)) (get_or v j (pos 0))
            (take n o) (take n t) (take n u)
            (length-take-le n o (omega (arith, G.few, G.long-o)) ∙ sym (length-take-le n u (omega (arith, G.few, G.long-u))))
            (length-take-le n t (omega (arith, G.few, G.long-t)) ∙ sym (length-take-le n u (omega (arith, G.few, G.long-u))))
            ∙ ap (λ (z : ℤ). S +ℤ (z *ℤ (get_or v j (pos 0)))) (sign_bits_lem i α (get_or l j 0) a (below_at (3 ^ i) l be j h)))
            ∙ +ℤ_assoc S (s *ℤ (get_or v j (pos 0))) (weighted i (drop (suc j) l) (drop (suc j) v) α)
            ∙ ap (λ (z : ℤ). S +ℤ z) (sym (weighted_next i α j l v h e))
            ∙ G.sums α a
    go false k =
        let no : o' ≡ o = eo ∙ rw k refl in
        let nt : t' ≡ t = et ∙ rw k refl in
        let nu : u' ≡ u = eu ∙ rw k refl in
        let nn : n' ≡ n = en ∙ rw k (add-zero n) in
        record {
          place = omega arith;
          few = omega (arith, G.few);
          long-o = rw no G.long-o;
          long-t = rw nt G.long-t;
          long-u = rw nu G.long-u;
          sums = λ α a. rw (nn, no, nt, nu, add-one j) (without α a);
          small = rw (nn, nu) G.small;
        }
      where
        without : (α : ℕ) → α < 3 ^ i → digit_sum i α (take n o) (take n t) (take n u) +ℤ weighted i (drop (suc j) l) (drop (suc j) v) α
            ≡ weighted i l v α
        without α a =
            ap (λ (z : ℤ). digit_sum i α (take n o) (take n t) (take n u) +ℤ z)
            (sym (weighted_next i α j l v h e
            ∙ ap (λ (y : ℤ). (sign i α (get_or l j 0) *ℤ y) +ℤ weighted i (drop (suc j) l) (drop (suc j) v) α) (z k)
            ∙ ap (λ (z : ℤ). z +ℤ weighted i (drop (suc j) l) (drop (suc j) v) α) (*ℤ-zero (sign i α (get_or l j 0)))
            ∙ +ℤ_idl (weighted i (drop (suc j) l) (drop (suc j) v) α)))
            ∙ G.sums α a

none_left : (i α j : ℕ) (l : List ℕ) (v : List ℤ) → length l ≤ j → weighted i (drop j l) (drop j v) α ≡ pos 0
unfolding weighted
none_left i α j l v h = rw (drop_of_length-le l h) refl

pub gathering_last : (i : ℕ) (l : List ℕ) (v : List ℤ) (o t : List ℕ) (u : List ℤ) (lo lt lu n j : ℕ) → Gathering i l v o t u lo lt lu n j
    → length l ≤ j → Gathered i l v n o t u
gathering_last i l v o t u lo lt lu n j G h =
    record {
      few = omega (arith, G.few, G.place);
      sums =
          λ α a. sym (+ℤ_idr (digit_sum i α (take n o) (take n t) (take n u)))
          ∙ ap (λ (z : ℤ). digit_sum i α (take n o) (take n t) (take n u) +ℤ z) (sym (none_left i α j l v h)) ∙ G.sums α a;
      small = G.small;
    }

-- ---- queries

-- x is the sum of the first j numbers of u, each times its sign
pub record Summing (a₁ a₂ : ℕ) (o t : List ℕ) (u : List ℤ) (x : ℤ) (j : ℕ) : Type 0 where
  pub sums : x +ℤ bit_sum a₁ a₂ (drop j o) (drop j t) (drop j u) ≡ bit_sum a₁ a₂ o t u
  pub small : nat_abs x ≤ 256 * j

pub summing_first : (a₁ a₂ : ℕ) (o t : List ℕ) (u : List ℤ) → Summing a₁ a₂ o t u (pos 0) 0
summing_first a₁ a₂ o t u = record { sums = +ℤ_idl (bit_sum a₁ a₂ o t u); small = omega arith }

pub addend_small : (a₁ a₂ p q : ℕ) (y : ℤ) → nat_abs y ≤ 256 → nat_abs (sign_bits a₁ a₂ p q *ℤ y) ≤ 256
addend_small a₁ a₂ p q y h = omega (arith, abs-*-le (sign_bits a₁ a₂ p q) y {m = 1} {n = 256} (sign_small a₁ a₂ p q) h)

pub summing_next : (a₁ a₂ j : ℕ) (o t : List ℕ) (u : List ℤ) (x y : ℤ) → j < length u → length o ≡ length u → length t ≡ length u
    → Within 256 u → Summing a₁ a₂ o t u x j → y ≡ x +ℤ (sign_bits a₁ a₂ (get_or o j 0) (get_or t j 0) *ℤ get_or u j (pos 0))
    → Summing a₁ a₂ o t u y (j + 1)
summing_next a₁ a₂ j o t u x y h e f w S n =
    let p = sign_bits a₁ a₂ (get_or o j 0) (get_or t j 0) *ℤ get_or u j (pos 0) in
    record {
      sums = rw (add-one j, n) (+ℤ_assoc x p (bit_sum a₁ a₂ (drop (suc j) o) (drop (suc j) t) (drop (suc j) u))
          ∙ ap (λ (z : ℤ). x +ℤ z) (sym (sum_next a₁ a₂ j o t u h e f)) ∙ S.sums);
      small = rw n (omega (arith, abs_sum x p, S.small, addend_small a₁ a₂ (get_or o j 0) (get_or t j 0) (get_or u j (pos 0)) (w.at j)));
    }

pub summing_last : (a₁ a₂ j : ℕ) (o t : List ℕ) (u : List ℤ) (x : ℤ) → length o ≤ j → Summing a₁ a₂ o t u x j → x ≡ bit_sum a₁ a₂ o t u
unfolding bit_sum
summing_last a₁ a₂ j o t u x h S = sym (+ℤ_idr x) ∙ ap (λ (z : ℤ). x +ℤ z) (sym nothing) ∙ S.sums
  where
    nothing : bit_sum a₁ a₂ (drop j o) (drop j t) (drop j u) ≡ pos 0
    nothing = rw (drop_of_length-le o h) refl

-- ---- what remains of one number

-- one that is too large: no others are small
pub not_small : (i k : ℕ) (a o t : List ℕ) (u x r : List ℤ) (z : ℤ) → k < length a → z ≡ get_or x k (pos 0) -ℤ digit_sum i
    (get_or a k 0) o t u
    → is_small z ≡ false → Subtracted i a o t u x r → Within most_points r → ⊥
not_small i k a o t u x r z h e f S w =
    omega (arith, leb-false (nat_abs z) most_points f, w.at k, ap nat_abs (S.at k h ∙ sym e))

-- ---- remain

-- nothing is known: the numbers are as they were
pub copied_rests : (i : ℕ) (a o t : List ℕ) (v x r : List ℤ) → length o ≡ 0 → r ≡ x → Subtracted i a o t v x r
unfolding bit_sum
copied_rests i a [] t v x r e h = record { at = λ k q. rw h (sym (+ℤ_idr (get_or x k (pos 0)))) }
copied_rests i a (p ∷ o) t v x r e h = absurd (omega arith)

pub shift_zero : (l : List ℕ) → shift 0 l ≡ l
unfolding shift
shift_zero [] = refl
shift_zero (x ∷ l) = ap₂ ◌∷◌ (add-zero x) (shift_zero l)

pub below_all : (b : ℕ) (l : List ℕ) → ((q : ℕ) → 0 < times q l → q < b) → Below b l
unfolding Below
below_all b [] f = tt
below_all b (x ∷ l) f = (f x (omega (arith, times-same x l)), below_all b l (λ q h. f q (omega (arith, times-cons q x l))))

-- the adapted list at the front of an array
pub adapted-front : (i : ℕ) (l a a' : List ℕ) → Rising l → Below (3 ^ i) l → length l ≤ length a → a' ≡ sets a 0 (shift 0 (adapted i l))
    → take (length l) a' ≡ adapted i l
adapted-front i l a a' r b h f =
    rw (f, shift_zero (adapted i l)) (take_sets (adapted i l) a (length l) (sym (as_many i l r b)) h)

pub adapted-small : (i : ℕ) (l : List ℕ) → Below (3 ^ i) (adapted i l)
adapted-small i l = below_all (3 ^ i) (adapted i l) (λ q h. adapted_below i q l h)

-- ---- the residuals

-- what the code works out is what remains
left_over : (i c : ℕ) (l' l o t : List ℕ) (v u x r : List ℤ) → Rising l' → Below (3 ^ i) l' → length x ≡ length l'
    → length r ≡ length l'
    → Gathered i l v c o t u → Subtracted i (adapted i l') (take c o) (take c t) (take c u) x r → r ≡ residuals i l v (adapted i l') x
left_over i c l' l o t v u x r ri be lx lr G R =
    let n = as_many i l' ri be in
    residuals_is i l v (adapted i l') x r (lx ∙ sym n) (lr ∙ sym n)
    (λ k h. R.at k h ∙ ap (λ (z : ℤ). get_or x k (pos 0) -ℤ z)
    (G.sums (get_or (adapted i l') k 0) (below_at (3 ^ i) (adapted i l') (adapted-small i l') k h)))

-- and what remains is what the code works out
subtracted : (i c : ℕ) (l' l o t : List ℕ) (v u x : List ℤ) → Rising l' → Below (3 ^ i) l' → length x ≡ length l' → Gathered i l v c o t u
    → Subtracted i (adapted i l') (take c o) (take c t) (take c u) x (residuals i l v (adapted i l') x)
subtracted i c l' l o t v u x ri be lx G =
    record {
      at = λ k h. residuals-at i l v (adapted i l') x k (lx ∙ sym (as_many i l' ri be)) h
          ∙ ap (λ (z : ℤ). get_or x k (pos 0) -ℤ z)
          (sym (G.sums (get_or (adapted i l') k 0) (below_at (3 ^ i) (adapted i l') (adapted-small i l') k h)));
    }

pub left-over_both : (i c : ℕ) (l' l o t : List ℕ) (v w p q x y r s : List ℤ) (m : Option (Unit {0})) → Rising l' → Below (3 ^ i) l'
    → length x ≡ length l' → length y ≡ length l' → length r ≡ length l' → length s ≡ length l'
    → Gathered i l v c o t p → Gathered i l w c o t q
    → SubtractedBoth i (adapted i l') (take c o) (take c t) (take c p) (take c q) x y r s m
    → ResidualsBoth i l v w (adapted i l') x y r s m
left-over_both i c l' l o t v w p q x y r s (Some _) ri be lx ly lr ls G H (S, T, wr, ws) =
    (left_over i c l' l o t v p x r ri be lx lr G S, left_over i c l' l o t w q y s ri be ly ls H T, wr, ws)
left-over_both i c l' l o t v w p q x y r s None ri be lx ly lr ls G H f =
    f (residuals i l v (adapted i l') x) (residuals i l w (adapted i l') y) (subtracted i c l' l o t v p x ri be lx G)
    (subtracted i c l' l o t w q y ri be ly H)

pub gathered_within : (i n : ℕ) (l : List ℕ) (v : List ℤ) (o t : List ℕ) (u : List ℤ) → Gathered i l v n o t u → n ≤ length u
    → Within 256 (take n u)
gathered_within i n l v o t u G h =
    within_of 256 (take n u)
    (λ k q. let k' : k < n = omega (arith, length-take-le n u h) in rw (get_or-take n u k (pos 0) k') (G.small k k'))
