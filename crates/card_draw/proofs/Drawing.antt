-- Laws of drawn cards: how many coefficients there are, and that the writer takes what is drawn.
use mathlib.Core.Path.{◌≡◌, refl, sym, ap, ◌∙◌}
use mathlib.Core.Bool.{Bool, true, false, cond, ◌||◌, ◌&&◌}
use mathlib.Core.Logic.{⊎_elim}
use mathlib.Core.List.{List, ◌∷◌}
use Prim.Native.Nat.{ℕ, zero, suc, ◌+◌, ◌*◌, ◌≤◌, ◌<◌}
use native.Mathlib.Nat.{suc-mul, mul-le-mul}
use native.Mathlib.Omega.{arith}
use borrow.Author.Tests.{lt-ltb, le-ltb, ltb-false, eq-eqb}
use lib.Dec.{ltb, eqb}
use lib.IntN.{ℤ, pos, nat_abs}
use lib.ListN.{length, get_or, take, replicate, length-set, length-append, length-replicate}
use lib.Seq.{get_or-set_same, get_or-set_other, take_at, drop_at}
use Rattle.refusals.specs.Numbers.{wrong_count, ◌when◌}
use Rattle.integers.proofs.Tests.{eq_cases}
use Rattle.sequences.proofs.Sorted.{sorted_right, length-sorted, sorted_all}
use Rattle.generator.specs.Generator.{after, draws}
use Rattle.generator.proofs.Draws.{length-draws, draws-within}
use Rattle.refusals.proofs.Causes.{first_none, then_none, holds_not}
use Rattle.integers.proofs.Search.{or_false, left_false, right_false}
use Rattle.card_bytes.specs.Bytes.{wanted}
use Rattle.card_bytes.specs.Causes.{some, polynomial_cause, polynomials_cause, write_cause}
use Rattle.card_bytes.specs.Claim.{Rising}
use Rattle.card_bytes.proofs.Refused.{small_words, rising_words}
use Rattle.card_writer.specs.Writing.{writing}
use Rattle.std.proofs.Common.{◌≢◌}
use Rattle.refusals.specs.Refusals.{refusing}
use Rattle.refusals.proofs.Refusals.{unless_first}
use Rattle.card_draw.specs.Claim.{Counted}
use Rattle.card_draw.specs.Drawn.{top, drawn_polynomial, drawn_coefficients, drawn_points, drawn_card, draw_cause, drawing}

-- ---- the causes

module _ (s n d : ℕ) where
  pub by_count : (Counted s n → ⊥) → draw_cause s n d ≡ 3
  unfolding draw_cause
  by_count h = go (ltb s 1) (ltb 8 s) (ltb 64 n) refl refl refl
    where
      go : (a b c : Bool) → ltb s 1 ≡ a → ltb 8 s ≡ b → ltb 64 n ≡ c → draw_cause s n d ≡ 3
      go true b c e f g = rw e
      go false true c e f g = rw (e, f)
      go false false true e f g = rw (e, f, g)
      go false false false e f g =
          absurd (h (record { s_least = ltb-false s 1 e; s_most = ltb-false 8 s f; n_most = ltb-false 64 n g }))

  module _ (k : Counted s n) where
    pub by_degree : 6 < d → draw_cause s n d ≡ 16
    unfolding draw_cause
    by_degree h = rw (le-ltb s 1 k.s_least, le-ltb 8 s k.s_most, le-ltb 64 n k.n_most, lt-ltb 6 d h)

    pub by_none : d ≤ 6 → draw_cause s n d ≡ 0
    unfolding draw_cause
    by_none h = rw (le-ltb s 1 k.s_least, le-ltb 8 s k.s_most, le-ltb 64 n k.n_most, le-ltb 6 d h)

-- ---- how many coefficients there are

pub length_polynomial : (d σ : ℕ) → length (drawn_polynomial d σ) ≡ d + 1
unfolding drawn_polynomial
length_polynomial d σ = length-set (draws 19 9 (d + 1) σ) d _ ∙ length-draws 19 9 (d + 1) σ

pub length-coefficients : (s d σ : ℕ) → length (drawn_coefficients s d σ) ≡ s * (d + 1)
unfolding drawn_coefficients
length-coefficients zero d σ = sym (omega arith)
length-coefficients (suc s) d σ =
    let rest = drawn_coefficients s d (after (d + 1) σ) in
    omega (
      arith,
      length-append (drawn_polynomial d σ) rest,
      length_polynomial d σ,
      length-coefficients s d (after (d + 1) σ),
      suc-mul s (d + 1),
    )

-- ---- the coefficients

-- a top coefficient stays within limits that hold of it and of 1, and is 0 at most where it is the constant
top_within : (d : ℕ) (z : ℤ) (b : ℕ) → 1 ≤ b → nat_abs z ≤ b → nat_abs (top d z) ≤ b
top_within d z b one h = go (ltb 0 d && eqb (nat_abs z) 0)
  where
    go : (t : Bool) → nat_abs (cond t (pos 1) z) ≤ b
    go true = one
    go false = h

top_nonzero : (d : ℕ) (z : ℤ) → (ltb 0 d && eqb (nat_abs (top d z)) 0) ≡ false
top_nonzero d z = go (ltb 0 d) (eqb (nat_abs z) 0) refl
  where
    go : (a b : Bool) → eqb (nat_abs z) 0 ≡ b → (a && eqb (nat_abs (cond (a && b) (pos 1) z)) 0) ≡ false
    go true true e = refl
    go true false e = e
    go false b e = refl

pub polynomial_within : (d σ k : ℕ) → k < d + 1 → nat_abs (get_or (drawn_polynomial d σ) k (pos 0)) ≤ 9
unfolding drawn_polynomial
polynomial_within d σ k h =
    let l = draws 19 9 (d + 1) σ in
    let n = length-draws 19 9 (d + 1) σ in
    let t = top d (get_or l d (pos 0)) in
    let drawn : (j : ℕ) → j < d + 1 → nat_abs (get_or l j (pos 0)) ≤ 9 =
    λ j g. draws-within 19 9 (d + 1) σ (omega arith) j g 9 (omega arith) (omega arith) in
    ⊎_elim
    (λ w. rw (w.0, get_or-set_same l d t (pos 0) (omega arith)) (top_within d (get_or l d (pos 0)) 9 (omega arith) (drawn d (omega arith))))
    (λ w. rw (get_or-set_other l d k t (pos 0) w.0) (drawn k h))
    (eq_cases k d)

polynomial_topped : (d σ : ℕ) → (ltb 0 d && eqb (nat_abs (get_or (drawn_polynomial d σ) d (pos 0))) 0) ≡ false
unfolding drawn_polynomial
polynomial_topped d σ =
    let l = draws 19 9 (d + 1) σ in
    let n = length-draws 19 9 (d + 1) σ in
    rw (get_or-set_same l d (top d (get_or l d (pos 0))) (pos 0) (omega arith)) (top_nonzero d (get_or l d (pos 0)))

polynomial_accepted : (d σ : ℕ) → polynomial_cause d (drawn_polynomial d σ) ≡ 0
unfolding polynomial_cause
polynomial_accepted d σ =
    let p = drawn_polynomial d σ in
    let n = length_polynomial d σ in
    let small = (small_words p).1 (λ k h. omega (arith, polynomial_within d σ k (omega arith))) in
    rw (small, polynomial_topped d σ)

polynomials-accepted : (s d σ : ℕ) → polynomials_cause (replicate s d) (drawn_coefficients s d σ) ≡ 0
unfolding polynomials_cause drawn_coefficients
polynomials-accepted zero d σ = refl
polynomials-accepted (suc s) d σ =
    let p = drawn_polynomial d σ in
    let rest = drawn_coefficients s d (after (d + 1) σ) in
    let n = length_polynomial d σ in
    rw (take_at p rest (d + 1) n, drop_at p rest (d + 1) n, polynomial_accepted d σ) (polynomials-accepted s d (after (d + 1) σ))

-- ---- the counts

low-degrees : (s d : ℕ) → d ≤ 6 → some (ltb 6) (replicate s d) ≡ false
unfolding some
low-degrees zero d h = refl
low-degrees (suc s) d h = or_false (ltb 6 d) (some (ltb 6) (replicate s d)) (le-ltb 6 d h) (low-degrees s d h)

pub wanted-replicate : (s d : ℕ) → wanted (replicate s d) ≡ s * (d + 1)
unfolding wanted
wanted-replicate zero d = sym (omega arith)
wanted-replicate (suc s) d = omega (arith, wanted-replicate s d, suc-mul s (d + 1))

-- what a draw that is not refused says of s, n and d
pub record Allowed (s n d : ℕ) : Type 0 where
  pub s_least : 1 ≤ s
  pub s_most : s ≤ 8
  pub n_most : n ≤ 64
  pub d-most : d ≤ 6

pub allowed : (s n d : ℕ) → draw_cause s n d ≡ 0 → Allowed s n d
unfolding draw_cause
allowed s n d e =
    let e1 = then_none (wrong_count when (ltb s 1 || ltb 8 s)) _ e in
    let e2 = then_none (wrong_count when ltb 64 n) _ e1 in
    let t = holds_not 2 (ltb s 1 || ltb 8 s) (first_none _ _ e) in
    record {
      s_least = ltb-false s 1 (left_false (ltb s 1) (ltb 8 s) t);
      s_most = ltb-false 8 s (right_false (ltb s 1) (ltb 8 s) t);
      n_most = ltb-false 64 n (holds_not 2 (ltb 64 n) (first_none _ _ e1));
      d-most = ltb-false 6 d (holds_not 15 (ltb 6 d) e2);
    }

-- ---- the card

pub length-points : (n σ : ℕ) → length (drawn_points n σ) ≡ n
unfolding drawn_points
length-points n σ = length-sorted (draws 201 100 n σ) ∙ length-draws 201 100 n σ

pub points-rising : (n σ : ℕ) → Rising (drawn_points n σ)
unfolding drawn_points
points-rising n σ =
    let l = draws 201 100 n σ in
    let e = length-draws 201 100 n σ in
    record {
      limits = λ k h.
          sorted_all (λ z. nat_abs z ≤ 100) l
          (λ j g. draws-within 201 100 n σ (omega arith) j (omega arith) 100 (omega arith) (omega arith)) k
          (omega (arith, length-sorted l));
      rising = (sorted_right l).rising;
    }

-- the writer takes what is drawn
pub drawn-accepted : (seed s n d : ℕ) → draw_cause s n d ≡ 0
    → write_cause (replicate s d) (drawn_coefficients s d seed) (drawn_points n (after (s * (d + 1)) seed)) ≡ 0
unfolding write_cause
drawn-accepted seed s n d e =
    let a = allowed s n d e in
    let ps = drawn_points n (after (s * (d + 1)) seed) in
    let ds = replicate s d in
    let cs = drawn_coefficients s d seed in
    let many = length-replicate s d in
    rw (
      le-ltb (length ds) 1 (omega arith),
      le-ltb 8 (length ds) (omega arith),
      le-ltb 64 (length ps) (omega (arith, length-points n (after (s * (d + 1)) seed))),
      low-degrees s d a.d-most,
      eq-eqb (length cs) (wanted ds) (length-coefficients s d seed ∙ sym (wanted-replicate s d)),
      polynomials-accepted s d seed,
      (rising_words ps).1 (points-rising n (after (s * (d + 1)) seed)),
    )

-- ---- the call

-- there is room for the coefficients
pub room_most : (s n d : ℕ) → Allowed s n d → s * (d + 1) ≤ 56
room_most s n d a = let h : d + 1 ≤ 7 = omega (arith, a.d-most) in mul-le-mul a.s_most h

pub take-replicate : {A : Type 0} (n m : ℕ) (x : A) → n ≤ m → take n (replicate m x) ≡ replicate n x
take-replicate zero m x h = refl
take-replicate (suc n) zero x h = absurd (omega arith)
take-replicate (suc n) (suc m) x h = ap (λ l. x ∷ l) (take-replicate n m x (omega arith))

module _ (seed s n d : ℕ) (out : List ℕ) where
  pub drawing-refused : draw_cause s n d ≢ 0 → drawing seed s n d out ≡ (refusing (draw_cause s n d), out)
  unfolding drawing
  drawing-refused h = unless_first _ _ (draw_cause s n d) _ h

  -- a draw that is not refused writes a card
  pub drawing-writing : draw_cause s n d ≡ 0
      → drawing seed s n d out
      ≡ writing (replicate s d) (drawn_coefficients s d seed) (drawn_points n (after (s * (d + 1)) seed)) out
  unfolding drawing writing drawn_card
  drawing-writing e = rw (e, drawn-accepted seed s n d e)
