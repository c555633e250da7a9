-- `query::mark` meets its contract: the words hold the bits of the distinct points from k on.
use mathlib.Core.Path.{◌≡◌, sym, ap, ◌∙◌}
use mathlib.Core.List.{List}
use Prim.Native.Nat.{ℕ, ◌+◌, ◌*◌, ◌-◌, ◌^◌, ◌≤◌, ◌<◌}
use native.Mathlib.Omega.{arith}
use borrow.Author.Rules.{rules}
use lib.ListN.{length, get_or, drop, length-map}
use Rattle.signs.specs.Signs.{sign_digit}
use Rattle.signs.specs.Bits.{bit_of}
use Rattle.plane.specs.Contents.{card_point, contents_of}
use Rattle.card.specs.Sound.{Sound}
use Rattle.card_points.specs.Places.{Placed}
use Rattle.card_points.proofs.Distinct.{placed-many, placed-few, placed_there, placed_at}
use Rattle.query.specs.Opened.{word_of, point_bits}
use Rattle.query.proofs.Words.{word_none, word_turn, word_room}
use Rattle.query.proofs.Opening.{bits_small}
use Rattle.query.proofs.mark.Goals as goal
use Rattle.query.proofs.mark.Goals.{After-sign-d}

abbrev bits : List ℕ → ℕ → ℕ → List ℕ
bits c d j = point_bits (contents_of c) d j

module _ (c : List ℕ) (S : Sound c) (at : List ℕ) (n : ℕ) (P : Placed c at n) where
  bits_long : (d j : ℕ) → length (bits c d j) ≡ n
  bits_long d j = length-map (contents_of c).points _ ∙ sym (placed-many c S at n P)

  -- one turn: the bit of point k − 1, by the digit t of the sign there, for which there is room
  module _ (d j k x : ℕ) (h : 0 < k) (e : x ≡ word_of (drop k (bits c d j))) where
    turned : (t b : ℕ) → k ≤ n → b ≡ bit_of t d → t ≡ sign_digit ((contents_of c).value j (card_point c (get_or at (k - 1) 0)))
        → 2 * x + b ≡ word_of (drop (k - 1) (bits c d j))
    turned t b g eb et =
        word_turn (bits c d j) k x b h (omega (arith, bits_long d j))
        (eb ∙ ap (λ (y : ℕ). bit_of y d) et
        ∙ sym (placed_at c S at n P (λ y. bit_of (sign_digit ((contents_of c).value j y)) d) (k - 1) 0 (omega arith))) e

    roomy : 2 * x + 1 < 2 ^ 64
    roomy = word_room (bits c d j) (bits_small (contents_of c) d j) k x h e (omega (arith, bits_long d j, placed-few c S at n P))

pub loop-k-init : goal.loop-k-init
loop-k-init c =
    let w = c.args.card.now in
    let j = c.args.j in
    let n = c.args.n in
    let P = c.requires.3 in (
      omega arith,
      word_none (bits w 1 j) n (omega (arith, bits_long w c.requires.0 _ n P 1 j)),
      word_none (bits w 2 j) n (omega (arith, bits_long w c.requires.0 _ n P 2 j)),
    )

pub sign-d-requires : goal.sign-d-requires
sign-d-requires c =
    let k = c.loop-k.k in (
      c.requires.0,
      c.requires.1,
      c.coefficients-p.ensures,
      c.requires.2,
      rw c.from.ensures (placed_there _ c.requires.0 _ c.args.n c.requires.3 (k - 1) (omega arith)),
    )

-- the digit of the sign at the turn's point, and room for its bit
record Turn (c at : List ℕ) (j k d positive negative : ℕ) : Type 0 where
  pub digit : d ≡ sign_digit ((contents_of c).value j (card_point c (get_or at (k - 1) 0)))
  pub room : (2 * positive + 1 < 2 ^ 64) × (2 * negative + 1 < 2 ^ 64)

turn : (c : After-sign-d) →
    Turn c.args.card.now c.args.at.now c.args.j c.loop-k.k c.sign-d.result c.loop-k.positive c.loop-k.negative
turn c =
    let h : 0 < c.loop-k.k = omega arith in
    let w = c.args.card.now in
    let j = c.args.j in
    let n = c.args.n in
    let S = c.requires.0 in
    let P = c.requires.3 in
    record {
      digit = c.sign-d.ensures ∙ ap (λ (k : ℕ). sign_digit ((contents_of w).value j (card_point w k))) c.from.ensures;
      room = (roomy w S _ n P 1 j c.loop-k.k _ h c.loop-k.invariant.1, roomy w S _ n P 2 j c.loop-k.k _ h c.loop-k.invariant.2);
    }

pub overflow_mul-positive : goal.overflow_mul-positive
overflow_mul-positive c = let t = turn c in search rules

pub overflow_add-positive : goal.overflow_add-positive
overflow_add-positive c = let t = turn (goal.at.overflow_add-positive c).After-sign-d in search rules

pub overflow_mul-negative : goal.overflow_mul-negative
overflow_mul-negative c = let t = turn (goal.at.overflow_mul-negative c).After-sign-d in search rules

pub overflow_add-negative : goal.overflow_add-negative
overflow_add-negative c = let t = turn (goal.at.overflow_add-negative c).After-sign-d in search rules

pub loop-k-preserved : goal.loop-k-preserved
loop-k-preserved c =
    let t = turn (goal.at.loop-k-preserved c).After-sign-d in
    let h : 0 < c.loop-k.k = omega arith in
    let w = c.args.card.now in
    let j = c.args.j in
    let n = c.args.n in
    let S = c.requires.0 in
    let P = c.requires.3 in
    let g : c.loop-k.k ≤ n = omega arith in (
      omega arith,
      turned w S _ n P 1 j c.loop-k.k c.loop-k.positive h c.loop-k.invariant.1 _ _ g c.bit.ensures.0 t.digit,
      turned w S _ n P 2 j c.loop-k.k c.loop-k.negative h c.loop-k.invariant.2 _ _ g c.bit-in-loop-k.ensures.0 t.digit,
    )
