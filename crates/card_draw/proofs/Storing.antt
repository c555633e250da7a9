-- What the code keeps that stores drawn polynomials.
use mathlib.Core.Path.{◌≡◌, refl, ap, ◌∙◌}
use mathlib.Core.List.{List}
use Prim.Native.Nat.{ℕ, suc, ◌+◌, ◌*◌, ◌-◌, ◌≤◌, ◌<◌}
use native.Mathlib.Nat.{suc-mul, mul-le-mul_left}
use native.Mathlib.Omega.{arith}
use lib.IntN.{ℤ, pos}
use lib.ListN.{length, get_or, set}
use lib.Seq.{sets, length-sets}
use Rattle.sequences.proofs.Stores.{sets_append, sets_all, set-within, get_d_sets}
use Rattle.sequences.specs.Sorted.{sorted}
use Rattle.generator.specs.Generator.{after, draws}
use Rattle.generator.proofs.Draws.{length-draws, after-add}
use Rattle.card_draw.specs.Drawn.{top, drawn_polynomial, drawn_coefficients, drawn_points}
use Rattle.card_draw.proofs.Drawing.{length_polynomial}

-- ---- a polynomial stored: its numbers are drawn, then the top one is mended where it stands

pub polynomial_stored : (out₀ out : List ℤ) (at d σ : ℕ) (z : ℤ) → at + (d + 1) ≤ length out₀
    → out ≡ sets out₀ at (draws 19 9 (d + 1) σ) → z ≡ top d (get_or out (at + d) (pos 0))
    → set out (at + d) z ≡ sets out₀ at (drawn_polynomial d σ)
unfolding drawn_polynomial
polynomial_stored out₀ out at d σ z h e f =
    let l = draws 19 9 (d + 1) σ in
    let n = length-draws 19 9 (d + 1) σ in
    let g : get_or out (at + d) (pos 0) ≡ get_or l d (pos 0) =
    rw e (get_d_sets l out₀ at d (pos 0) (omega arith) (omega arith)) in
    rw (f, g, e) (set-within l out₀ at d _ (omega arith))

-- ---- the loop that stores the polynomials

module _ (s d σ : ℕ) (out₀ : List ℤ) where
  -- j polynomials are stored: what is left to draw, stored from there on, gives the end
  pub record Storing (out : List ℤ) (next j : ℕ) : Type 0 where
    pub long : length out ≡ length out₀
    pub left : sets out (j * (d + 1)) (drawn_coefficients (s - j) d next) ≡ sets out₀ 0 (drawn_coefficients s d σ)
    pub state : after ((s - j) * (d + 1)) next ≡ after (s * (d + 1)) σ

  pub storing_first : Storing out₀ σ 0
  storing_first =
      let e : 0 * (d + 1) ≡ 0 = omega arith in
      let f : s - 0 ≡ s = omega arith in
      record { long = refl; left = rw (e, f); state = rw f }

  module _ (out : List ℤ) (next j : ℕ) (h : j < s) where
    one_more : s - j ≡ suc (s - (j + 1))
    one_more = omega arith

    -- there is room for polynomial j
    pub storing_room : j * (d + 1) + (d + 1) ≤ s * (d + 1)
    storing_room = let k : j + 1 ≤ s = omega arith in omega (arith, mul-le-mul_left (d + 1) k)

    pub storing_next : Storing out next j → (out' : List ℤ) (next' : ℕ) → next' ≡ after (d + 1) next
        → out' ≡ sets out (j * (d + 1)) (drawn_polynomial d next) → Storing out' next' (j + 1)
    unfolding drawn_coefficients
    storing_next w out' next' p q =
        let t = s - (j + 1) in
        let at = j * (d + 1) in
        let l = length_polynomial d next in
        let e : suc t * (d + 1) ≡ (d + 1) + t * (d + 1) = omega (arith, suc-mul t (d + 1)) in
        let f : (j + 1) * (d + 1) ≡ at + (d + 1) = omega arith in
        record {
          long = ap length q ∙ length-sets out at (drawn_polynomial d next) ∙ w.long;
          left = rw (f, q, p, ← l) (sets_append (drawn_polynomial d next) _ out _ ∙ rw (one_more, ← l) at w.left);
          state = rw (p, ← after-add (d + 1) (t * (d + 1)) next, ← e) (rw one_more at w.state);
        }

  pub storing_last : (out : List ℤ) (next : ℕ) → Storing out next s
      → (next ≡ after (s * (d + 1)) σ) × (out ≡ sets out₀ 0 (drawn_coefficients s d σ))
  unfolding drawn_coefficients after
  storing_last out next w =
      let e : s - s ≡ 0 = omega arith in
      let f : 0 * (d + 1) ≡ 0 = omega arith in
      (rw (e, f) at w.state, rw e at w.left)

-- ---- the points stored: as many as there is room for, then in rising order

pub points_stored : (out₀ out out' : List ℤ) (σ : ℕ) → out ≡ sets out₀ 0 (draws 201 100 (length out₀) σ) → out' ≡ sorted out
    → out' ≡ drawn_points (length out₀) σ
unfolding drawn_points
points_stored out₀ out out' σ e f =
    let n = length-draws 201 100 (length out₀) σ in f ∙ ap sorted (e ∙ sets_all (draws 201 100 (length out₀) σ) out₀ n)
