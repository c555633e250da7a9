-- One turn of the sum of terms: what the machine holds in it fits, and is the sum with one more term.
--
--   Turn c at x y xs ys i a b k v == term i, with the powers a and b and the coefficient k, is added to v, the sum of those before it; xs
--                                    and ys have the powers of x and of y
--   back z                        == z, read back from its bits
use mathlib.Core.Path.{◌≡◌, sym, ap, ap₂, ◌∙◌}
use mathlib.Core.List.{List, map}
use Prim.Native.Nat.{ℕ, ◌+◌, ◌≤◌, ◌<◌}
use native.Mathlib.Omega.{arith}
use lib.IntN.{ℤ, pos, nat_abs, ◌+ℤ◌, ◌*ℤ◌}
use lib.ListN.{get_or}
use mir.Syntax.{w64}
use mir.Val.{SFits, to_z, of_z}
use mir.Facts.{to_z-of_z}
use Rattle.integers.specs.Powers.{power}
use Rattle.integers.specs.Sums.{sum_to}
use Rattle.integers.proofs.I64.{fits_abs}
use Rattle.integers.proofs.Sums.{sum_to-step}
use Rattle.refusals.specs.Limits.{most_point}
use Rattle.signs.specs.Lists.{up_to}
use Rattle.layout.proofs.Contents.{map-up_to-at}
use Rattle.plane.specs.Format.{term_count, x_power, y_power, term_coefficient}
use Rattle.plane.specs.Body.{PlaneBody}
use Rattle.plane.specs.Values.{term_value, plane_value}
use Rattle.plane.proofs.Bounds.{power-fits, front_fits, term_value-most, terms-within}

abbrev back : ℤ → ℤ
back z = to_z w64 (of_z w64 z)

pub record Turn (c : List ℕ) (at : ℕ) (x y : ℤ) (xs ys : List ℤ) (i a b : ℕ) (k : ℤ) (v : ℕ) : Type 0 where
  pub sound : PlaneBody c at
  pub near_x : nat_abs x ≤ most_point
  pub near_y : nat_abs y ≤ most_point
  pub fits_x : SFits w64 x
  pub fits_y : SFits w64 y
  pub powers_x : xs ≡ map (power (back x)) (up_to 7)
  pub powers_y : ys ≡ map (power (back y)) (up_to 7)
  pub in_body : i < term_count c at
  pub a_is : a ≡ x_power c at i
  pub b_is : b ≡ y_power c at i
  pub k_is : k ≡ term_coefficient c at i
  pub v_is : to_z w64 v ≡ sum_to (term_value c at (back x, back y)) i

-- a power, read off the list
read_power : (x : ℤ) → nat_abs x ≤ most_point → SFits w64 x → (xs : List ℤ) → xs ≡ map (power (back x)) (up_to 7) → (a : ℕ) → a < 7
    → back (get_or xs a (pos 0)) ≡ power x a
read_power x n f xs e a h =
    let r = ap (λ (l : List ℤ). get_or l a (pos 0)) e ∙ map-up_to-at (power (back x)) 7 a (pos 0) h ∙ ap (λ (z : ℤ). power z a)
    (to_z-of_z f) in
    ap back r ∙ to_z-of_z (power-fits x n a (omega arith))

module _ {c : List ℕ} {at : ℕ} {x y : ℤ} {xs ys : List ℤ} {i a b : ℕ} {k : ℤ} {v : ℕ} (t : Turn c at x y xs ys i a b k v) where
  pub x-low : a < 7
  x-low = omega (arith, t.sound.terms.low i t.in_body, t.a_is)

  pub y-low : b < 7
  y-low = omega (arith, t.sound.terms.low i t.in_body, t.b_is)

  -- ---- the coefficient times the power of X
  abbrev front : ℤ
  front = back k *ℤ back (get_or xs a (pos 0))

  coefficient_back : back k ≡ k
  coefficient_back = to_z-of_z (fits_abs k (rw t.k_is (omega (arith, t.sound.small i t.in_body))))

  front_is : front ≡ term_coefficient c at i *ℤ power x (x_power c at i)
  front_is =
      ap₂ ◌*ℤ◌ (coefficient_back ∙ t.k_is)
      (read_power x t.near_x t.fits_x xs t.powers_x a x-low ∙ ap (power x) t.a_is)

  pub fits-front : SFits w64 front
  fits-front =
      let s = t.sound in
      rw front_is (front_fits (term_coefficient c at i) x (x_power c at i) t.near_x (s.small i t.in_body)
      (omega (arith, s.terms.low i t.in_body)))

  -- ---- the term
  abbrev term : ℤ
  term = back front *ℤ back (get_or ys b (pos 0))

  term_is : term ≡ term_value c at (x, y) i
  term_is =
      ap₂ ◌*ℤ◌ (to_z-of_z fits-front ∙ front_is)
      (read_power y t.near_y t.fits_y ys t.powers_y b y-low ∙ ap (power y) t.b_is)

  pub fits_term : SFits w64 term
  fits_term = rw term_is (fits_abs _ (omega (arith, term_value-most c at t.sound (x, y) t.near_x t.near_y i t.in_body)))

  -- ---- the sum with it
  abbrev next : ℤ
  next = to_z w64 v +ℤ back term

  same_point : (n : ℕ) → sum_to (term_value c at (back x, back y)) n ≡ sum_to (term_value c at (x, y)) n
  same_point n = rw (to_z-of_z t.fits_x, to_z-of_z t.fits_y)

  next_is : next ≡ sum_to (term_value c at (x, y)) (i + 1)
  next_is = ap₂ ◌+ℤ◌ (t.v_is ∙ same_point i) (to_z-of_z fits_term ∙ term_is) ∙ sym (sum_to-step (term_value c at (x, y)) i)

  pub fits_next : SFits w64 next
  fits_next =
      rw next_is (fits_abs _
      (omega (
        arith,
        terms-within c at t.sound (x, y) t.near_x t.near_y (i + 1) (omega (arith, t.in_body)),
        t.in_body,
        t.sound.terms.whole.few,
      )))

  pub added : to_z w64 (of_z w64 next) ≡ sum_to (term_value c at (back x, back y)) (i + 1)
  added = to_z-of_z fits_next ∙ next_is ∙ sym (same_point (i + 1))

-- ---- all terms added
pub all_added : (c : List ℕ) (at : ℕ) (x y : ℤ) (i v : ℕ) → SFits w64 x → SFits w64 y → i ≡ term_count c at
    → to_z w64 v ≡ sum_to (term_value c at (back x, back y)) i → to_z w64 v ≡ plane_value c at (x, y)
unfolding plane_value
all_added c at x y i v f g h e = e ∙ rw (to_z-of_z f, to_z-of_z g, h)
