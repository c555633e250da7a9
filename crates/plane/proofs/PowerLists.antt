-- The powers of a coordinate in a list of seven: the list as it is filled.
use mathlib.Core.Path.{◌≡◌, refl, sym, ap, ap₂, ◌∙◌}
use mathlib.Core.Logic.{⊎_elim}
use mathlib.Core.List.{List, [], ◌∷◌, map}
use Prim.Native.Nat.{ℕ, zero, suc, ◌+◌, ◌-◌, ◌≤◌, ◌<◌}
use native.Mathlib.Omega.{arith}
use lib.IntN.{ℤ, pos, nat_abs, ◌*ℤ◌}
use lib.ListN.{length, get_or, set, length-map}
use lib.Seq.{get_or-set_same, get_or-set_other, ext_get_or}
use mir.Syntax.{w64}
use mir.Val.{SFits, to_z, of_z}
use mir.Facts.{to_z-of_z}
use Rattle.integers.specs.Powers.{power}
use Rattle.integers.proofs.Tests.{eq_cases}
use Rattle.refusals.specs.Limits.{most_point}
use Rattle.signs.specs.Lists.{up_to}
use Rattle.layout.proofs.Contents.{up_to-long, map-up_to-at}
use Rattle.plane.proofs.Bounds.{power-fits}

abbrev ones : List ℤ
ones = pos 1 ∷ pos 1 ∷ pos 1 ∷ pos 1 ∷ pos 1 ∷ pos 1 ∷ pos 1 ∷ []

-- the power 0 stands there from the start
pub from_one : (x : ℤ) (k : ℕ) → k < 1 → get_or ones k (pos 0) ≡ power x k
unfolding power
from_one x zero h = refl
from_one x (suc k) h = absurd (omega arith)

power_next : (x : ℤ) (i : ℕ) → 1 ≤ i → x *ℤ power x (i - 1) ≡ power x i
unfolding power
power_next x zero h = absurd (omega arith)
power_next x (suc i) h = let e : suc i - 1 ≡ i = omega arith in rw e

-- what the machine holds in a turn, which stores the power i of x into p
module _ (x : ℤ) (b : nat_abs x ≤ most_point) (f : SFits w64 x) (p : List ℤ) (i : ℕ) (l : 1 ≤ i) (h : i < 7)
    (e : (k : ℕ) → k < i → get_or p k (pos 0) ≡ power (to_z w64 (of_z w64 x)) k) where
  last : to_z w64 (of_z w64 (get_or p (i - 1) (pos 0))) ≡ power x (i - 1)
  last =
      let r = e (i - 1) (omega arith) ∙ ap (λ (z : ℤ). power z (i - 1)) (to_z-of_z f) in
      ap (λ (z : ℤ). to_z w64 (of_z w64 z)) r ∙ to_z-of_z (power-fits x b (i - 1) (omega arith))

  product : to_z w64 (of_z w64 x) *ℤ to_z w64 (of_z w64 (get_or p (i - 1) (pos 0))) ≡ power x i
  product = ap₂ ◌*ℤ◌ (to_z-of_z f) last ∙ power_next x i l

  pub product_fits : SFits w64 (to_z w64 (of_z w64 x) *ℤ to_z w64 (of_z w64 (get_or p (i - 1) (pos 0))))
  product_fits = rw product (power-fits x b i (omega arith))

  pub stored : length p ≡ 7 → (k : ℕ) → k < i + 1
      → get_or (set p i (to_z w64 (of_z w64 (to_z w64 (of_z w64 x) *ℤ to_z w64 (of_z w64 (get_or p (i - 1) (pos 0))))))) k (pos 0)
      ≡ power (to_z w64 (of_z w64 x)) k
  stored n k g =
      ⊎_elim
      (λ w. rw w.0
      (get_or-set_same p i _ (pos 0) (omega (arith, n)) ∙ to_z-of_z product_fits ∙ product ∙ sym (ap (λ (z : ℤ). power z i) (to_z-of_z f))))
      (λ w. get_or-set_other p i k _ (pos 0) w.0 ∙ e k (omega (arith, w.0)))
      (eq_cases k i)

-- all stored
seven : (x : ℤ) → length (map (power x) (up_to 7)) ≡ 7
seven x = length-map (up_to 7) (power x) ∙ up_to-long 7

pub filled : (x : ℤ) → SFits w64 x → (p : List ℤ) (i : ℕ) → 7 ≤ i → length p ≡ 7
    → ((k : ℕ) → k < i → get_or p k (pos 0) ≡ power (to_z w64 (of_z w64 x)) k) → p ≡ map (power x) (up_to 7)
filled x f p i h n e =
    ext_get_or (pos 0) p (map (power x) (up_to 7)) (n ∙ sym (seven x))
    (λ k l. e k (omega (arith, n)) ∙ ap (λ (z : ℤ). power z k) (to_z-of_z f) ∙ sym (map-up_to-at (power x) 7 k (pos 0) (omega (arith, n))))
