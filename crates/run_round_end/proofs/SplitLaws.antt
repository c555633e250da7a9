-- Laws for the code of one row's counts: the test as the code makes it, and that every number on the way fits.
use mathlib.Core.Path.{◌≡◌, refl}
use mathlib.Core.Bool.{true, false, ◌&&◌}
use Prim.Native.Nat.{ℕ, ◌+◌, ◌%◌, ◌≤◌}
use lib.Dec.{T, eqb}
use lib.IntN.{ℤ, pos, nat_abs, ◌+ℤ◌, ◌-ℤ◌}
use lib.Signed.{le_z, non_neg}
use mir.Syntax.{w16}
use mir.Val.{Fits, SFits}
use Rattle.refusals.specs.Limits.{most_points}
use Rattle.integers.proofs.Parts.{up, dn, parts, side, sum, dif, int, same_test}
use Rattle.signs.proofs.Orders.{both_left, both_right}
use Rattle.rounds.specs.Moments.{splits}

-- 0 ≤ g ≤ d and −g ≤ e ≤ g
pub record Bounded (d : ℕ) (e g : ℤ) : Type 0 where
  pub most : up g ≤ d
  pub least : dn g ≡ 0
  pub inner : up e + dn e ≤ up g

module _ (d : ℕ) (e g : ℤ) where
  -- ---- the test

  -- the test as the code makes it
  pub splits_is : splits d e g ≡ (le_z g (pos d) && le_z (pos 0) (g +ℤ e) && le_z e g && eqb (nat_abs (g +ℤ e) % 2) 0)
  unfolding splits
  splits_is =
      let c : le_z (pos 0) (g -ℤ e) ≡ le_z e g =
      same_test (λ t. let u : le_z (pos 0) (g -ℤ e) ≡ true = t in omega (int, dif g e))
      (λ t. let u : le_z (pos 0) (g -ℤ e) ≡ false = t in omega (int, dif g e))
      in
      rw c refl

  pub splits_bounded : splits d e g ≡ true → Bounded d e g
  unfolding splits
  splits_bounded t =
      let x = both_left (le_z g (pos d) && le_z (pos 0) (g +ℤ e) && le_z (pos 0) (g -ℤ e)) (eqb (nat_abs (g +ℤ e) % 2) 0) t in
      let c = both_right (le_z g (pos d) && le_z (pos 0) (g +ℤ e)) (le_z (pos 0) (g -ℤ e)) x in
      let y = both_left (le_z g (pos d) && le_z (pos 0) (g +ℤ e)) (le_z (pos 0) (g -ℤ e)) x in
      let b = both_right (le_z g (pos d)) (le_z (pos 0) (g +ℤ e)) y in
      let a = both_left (le_z g (pos d)) (le_z (pos 0) (g +ℤ e)) y in
      record {
        most = omega (int, sum g e, dif g e, side g, side e);
        least = omega (int, sum g e, dif g e, side g, side e);
        inner = omega (int, sum g e, dif g e, side g, side e);
      }

  -- ---- what fits

  module _ (h : d ≤ most_points) (B : Bounded d e g) where
    pub zero-fits : SFits w16 (pos d -ℤ g)
    zero-fits = omega (int, dif (pos d) g, parts (pos d -ℤ g))

    pub plus_fits : SFits w16 (g +ℤ e)
    plus_fits = omega (int, sum g e, parts (g +ℤ e))

    pub minus-fits : SFits w16 (g -ℤ e)
    minus-fits = omega (int, dif g e, parts (g -ℤ e))

    pub zero-whole : T (non_neg (pos d -ℤ g)) × Fits w16 (nat_abs (pos d -ℤ g))
    zero-whole = (omega (int, dif (pos d) g, side (pos d -ℤ g)), omega (int, dif (pos d) g, side (pos d -ℤ g), parts (pos d -ℤ g)))

    pub plus_whole : T (non_neg (g +ℤ e)) × Fits w16 (nat_abs (g +ℤ e))
    plus_whole = (omega (int, sum g e, side (g +ℤ e)), omega (int, sum g e, parts (g +ℤ e)))

    pub minus-whole : T (non_neg (g -ℤ e)) × Fits w16 (nat_abs (g -ℤ e))
    minus-whole = (omega (int, dif g e, side (g -ℤ e)), omega (int, dif g e, parts (g -ℤ e)))
