-- The checks in their order: what each finding, after those before it found nothing, makes of the whole.
use mathlib.Core.Path.{◌≡◌, refl}
use mathlib.Core.Bool.{Bool, true, false, not}
use mathlib.Core.List.{List}
use Prim.Native.Nat.{ℕ}
use borrow.Author.Tests.{ltb-false, le-ltb, eq-eqb, ne_eqb}
use lib.Dec.{ltb, eqb}
use lib.IntN.{ℤ}
use lib.ListN.{length}
use Rattle.refusals.specs.Numbers.{wrong_length, wrong_count, wrong_point, wrong_degree, ◌when◌, ◌▸◌}
use Rattle.refusals.specs.Limits.{most_polynomials, most_points, most_degree}
use Rattle.card_bytes.specs.Bytes.{wanted}
use Rattle.card_bytes.specs.Causes.{some, wrong_points, polynomials_cause, write_cause}
use Rattle.card_bytes.specs.Claim.{Counted}

-- ---- all of them

module _ (ds : List ℕ) (cs : List ℤ) (ps : List ℤ) where
  pub write_count : (Counted ds ps → ⊥) → write_cause ds cs ps ≡ wrong_count
  unfolding write_cause
  write_count h = go (ltb (length ds) 1) (ltb most_polynomials (length ds)) (ltb most_points (length ps)) refl refl refl
    where
      go : (a b c : Bool) → ltb (length ds) 1 ≡ a → ltb most_polynomials (length ds) ≡ b → ltb most_points (length ps) ≡ c
          → write_cause ds cs ps ≡ wrong_count
      go true b c e f g = rw e
      go false true c e f g = rw (e, f)
      go false false true e f g = rw (e, f, g)
      go false false false e f g =
          absurd (h (record { s_least = ltb-false _ _ e; s_most = ltb-false _ _ f; n_most = ltb-false _ _ g }))

  module _ (c : Counted ds ps) where
    write_counted : write_cause ds cs ps
        ≡ (wrong_degree when some (ltb most_degree) ds
        ▸ wrong_length when not (eqb (length cs) (wanted ds))
        ▸ polynomials_cause ds cs
        ▸ wrong_point when wrong_points ps)
    unfolding write_cause
    write_counted =
        rw (
          le-ltb (length ds) 1 c.s_least,
          le-ltb most_polynomials (length ds) c.s_most,
          le-ltb most_points (length ps) c.n_most,
        )

    pub write_degree : some (ltb most_degree) ds ≡ true → write_cause ds cs ps ≡ wrong_degree
    write_degree h = rw (write_counted, h)

    pub write_length : some (ltb most_degree) ds ≡ false → (length cs ≡ wanted ds → ⊥) → write_cause ds cs ps ≡ wrong_length
    write_length l h = rw (write_counted, l, ne_eqb (length cs) (wanted ds) h)

    pub write_numbers : some (ltb most_degree) ds ≡ false → length cs ≡ wanted ds
        → write_cause ds cs ps ≡ (polynomials_cause ds cs ▸ wrong_point when wrong_points ps)
    write_numbers l h = rw (write_counted, l, eq-eqb (length cs) (wanted ds) h)
