-- Whole numbers on a list of patterns, one each, as a weight: `weighted` is the tally of it.
use mathlib.Core.Path.{◌≡◌, refl, ap₂, ◌∙◌}
use mathlib.Core.Logic.{◌≢◌}
use mathlib.Core.List.{List, [], ◌∷◌}
use Prim.Native.Nat.{ℕ, zero, suc, ◌+◌, ◌*◌, ◌^◌, ◌/◌, ◌%◌, ◌<◌}
use native.Mathlib.Omega.{arith}
use native.Mathlib.Decide.{ℕ_discrete, dec_lt}
use lib.IntN.{ℤ, pos, negsuc, neg_ℤ, ◌+ℤ◌, ◌*ℤ◌, zero-*ℤ}
use lib.ListN.{length}
use Rattle.integers.proofs.Parts.{up, dn}
use Rattle.integers.proofs.Diff.{Diff, diff_same, diff_move, diff_neg, diff_add, one-*ℤ, minus-*ℤ}
use Rattle.signs.specs.Lists.{times, Below, Rising}
use Rattle.integers.specs.Powers.{power}
use Rattle.signs.specs.Signs.{sign_of, sign, weighted}
use Rattle.signs.proofs.Lists.{times-nil, times-same, times_other}
use Rattle.signs.proofs.Tallies.{tally, tally_ext, none, tally_none, plus, tally_plus}
use Rattle.signs.proofs.Queries.{point, sign-tally}

-- ---- signs

pub data IsSign : ℤ → Type 0 where
  sign-0 : IsSign (pos 0)
  sign-+ : IsSign (pos 1)
  sign-− : IsSign (negsuc 0)

sign-mul : {x y : ℤ} → IsSign x → IsSign y → IsSign (x *ℤ y)
sign-mul sign-0 sign-0 = sign-0
sign-mul sign-0 sign-+ = sign-0
sign-mul sign-0 sign-− = sign-0
sign-mul sign-+ sign-0 = sign-0
sign-mul sign-+ sign-+ = sign-+
sign-mul sign-+ sign-− = sign-−
sign-mul sign-− sign-0 = sign-0
sign-mul sign-− sign-+ = sign-−
sign-mul sign-− sign-− = sign-+

sign_of-sign : (d : ℕ) → IsSign (sign_of d)
unfolding sign_of
sign_of-sign zero = sign-0
sign_of-sign (suc zero) = sign-+
sign_of-sign (suc (suc d)) = sign-−

power-sign : (z : ℤ) (k : ℕ) → IsSign z → IsSign (power z k)
unfolding power
power-sign z zero h = sign-+
power-sign z (suc k) h = sign-mul h (power-sign z k h)

pub sign-sign : (s α σ : ℕ) → IsSign (sign s α σ)
unfolding sign
sign-sign zero α σ = sign-+
sign-sign (suc s) α σ = sign-mul (power-sign _ (α / 3 ^ s) (sign_of-sign (σ / 3 ^ s))) (sign-sign s (α % 3 ^ s) (σ % 3 ^ s))

pub diff_parts : (z : ℤ) → Diff z (up z) (dn z)
diff_parts (pos k) = record { by = omega arith }
diff_parts (negsuc k) = record { by = omega arith }

-- a sign times a whole number
sign-times : (x w : ℤ) (a b k l : ℕ) → IsSign x → Diff x a b → Diff w k l → Diff (x *ℤ w) (k * a + l * b) (k * b + l * a)
sign-times x w a b k l sign-0 d e = rw zero-*ℤ (record { by = same d.by })
  where
    same : a ≡ 0 + b → k * a + l * b ≡ 0 + (k * b + l * a)
    same f = let g : a ≡ b = omega arith in rw g (omega arith)
sign-times x w a b k l sign-+ d e = rw one-*ℤ (diff_move w e (shifted d.by))
  where
    shifted : a ≡ 1 + b → k + (k * b + l * a) ≡ (k * a + l * b) + l
    shifted f = rw f (omega arith)
sign-times x w a b k l sign-− d e = rw minus-*ℤ (diff_move (neg_ℤ w) (diff_neg w e) (shifted d.by))
  where
    shifted : b ≡ 1 + a → l + (k * b + l * a) ≡ (k * a + l * b) + k
    shifted f = rw f (omega arith)

-- ---- a weight k times over

scaled : ℕ → (ℕ → ℕ) → ℕ → ℕ
scaled k p q = k * p q

scale_up : (s α k : ℕ) (p : ℕ → ℕ) → tally s α (scaled k p) none ≡ k * tally s α p none
unfolding scaled
scale_up s α zero p = tally_ext s α _ none none none (λ q h. omega arith) (λ q h. refl) ∙ tally_none s α ∙ omega arith
scale_up s α (suc k) p =
    tally_ext s α (scaled (suc k) p) (plus p (scaled k p)) none (plus none none) (λ q h. omega arith) (λ q h. refl)
    ∙ tally_plus s α p (scaled k p) none none ∙ omega (arith, scale_up s α k p)

scale_down : (s α k : ℕ) (p : ℕ → ℕ) → tally s α none (scaled k p) ≡ k * tally s α none p
unfolding scaled
scale_down s α zero p = tally_ext s α none none _ none (λ q h. refl) (λ q h. omega arith) ∙ tally_none s α ∙ omega arith
scale_down s α (suc k) p =
    tally_ext s α none (plus none none) (scaled (suc k) p) (plus p (scaled k p)) (λ q h. refl) (λ q h. omega arith)
    ∙ tally_plus s α none none p (scaled k p) ∙ omega (arith, scale_down s α k p)

halves : (s α : ℕ) (p n : ℕ → ℕ) → tally s α p n ≡ tally s α p none + tally s α none n
halves s α p n =
    tally_ext s α p (plus p none) n (plus none n) (λ q h. omega arith) (λ q h. omega arith) ∙ tally_plus s α p none none n

-- ---- the weight: `part f L c` has at each pattern of L the part f, `up` or `dn`, of its number in c

pub part : (ℤ → ℕ) → List ℕ → List ℤ → ℕ → ℕ
part f [] c q = 0
part f (σ ∷ L) [] q = 0
part f (σ ∷ L) (w ∷ c) q = scaled (f w) (point σ) q + part f L c q

pub weighted-tally : (s α : ℕ) (L : List ℕ) (c : List ℤ) → α < 3 ^ s → Below (3 ^ s) L
    → Diff (weighted s L c α) (tally s α (part up L c) (part dn L c)) (tally s α (part dn L c) (part up L c))
unfolding weighted part Below
weighted-tally s α [] c a b = record { by = omega arith }
weighted-tally s α (σ ∷ L) [] a b = record { by = omega arith }
weighted-tally s α (σ ∷ L) (w ∷ c) a b =
    step (sign-times (sign s α σ) w _ _ (up w) (dn w) (sign-sign s α σ) (sign-tally s α σ a b.0) (diff_parts w))
    (weighted-tally s α L c a b.1)
  where
    A : ℕ
    A = tally s α (point σ) none

    B : ℕ
    B = tally s α none (point σ)

    one : (k l : ℕ) → tally s α (scaled k (point σ)) (scaled l (point σ)) ≡ k * A + l * B
    one k l = halves s α (scaled k (point σ)) (scaled l (point σ)) ∙ ap₂ ◌+◌ (scale_up s α k (point σ)) (scale_down s α l (point σ))

    step : Diff (sign s α σ *ℤ w) (up w * A + dn w * B) (up w * B + dn w * A)
        → Diff (weighted s L c α) (tally s α (part up L c) (part dn L c)) (tally s α (part dn L c) (part up L c))
        → Diff ((sign s α σ *ℤ w) +ℤ weighted s L c α) (tally s α (part up (σ ∷ L) (w ∷ c)) (part dn (σ ∷ L) (w ∷ c)))
        (tally s α (part dn (σ ∷ L) (w ∷ c)) (part up (σ ∷ L) (w ∷ c)))
    step d e =
        diff_move ((sign s α σ *ℤ w) +ℤ weighted s L c α) (diff_add (sign s α σ *ℤ w) (weighted s L c α) d e)
        (omega (
          arith,
          one (up w) (dn w),
          one (dn w) (up w),
          tally_plus s α (scaled (up w) (point σ)) (part up L c) (scaled (dn w) (point σ)) (part dn L c),
          tally_plus s α (scaled (dn w) (point σ)) (part dn L c) (scaled (up w) (point σ)) (part up L c),
        ))

point_is : (q : ℕ) → point q q ≡ 1
point_is q = omega (arith, times-same q [], times-nil q)

point_isnt : (σ q : ℕ) → q ≢ σ → point σ q ≡ 0
point_isnt σ q h = omega (arith, times_other q σ [] h, times-nil q)

-- the first pattern's number, and the others'
pub part-first : (f : ℤ → ℕ) (σ : ℕ) (L : List ℕ) (w : ℤ) (c : List ℤ) → part f (σ ∷ L) (w ∷ c) σ ≡ f w + part f L c σ
unfolding part scaled
part-first f σ L w c = rw (point_is σ) (omega arith)

pub part_later : (f : ℤ → ℕ) (σ : ℕ) (L : List ℕ) (w : ℤ) (c : List ℤ) (q : ℕ) → q ≢ σ → part f (σ ∷ L) (w ∷ c) q ≡ part f L c q
unfolding part scaled
part_later f σ L w c q h = rw (point_isnt σ q h) (omega arith)

-- no numbers, no weight
pub part_empty : (f : ℤ → ℕ) (L : List ℕ) (q : ℕ) → part f L [] q ≡ 0
unfolding part
part_empty f [] q = refl
part_empty f (σ ∷ L) q = refl

-- nothing outside the list
pub part_out : (f : ℤ → ℕ) (L : List ℕ) (c : List ℤ) (q : ℕ) → times q L ≡ 0 → part f L c q ≡ 0
part_out f [] c q e = unfold part in refl
part_out f (σ ∷ L) [] q e = unfold part in refl
part_out f (σ ∷ L) (w ∷ c) q e = go (ℕ_discrete q σ) (part_out f L c q)
  where
    go : Dec (q ≡ σ) → (times q L ≡ 0 → part f L c q ≡ 0) → part f (σ ∷ L) (w ∷ c) q ≡ 0
    go (yes d) ih = let e' : times σ (σ ∷ L) ≡ 0 = (rw d at e) in absurd (omega (arith, times-same σ L))
    go (no d) ih = part_later f σ L w c q d ∙ ih (omega (arith, times_other q σ L d))

-- the first pattern of a rising list does not come again
pub rising_fresh : (σ : ℕ) (L : List ℕ) → Rising (σ ∷ L) → times σ L ≡ 0
unfolding Rising
rising_fresh σ L r = go (dec_lt 0 (times σ L))
  where
    go : Dec (0 < times σ L) → times σ L ≡ 0
    go (yes h) = absurd (omega (arith, r.0 σ h))
    go (no h) = omega arith

-- the weight has the numbers in it
pub parts_same : (L : List ℕ) (c d : List ℤ) → Rising L → length c ≡ length L → length d ≡ length L
    → ((q : ℕ) → 0 < times q L → part up L c q + part dn L d q ≡ part dn L c q + part up L d q) → c ≡ d
unfolding Rising
parts_same [] [] [] r l m e = refl
parts_same [] [] (v ∷ d) r l m e = absurd (omega arith)
parts_same [] (w ∷ c) d r l m e = absurd (omega arith)
parts_same (σ ∷ L) [] d r l m e = absurd (omega arith)
parts_same (σ ∷ L) (w ∷ c) [] r l m e = absurd (omega arith)
parts_same (σ ∷ L) (w ∷ c) (v ∷ d) r l m e = ap₂ ◌∷◌ head (parts_same L c d r.1 (omega arith) (omega arith) tail)
  where
    fresh : times σ L ≡ 0
    fresh = rising_fresh σ L r

    head : w ≡ v
    head =
        diff_same w v (diff_parts w) (diff_parts v)
        (omega (
          arith,
          e σ (omega (arith, times-same σ L)),
          part-first up σ L w c,
          part-first dn σ L w c,
          part-first up σ L v d,
          part-first dn σ L v d,
          part_out up L c σ fresh,
          part_out dn L c σ fresh,
          part_out up L d σ fresh,
          part_out dn L d σ fresh,
        ))

    tail : (q : ℕ) → 0 < times q L → part up L c q + part dn L d q ≡ part dn L c q + part up L d q
    tail q h = go (ℕ_discrete q σ)
      where
        go : Dec (q ≡ σ) → part up L c q + part dn L d q ≡ part dn L c q + part up L d q
        go (yes f) = let h' : 0 < times σ L = (rw f at h) in absurd (omega (arith, fresh))
        go (no f) =
            omega (
              arith,
              e q (omega (arith, times_other q σ L f)),
              part_later up σ L w c q f,
              part_later dn σ L w c q f,
              part_later up σ L v d q f,
              part_later dn σ L v d q f,
            )
