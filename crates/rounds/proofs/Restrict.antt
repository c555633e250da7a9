-- Later polynomials taken off: a product of P1 .. Pi sees only the low digits of a pattern.
use mathlib.Core.Path.{◌≡◌, refl, sym, ap, ap₂, ◌∙◌, subst}
use mathlib.Core.Logic.{◌≢◌}
use mathlib.Core.List.{List, [], ◌∷◌, ◌++◌}
use Prim.Native.Nat.{ℕ, zero, suc, ◌+◌, ◌*◌, ◌^◌, ◌/◌, ◌%◌, ◌<◌, ◌≤◌}
use native.Mathlib.Omega.{arith}
use native.Mathlib.Decide.{ℕ_discrete}
use native.Mathlib.Nat.{mod-lt, mod-eq_of_lt, div-eq_of_lt, suc-add, pow-le-pow_right, one-le-pow}
use lib.Arith.{digits_mod, mod-mul}
use lib.Pow.{pow-add}
use lib.IntN.{ℤ, ◌+ℤ◌, ◌*ℤ◌}
use lib.ListN.{length}
use Rattle.integers.proofs.Diff.{diff_same, one-*ℤ}
use Rattle.signs.specs.Lists.{times, Below}
use Rattle.integers.specs.Powers.{power}
use Rattle.signs.specs.Signs.{sign, query}
use Rattle.signs.proofs.Digits.{digits, low}
use Rattle.signs.proofs.Lists.{times-nil, times-same, times_other, times-append}
use Rattle.signs.proofs.Queries.{counts, query-tally}
use Rattle.signs.proofs.Tallies.{Agree, tally_ext, none}
use Rattle.rounds.specs.Rows.{Fits, restrict}

pub three_pos : (i : ℕ) → 0 < 3 ^ i
three_pos i = one-le-pow i 3 (omega arith)

pub three_mono : (i j : ℕ) → i ≤ j → 3 ^ i ≤ 3 ^ j
three_mono i j h = pow-le-pow_right (omega arith) h

mod-mod-three : (n d i : ℕ) → n % 3 ^ (d + i) % 3 ^ i ≡ n % 3 ^ i
mod-mod-three n d i =
    ap (λ (x : ℕ). n % x % 3 ^ i) (pow-add 3 d i)
    ∙ ap (λ (x : ℕ). x % 3 ^ i) (mod-mul n (three_pos d) (three_pos i))
    ∙ digits_mod (n / 3 ^ i % 3 ^ d) (mod-lt n (three_pos i))

-- the last polynomial, at power 0
pub sign-drop : (m α σ : ℕ) → α < 3 ^ m → sign (suc m) α σ ≡ sign m α (σ % 3 ^ m)
unfolding sign power
sign-drop m α σ h = rw (div-eq_of_lt h, mod-eq_of_lt h) (one-*ℤ (sign m α (σ % 3 ^ m)))

-- the last d polynomials, at power 0
pub sign_low : (d i α σ : ℕ) → α < 3 ^ i → σ < 3 ^ (d + i) → sign (d + i) α σ ≡ sign i α (σ % 3 ^ i)
sign_low zero i α σ a b =
    let e : 0 + i ≡ i = omega arith in
    rw (e, mod-eq_of_lt (subst (λ (x : ℕ). σ < 3 ^ x) e b)) refl
sign_low (suc d) i α σ a b =
    rw (suc-add d i, sign-drop (d + i) α σ (omega (arith, three_mono i (d + i) (omega arith))))
    (sign_low d i α (σ % 3 ^ (d + i)) a (mod-lt σ (three_pos (d + i))) ∙ ap (sign i α) (mod-mod-three σ d i))

pub restrict-below : (i : ℕ) (E : List ℕ) → Below (3 ^ i) (restrict i E)
unfolding restrict Below
restrict-below i [] = tt
restrict-below i (σ ∷ E) = (mod-lt σ (three_pos i), restrict-below i E)

pub restrict-length : (i : ℕ) (E : List ℕ) → length (restrict i E) ≡ length E
unfolding restrict
restrict-length i [] = refl
restrict-length i (σ ∷ E) = ap suc (restrict-length i E)

pub query-low : (d i α : ℕ) (E : List ℕ) → α < 3 ^ i → Below (3 ^ (d + i)) E → query (d + i) E α ≡ query i (restrict i E) α
unfolding query restrict Below
query-low d i α [] a b = refl
query-low d i α (σ ∷ E) a b = ap₂ ◌+ℤ◌ (sign_low d i α σ a b.0) (query-low d i α E a b.1)

pub query-drop : (i α : ℕ) (E : List ℕ) → α < 3 ^ i → query (suc i) E α ≡ query i (restrict i E) α
unfolding query restrict
query-drop i α [] a = refl
query-drop i α (σ ∷ E) a = ap₂ ◌+ℤ◌ (sign-drop i α σ a) (query-drop i α E a)

-- patterns of P1 .. Pi are their own low digits
pub restrict-same : (i : ℕ) (E : List ℕ) → Below (3 ^ i) E → restrict i E ≡ E
unfolding restrict Below
restrict-same i [] b = refl
restrict-same i (σ ∷ E) b = ap₂ ◌∷◌ (mod-eq_of_lt b.0) (restrict-same i E b.1)

-- the count of a low pattern is the sum over the three signs
pub restrict-count : (i q : ℕ) (E : List ℕ) → q < 3 ^ i → Below (3 ^ suc i) E
    → times q (restrict i E) ≡ times q E + times (q + 3 ^ i) E + times (q + 2 * 3 ^ i) E
unfolding restrict Below
restrict-count i q [] h b = omega (arith, times-nil q, times-nil (q + 3 ^ i), times-nil (q + 2 * 3 ^ i))
restrict-count i q (σ ∷ E) h b =
    omega (
      arith,
      restrict-count i q E h b.1,
      times-append q ((σ % 3 ^ i) ∷ []) (restrict i E),
      times-append q (σ ∷ []) E,
      times-append (q + 3 ^ i) (σ ∷ []) E,
      times-append (q + 2 * 3 ^ i) (σ ∷ []) E,
      one (digits i σ b.0),
    )
  where
    is : (x y : ℕ) → x ≡ y → times x (y ∷ []) ≡ 1
    is x y e = rw e (omega (arith, times-same y [], times-nil y))

    isnt : (x y : ℕ) → x ≢ y → times x (y ∷ []) ≡ 0
    isnt x y e = omega (arith, times_other x y [] e, times-nil x)

    Goal : Type 0
    Goal = times q ((σ % 3 ^ i) ∷ []) ≡ times q (σ ∷ []) + times (q + 3 ^ i) (σ ∷ []) + times (q + 2 * 3 ^ i) (σ ∷ [])

    at : (d r : ℕ) → r < 3 ^ i → d < 3 → σ ≡ r + d * 3 ^ i → σ % 3 ^ i ≡ r → Dec (q ≡ r) → Goal
    at zero r hr hd e m (yes k) =
        omega (
          arith,
          is q (σ % 3 ^ i) (omega arith),
          is q σ (omega arith),
          isnt (q + 3 ^ i) σ (omega arith),
          isnt (q + 2 * 3 ^ i) σ (omega arith),
        )
    at (suc zero) r hr hd e m (yes k) =
        omega (
          arith,
          is q (σ % 3 ^ i) (omega arith),
          isnt q σ (omega arith),
          is (q + 3 ^ i) σ (omega arith),
          isnt (q + 2 * 3 ^ i) σ (omega arith),
        )
    at (suc (suc zero)) r hr hd e m (yes k) =
        omega (
          arith,
          is q (σ % 3 ^ i) (omega arith),
          isnt q σ (omega arith),
          isnt (q + 3 ^ i) σ (omega arith),
          is (q + 2 * 3 ^ i) σ (omega arith),
        )
    at (suc (suc (suc d))) r hr hd e m (yes k) = absurd (omega arith)
    at zero r hr hd e m (no k) =
        omega (
          arith,
          isnt q (σ % 3 ^ i) (omega arith),
          isnt q σ (omega arith),
          isnt (q + 3 ^ i) σ (omega arith),
          isnt (q + 2 * 3 ^ i) σ (omega arith),
        )
    at (suc zero) r hr hd e m (no k) =
        omega (
          arith,
          isnt q (σ % 3 ^ i) (omega arith),
          isnt q σ (omega arith),
          isnt (q + 3 ^ i) σ (omega arith),
          isnt (q + 2 * 3 ^ i) σ (omega arith),
        )
    at (suc (suc zero)) r hr hd e m (no k) =
        omega (
          arith,
          isnt q (σ % 3 ^ i) (omega arith),
          isnt q σ (omega arith),
          isnt (q + 3 ^ i) σ (omega arith),
          isnt (q + 2 * 3 ^ i) σ (omega arith),
        )
    at (suc (suc (suc d))) r hr hd e m (no k) = absurd (omega arith)

    one : (r d : ℕ) × (r < 3 ^ i) × (d < 3) × (σ ≡ r + d * 3 ^ i) → Goal
    one (r, d, hr, hd, e) = at d r hr hd e (ap (λ (x : ℕ). x % 3 ^ i) e ∙ low i d hr) (ℕ_discrete q r)

-- ---- a query is fixed by the counts

pub query_ext : (i α : ℕ) (E E' : List ℕ) → α < 3 ^ i → Below (3 ^ i) E → Below (3 ^ i) E' → Agree i (counts E) (counts E')
    → query i E α ≡ query i E' α
query_ext i α E E' a b b' e =
    diff_same (query i E α) (query i E' α) (query-tally i α E a b) (query-tally i α E' a b')
    (omega (
      arith,
      tally_ext i α (counts E) (counts E') none none e (λ q h. refl),
      tally_ext i α none none (counts E) (counts E') (λ q h. refl) e,
    ))

-- ---- fitting

-- two that fit the same answers have the same queries
pub fits-same : (s i : ℕ) (E E' ps : List ℕ) (zs : List ℤ) → length ps ≡ length zs → Fits s E ps zs → Fits i E' ps zs
    → (α : ℕ) → 0 < times α ps → query s E α ≡ query i E' α
unfolding Fits
fits-same s i E E' [] zs l f g α h = absurd (omega (arith, times-nil α))
fits-same s i E E' (x ∷ ps) [] l f g α h = absurd (omega arith)
fits-same s i E E' (x ∷ ps) (z ∷ zs) l f g α h = go (ℕ_discrete α x) (fits-same s i E E' ps zs (omega arith) f.1 g.1 α)
  where
    go : Dec (α ≡ x) → (0 < times α ps → query s E α ≡ query i E' α) → query s E α ≡ query i E' α
    go (yes e) ih = rw e (sym f.0 ∙ g.0)
    go (no e) ih = ih (omega (arith, times_other α x ps e))

-- and one with the same queries fits too
pub fits_move : (s i : ℕ) (E E' ps : List ℕ) (zs : List ℤ) → Fits s E ps zs → ((α : ℕ) → 0 < times α ps → query s E α ≡ query i E' α)
    → Fits i E' ps zs
unfolding Fits
fits_move s i E E' ps [] f e = tt
fits_move s i E E' [] (z ∷ zs) f e = f
fits_move s i E E' (x ∷ ps) (z ∷ zs) f e = (
  f.0 ∙ e x (omega (arith, times-same x ps)),
  fits_move s i E E' ps zs f.1 (λ α h. e α (omega (arith, times-append α (x ∷ []) ps))),
)

pub fits-append : (s : ℕ) (E ps qs : List ℕ) (zs ws : List ℤ) → length ps ≡ length zs → Fits s E ps zs → Fits s E qs ws
    → Fits s E (ps ++ qs) (zs ++ ws)
unfolding Fits
fits-append s E [] qs [] ws l f g = g
fits-append s E [] qs (z ∷ zs) ws l f g = absurd f
fits-append s E (x ∷ ps) qs [] ws l f g = absurd (omega arith)
fits-append s E (x ∷ ps) qs (z ∷ zs) ws l f g = (f.0, fits-append s E ps qs zs ws (omega arith) f.1 g)

pub fits-left : (s : ℕ) (E ps qs : List ℕ) (zs ws : List ℤ) → length ps ≡ length zs → Fits s E (ps ++ qs) (zs ++ ws) → Fits s E ps zs
unfolding Fits
fits-left s E [] qs [] ws l f = tt
fits-left s E [] qs (z ∷ zs) ws l f = absurd (omega arith)
fits-left s E (x ∷ ps) qs [] ws l f = tt
fits-left s E (x ∷ ps) qs (z ∷ zs) ws l f = (f.0, fits-left s E ps qs zs ws (omega arith) f.1)

pub fits_right : (s : ℕ) (E ps qs : List ℕ) (zs ws : List ℤ) → length ps ≡ length zs → Fits s E (ps ++ qs) (zs ++ ws) → Fits s E qs ws
unfolding Fits
fits_right s E [] qs [] ws l f = f
fits_right s E [] qs (z ∷ zs) ws l f = absurd (omega arith)
fits_right s E (x ∷ ps) qs [] ws l f = absurd (omega arith)
fits_right s E (x ∷ ps) qs (z ∷ zs) ws l f = fits_right s E ps qs zs ws (omega arith) f.1
