-- Theorem: the square matrix of the signs of an adapted list's products on the list's patterns can be inverted, for every s. Taking one
-- polynomial off solves three smaller systems, each with what is known from those before it, and halves once. Where M is the denominator
-- for one polynomial less, 2 · M · M · M times the numbers asked leaves each of the three systems a multiple of M, and of 2 at the end.
use mathlib.Core.Path.{◌≡◌, refl, sym, ap, ◌∙◌}
use mathlib.Core.List.{List, [], ◌∷◌, map}
use Prim.Native.Nat.{ℕ, zero, suc, ◌+◌, ◌*◌, ◌^◌, ◌%◌, ◌<◌}
use native.Mathlib.Omega.{arith}
use native.Mathlib.Nat.{mul_assoc, mul-add, mul-pos}
use native.Mathlib.Decide.{ℕ_discrete}
use lib.IntN.{ℤ, pos, negsuc, neg_ℤ, ◌+ℤ◌, ◌*ℤ◌, *ℤ-zero}
use lib.ListN.{length}
use Rattle.integers.proofs.Parts.{up, dn}
use Rattle.integers.proofs.Ring.{ringℤ}
use Rattle.signs.specs.Adapted.{restrictions, adapted}
use Rattle.signs.specs.Lists.{times, Below, Rising}
use Rattle.signs.specs.Signs.{sign, weighted}
use Rattle.signs.proofs.Lists.{times-nil, times-same, times-one}
use Rattle.signs.proofs.Size.{Under, below_under, restrictions_under, as_many}
use Rattle.signs.proofs.Tallies.{tally, tally_ext, plus, tally_plus, none, tally_none}
use Rattle.signs.proofs.UniqueWhole.{same-queries}
use Rattle.solutions.specs.Invertible.{Fractions, Invertible}
use Rattle.solutions.specs.Solver.{Weight, known1, known2, lookup, values, weight_of}
use Rattle.solutions.proofs.Lookup.{lookup-same, lookup_other, lookup-map}
use Rattle.solutions.proofs.Solve.{Solves, solution, kp, kn, vdp, vdn, Vp, Vn, lp, ln, tdp, tdn, Tp, Tn, doubled}
use Rattle.solutions.proofs.SolverRight.{values_length, give_of}

-- ---- multiples

unfoldable multiple : ℕ → (ℕ → ℕ) → ℕ → ℕ
multiple k p q = k * p q

tally_multiple : (s α k : ℕ) (p n : ℕ → ℕ) → tally s α (multiple k p) (multiple k n) ≡ k * tally s α p n
unfolding multiple
tally_multiple s α zero p n = tally_ext s α _ none _ none (λ q h. omega arith) (λ q h. omega arith) ∙ tally_none s α ∙ omega arith
tally_multiple s α (suc k) p n =
    tally_ext s α _ (plus p (multiple k p)) _ (plus n (multiple k n)) (λ q h. omega arith) (λ q h. omega arith)
    ∙ tally_plus s α p (multiple k p) n (multiple k n) ∙ omega (arith, tally_multiple s α k p n)

-- the same of functions that are multiples
tally_of : (s α k : ℕ) (f g p n : ℕ → ℕ) → ((q : ℕ) → f q ≡ k * p q) → ((q : ℕ) → g q ≡ k * n q) → tally s α f g ≡ k * tally s α p n
unfolding multiple
tally_of s α k f g p n e d = tally_ext s α f (multiple k p) g (multiple k n) (λ q h. e q) (λ q h. d q) ∙ tally_multiple s α k p n

known1_multiple : (c t₀ t₁ t₂ u u' : ℕ) → known1 t₀ t₁ t₂ (c * u) (c * u') ≡ c * known1 t₀ t₁ t₂ u u'
unfolding known1
known1_multiple c zero zero zero u u' = omega arith
known1_multiple c zero zero (suc t₂) u u' = refl
known1_multiple c zero (suc t₁) zero u u' = refl
known1_multiple c zero (suc t₁) (suc t₂) u u' = omega arith
known1_multiple c (suc t₀) t₁ t₂ u u' = omega arith

known2_multiple : (c t₀ t₁ t₂ u v v' : ℕ) → known2 t₀ t₁ t₂ (c * u) (c * v) (c * v') ≡ c * known2 t₀ t₁ t₂ u v v'
unfolding known2
known2_multiple c zero zero zero u v v' = omega arith
known2_multiple c zero zero (suc t₂) u v v' = refl
known2_multiple c zero (suc t₁) t₂ u v v' = refl
known2_multiple c (suc t₀) zero zero u v v' = omega arith
known2_multiple c (suc t₀) zero (suc t₂) u v v' = refl
known2_multiple c (suc t₀) (suc t₁) zero u v v' = refl
known2_multiple c (suc t₀) (suc t₁) (suc t₂) u v v' = omega arith

-- a solution for c times the numbers asked
solves_multiple : (s : ℕ) (L : List ℕ) (dp dn p n : ℕ → ℕ) (c : ℕ) → Solves s L dp dn p n
    → Solves s L (multiple c dp) (multiple c dn) (multiple c p) (multiple c n)
unfolding multiple
solves_multiple s L dp dn p n c S =
    record {
      out = λ q h e. ap (λ (x : ℕ). c * x) (S.out q h e);
      eqs = λ α m.
          omega (
            arith,
            tally_multiple s α c p n,
            tally_multiple s α c n p,
            mul-add c (tally s α p n) (dn α),
            mul-add c (tally s α n p) (dp α),
            ap (λ (x : ℕ). c * x) (S.eqs α m),
          );
    }

-- a solution for other differences that are the same numbers
solves_as : (s : ℕ) (L : List ℕ) (dp dn dp' dn' p n : ℕ → ℕ) → Solves s L dp dn p n → ((α : ℕ) → dp α + dn' α ≡ dn α + dp' α)
    → Solves s L dp' dn' p n
solves_as s L dp dn dp' dn' p n S e = record { out = S.out; eqs = λ α m. omega (arith, S.eqs α m, e α) }

-- ---- one polynomial more

-- for all numbers asked there is a weight whose queries are M times those
abbrev Reached : ℕ → ℕ → Type 0
Reached s M = (L : List ℕ) → Under (3 ^ s) L → (dp dn : ℕ → ℕ) → (p n : ℕ → ℕ) × Solves s L (multiple M dp) (multiple M dn) p n

-- and c times that
reached_multiple : (s M : ℕ) → Reached s M → (c : ℕ) (L : List ℕ) → Under (3 ^ s) L → (dp dn : ℕ → ℕ)
    → (p n : ℕ → ℕ) × Solves s L (multiple (c * M) dp) (multiple (c * M) dn) (multiple c p) (multiple c n)
reached_multiple s M ih c L h dp dn =
    let (p, n, S) = ih L h dp dn in (
      p,
      n,
      solves_as s L _ _ _ _ _ _ (solves_multiple s L _ _ p n c S)
          (λ α. unfold multiple in omega (arith, mul_assoc c M (dp α), mul_assoc c M (dn α))),
    )

module _ (i M : ℕ) (L : List ℕ) (dp dn : ℕ → ℕ) where
  abbrev Dp : ℕ → ℕ
  Dp = multiple (2 * M * M * M) dp

  abbrev Dn : ℕ → ℕ
  Dn = multiple (2 * M * M * M) dn

  abbrev t₀ : ℕ → ℕ
  t₀ q = times q L

  abbrev t₁ : ℕ → ℕ
  t₁ q = times (q + 3 ^ i) L

  abbrev t₂ : ℕ → ℕ
  t₂ q = times (q + 2 * 3 ^ i) L

  module _ (u u' : ℕ → ℕ) (SU : Solves i (restrictions 1 i L) (λ α. Dp (α + 0 * 3 ^ i)) (λ α. Dn (α + 0 * 3 ^ i))
      (multiple (2 * M * M) u) (multiple (2 * M * M) u')) where
    abbrev U : ℕ → ℕ
    U = multiple (2 * M * M) u

    abbrev U' : ℕ → ℕ
    U' = multiple (2 * M * M) u'

    unfoldable k₁ : ℕ → ℕ
    k₁ q = known1 (t₀ q) (t₁ q) (t₂ q) (u q) (u' q)

    unfoldable k₁' : ℕ → ℕ
    k₁' q = known1 (t₀ q) (t₁ q) (t₂ q) (u' q) (u q)

    kp_is : (q : ℕ) → kp i L Dp Dn U U' SU q ≡ 2 * M * M * k₁ q
    unfolding kp k₁ multiple
    kp_is q = known1_multiple (2 * M * M) (t₀ q) (t₁ q) (t₂ q) (u q) (u' q)

    kn_is : (q : ℕ) → kn i L Dp Dn U U' SU q ≡ 2 * M * M * k₁' q
    unfolding kn k₁' multiple
    kn_is q = known1_multiple (2 * M * M) (t₀ q) (t₁ q) (t₂ q) (u' q) (u q)

    -- what is left of the numbers asked of the products with power 1
    unfoldable asked₁ : ℕ → ℕ
    asked₁ α = M * dp (α + 1 * 3 ^ i) + tally i α k₁' k₁

    unfoldable asked₁' : ℕ → ℕ
    asked₁' α = M * dn (α + 1 * 3 ^ i) + tally i α k₁ k₁'

    together : (a X : ℕ) → 2 * M * M * M * a + 2 * M * M * X ≡ 2 * M * M * (M * a + X)
    together a X = omega (arith, mul_assoc (2 * M * M) M a, mul-add (2 * M * M) (M * a) X)

    vdp_is : (α : ℕ) → vdp i L Dp Dn U U' SU α ≡ 2 * M * M * asked₁ α
    unfolding vdp asked₁ multiple
    vdp_is α =
        ap (λ (x : ℕ). 2 * M * M * M * dp (α + 1 * 3 ^ i) + x)
        (tally_of i α (2 * M * M) (kn i L Dp Dn U U' SU) (kp i L Dp Dn U U' SU) k₁' k₁ kn_is kp_is)
        ∙ together (dp (α + 1 * 3 ^ i)) (tally i α k₁' k₁)

    vdn_is : (α : ℕ) → vdn i L Dp Dn U U' SU α ≡ 2 * M * M * asked₁' α
    unfolding vdn asked₁' multiple
    vdn_is α =
        ap (λ (x : ℕ). 2 * M * M * M * dn (α + 1 * 3 ^ i) + x)
        (tally_of i α (2 * M * M) (kp i L Dp Dn U U' SU) (kn i L Dp Dn U U' SU) k₁ k₁' kp_is kn_is)
        ∙ together (dn (α + 1 * 3 ^ i)) (tally i α k₁ k₁')

    module _ (x x' : ℕ → ℕ)
        (SX : Solves i (restrictions 2 i L) (multiple (2 * M * M) asked₁) (multiple (2 * M * M) asked₁')
        (multiple (2 * M) x) (multiple (2 * M) x')) where
      abbrev X : ℕ → ℕ
      X = multiple (2 * M) x

      abbrev X' : ℕ → ℕ
      X' = multiple (2 * M) x'

      SV : Solves i (restrictions 2 i L) (vdp i L Dp Dn U U' SU) (vdn i L Dp Dn U U' SU) X X'
      SV = solves_as i (restrictions 2 i L) _ _ _ _ X X' SX (λ α. unfold multiple in omega (arith, vdp_is α, vdn_is α))

      -- + less −
      unfoldable v : ℕ → ℕ
      v q = M * k₁ q + x q

      unfoldable v' : ℕ → ℕ
      v' q = M * k₁' q + x' q

      beside : (a b : ℕ) → 2 * M * M * a + 2 * M * b ≡ 2 * M * (M * a + b)
      beside a b = omega (arith, mul_assoc (2 * M) M a, mul-add (2 * M) (M * a) b)

      Vp-is : (q : ℕ) → Vp i L Dp Dn U U' SU X X' SV q ≡ 2 * M * v q
      unfolding Vp v multiple
      Vp-is q = ap (λ (z : ℕ). z + 2 * M * x q) (kp_is q) ∙ beside (k₁ q) (x q)

      Vn-is : (q : ℕ) → Vn i L Dp Dn U U' SU X X' SV q ≡ 2 * M * v' q
      unfolding Vn v' multiple
      Vn-is q = ap (λ (z : ℕ). z + 2 * M * x' q) (kn_is q) ∙ beside (k₁' q) (x' q)

      -- + and − where they are known
      unfoldable k₂ : ℕ → ℕ
      k₂ q = known2 (t₀ q) (t₁ q) (t₂ q) (M * u q) (v q) (v' q)

      unfoldable k₂' : ℕ → ℕ
      k₂' q = known2 (t₀ q) (t₁ q) (t₂ q) (M * u' q) (v' q) (v q)

      lp_is : (q : ℕ) → lp i L Dp Dn U U' SU X X' SV q ≡ 2 * M * k₂ q
      unfolding lp k₂ multiple
      lp_is q =
          rw (Vp-is q, Vn-is q, mul_assoc (2 * M) M (u q)) (known2_multiple (2 * M) (t₀ q) (t₁ q) (t₂ q) (M * u q) (v q) (v' q))

      ln_is : (q : ℕ) → ln i L Dp Dn U U' SU X X' SV q ≡ 2 * M * k₂' q
      unfolding ln k₂' multiple
      ln_is q =
          rw (Vp-is q, Vn-is q, mul_assoc (2 * M) M (u' q)) (known2_multiple (2 * M) (t₀ q) (t₁ q) (t₂ q) (M * u' q) (v' q) (v q))

      -- what is left of the numbers asked of the products with power 2
      unfoldable asked₂ : ℕ → ℕ
      asked₂ α = M * (M * dp (α + 2 * 3 ^ i)) + tally i α k₂' k₂

      unfoldable asked₂' : ℕ → ℕ
      asked₂' α = M * (M * dn (α + 2 * 3 ^ i)) + tally i α k₂ k₂'

      all_three : (a Y : ℕ) → 2 * M * M * M * a + 2 * M * Y ≡ 2 * M * (M * (M * a) + Y)
      all_three a Y =
          omega (arith, mul_assoc (2 * M * M) M a, mul_assoc (2 * M) M (M * a), mul-add (2 * M) (M * (M * a)) Y)

      tdp_is : (α : ℕ) → tdp i L Dp Dn U U' SU X X' SV α ≡ 2 * M * asked₂ α
      unfolding tdp asked₂ multiple
      tdp_is α =
          ap (λ (z : ℕ). 2 * M * M * M * dp (α + 2 * 3 ^ i) + z)
          (tally_of i α (2 * M) (ln i L Dp Dn U U' SU X X' SV) (lp i L Dp Dn U U' SU X X' SV) k₂' k₂ ln_is lp_is)
          ∙ all_three (dp (α + 2 * 3 ^ i)) (tally i α k₂' k₂)

      tdn_is : (α : ℕ) → tdn i L Dp Dn U U' SU X X' SV α ≡ 2 * M * asked₂' α
      unfolding tdn asked₂' multiple
      tdn_is α =
          ap (λ (z : ℕ). 2 * M * M * M * dn (α + 2 * 3 ^ i) + z)
          (tally_of i α (2 * M) (lp i L Dp Dn U U' SU X X' SV) (ln i L Dp Dn U U' SU X X' SV) k₂ k₂' lp_is ln_is)
          ∙ all_three (dn (α + 2 * 3 ^ i)) (tally i α k₂ k₂')

      module _ (y y' : ℕ → ℕ)
          (SY : Solves i (restrictions 3 i L) (multiple (2 * M) asked₂) (multiple (2 * M) asked₂') (multiple 2 y) (multiple 2 y')) where
        ST : Solves i (restrictions 3 i L) (tdp i L Dp Dn U U' SU X X' SV) (tdn i L Dp Dn U U' SU X X' SV) (multiple 2 y) (multiple 2 y')
        ST =
            solves_as i (restrictions 3 i L) _ _ _ _ (multiple 2 y) (multiple 2 y') SY
            (λ α. unfold multiple in omega (arith, tdp_is α, tdn_is α))

        even : (q : ℕ) → q < 3 ^ i → doubled i L Dp Dn U U' SU X X' SV (multiple 2 y) (multiple 2 y') ST q % 2 ≡ 0
        unfolding doubled Tp Tn multiple
        even q h =
            omega (
              arith,
              Vp-is q,
              Vn-is q,
              lp_is q,
              ln_is q,
              mul_assoc 2 M (v q),
              mul_assoc 2 M (v' q),
              mul_assoc 2 M (k₂ q),
              mul_assoc 2 M (k₂' q),
            )

        found : (p n : ℕ → ℕ) × Solves (suc i) L Dp Dn p n
        found = (_, _, solution i L Dp Dn U U' SU X X' SV (multiple 2 y) (multiple 2 y') ST even)

step : (i M : ℕ) → Reached i M → Reached (suc i) (2 * M * M * M)
step i M ih L h dp dn =
    let (u, u', SU) = reached_multiple i M ih (2 * M * M) (restrictions 1 i L) (restrictions_under 1 i L) (λ α. dp (α + 0 * 3 ^ i))
    (λ α. dn (α + 0 * 3 ^ i)) in
    unfold multiple in
    let (x, x', SX) = reached_multiple i M ih (2 * M) (restrictions 2 i L) (restrictions_under 2 i L) (asked₁ i M L dp dn u u' SU)
    (asked₁' i M L dp dn u u' SU) in
    let (y, y', SY) = reached_multiple i M ih 2 (restrictions 3 i L) (restrictions_under 3 i L) (asked₂ i M L dp dn u u' SU x x' SX)
    (asked₂' i M L dp dn u u' SU x x' SX) in
    found i M L dp dn u u' SU x x' SX y y' SY

unfoldable denominator_of : ℕ → ℕ
denominator_of zero = 1
denominator_of (suc i) = 2 * denominator_of i * denominator_of i * denominator_of i

denominator-positive : (s : ℕ) → 0 < denominator_of s
unfolding denominator_of
denominator-positive zero = omega arith
denominator-positive (suc i) =
    let h = denominator-positive i in
    mul-pos (mul-pos (mul-pos (omega arith) h) h) h

reached : (s : ℕ) → Reached s (denominator_of s)
unfolding denominator_of adapted tally multiple
reached zero [] h dp dn =
    (none, none, record { out = λ q k e. refl; eqs = λ α m. absurd (omega (arith, times-nil α)) })
reached zero (σ ∷ L) h dp dn =
    (dp, dn, record { out = λ q k e. absurd (nowhere q k e); eqs = λ α m. rw (times-one α 0 m) (omega arith) })
  where
    nowhere : (q : ℕ) → q < 1 → times q (σ ∷ L) ≡ 0 → ⊥
    nowhere q k e =
        let f : q ≡ σ = omega (arith, h σ (omega (arith, times-same σ L))) in
        let e' : times σ (σ ∷ L) ≡ 0 = (rw f at e) in
        omega (arith, times-same σ L)
reached (suc i) L h dp dn = step i (denominator_of i) (reached i) L h dp dn

-- ---- whole numbers

-- the two parts of a whole number N times over
parts_times : (N : ℕ) (z : ℤ) → N * up z + dn (pos N *ℤ z) ≡ N * dn z + up (pos N *ℤ z)
parts_times N (pos k) = omega arith
parts_times N (negsuc k) = go (N * suc k) refl
  where
    go : (m : ℕ) → N * suc k ≡ m → N * 0 + dn (neg_ℤ (pos m)) ≡ N * suc k + up (neg_ℤ (pos m))
    go zero e = omega arith
    go (suc m) e = omega arith

lookup-times : (z : ℤ) (α : ℕ) (A : List ℕ) (ds : List ℤ) → lookup α A (map (λ d. z *ℤ d) ds) ≡ z *ℤ lookup α A ds
lookup-times z α [] ds = unfold lookup in sym (*ℤ-zero z)
lookup-times z α (x ∷ A) [] = unfold lookup in sym (*ℤ-zero z)
lookup-times z α (x ∷ A) (d ∷ ds) = go (ℕ_discrete α x) (lookup-times z α A ds)
  where
    go : Dec (α ≡ x) → lookup α A (map (λ d. z *ℤ d) ds) ≡ z *ℤ lookup α A ds
        → lookup α (x ∷ A) ((z *ℤ d) ∷ map (λ d. z *ℤ d) ds) ≡ z *ℤ lookup α (x ∷ A) (d ∷ ds)
    go (yes e) ih =
        rw (e, lookup-same x A d ds) (lookup-same x A (z *ℤ d) (map (λ d. z *ℤ d) ds))
    go (no e) ih = rw (lookup_other α x A d ds e) (lookup_other α x A (z *ℤ d) (map (λ d. z *ℤ d) ds) e ∙ ih)

spread : (x z w y : ℤ) → (x *ℤ (z *ℤ w)) +ℤ (z *ℤ y) ≡ z *ℤ ((x *ℤ w) +ℤ y)
spread x z w y = simp ringℤ

weighted-times : (s α : ℕ) (z : ℤ) (L : List ℕ) (ws : List ℤ) → weighted s L (map (λ w. z *ℤ w) ws) α ≡ z *ℤ weighted s L ws α
unfolding weighted
weighted-times s α z [] ws = sym (*ℤ-zero z)
weighted-times s α z (σ ∷ L) [] = sym (*ℤ-zero z)
weighted-times s α z (σ ∷ L) (w ∷ ws) = rw (weighted-times s α z L ws) (spread (sign s α σ) z w (weighted s L ws α))

length-times : (z : ℤ) (ws : List ℤ) → length (map (λ w. z *ℤ w) ws) ≡ length ws
length-times z [] = refl
length-times z (w ∷ ws) = ap suc (length-times z ws)

module _ (s : ℕ) (L : List ℕ) (r : Rising L) (b : Below (3 ^ s) L) where
  abbrev A : List ℕ
  A = adapted s L

  abbrev N : ℕ
  N = denominator_of s

  solves : (ds : List ℤ) → length ds ≡ length A → (ws : List ℤ) × Fractions s L ds N ws
  solves ds e =
      let (p, n, S) = reached s L (below_under (3 ^ s) L b) (λ α. up (lookup α A ds)) (λ α. dn (lookup α A ds)) in
      let w : Weight = record { up = p; dn = n } in (
        values w L,
        record {
          above_zero = denominator-positive s;
          one_each = values_length w L;
          give = give_of s L (map (λ d. pos N *ℤ d) ds)
              (record { rising = r; below = b; full = length-times (pos N) ds ∙ e ∙ as_many s L r b }) w
              (solves_as s L _ _ _ _ p n S
              (λ α. unfold multiple weight_of in rw (lookup-times (pos N) α A ds) (parts_times N (lookup α A ds))));
        },
      )

  -- the queries of fractions' numerators
  gives : (ds : List ℤ) (M : ℕ) (ws : List ℤ) → Fractions s L ds M ws → (α : ℕ) → 0 < times α A
      → weighted s L ws α ≡ pos M *ℤ lookup α A ds
  gives ds M ws F α h = sym (lookup-map (weighted s L ws) A α h) ∙ ap (lookup α A) F.give ∙ lookup-times (pos M) α A ds

  same_fractions : (ds : List ℤ) (M K : ℕ) (ws vs : List ℤ) → Fractions s L ds M ws → Fractions s L ds K vs
      → map (λ w. pos K *ℤ w) ws ≡ map (λ v. pos M *ℤ v) vs
  same_fractions ds M K ws vs F G =
      same-queries s L (map (λ w. pos K *ℤ w) ws) (map (λ v. pos M *ℤ v) vs) r b (length-times (pos K) ws ∙ F.one_each)
      (length-times (pos M) vs ∙ G.one_each)
      (λ α h.
      weighted-times s α (pos K) L ws ∙ ap (λ (z : ℤ). pos K *ℤ z) (gives ds M ws F α h) ∙ swap (lookup α A ds)
      ∙ sym (ap (λ (z : ℤ). pos M *ℤ z) (gives ds K vs G α h)) ∙ sym (weighted-times s α (pos M) L vs))
    where
      swap : (z : ℤ) → pos K *ℤ (pos M *ℤ z) ≡ pos M *ℤ (pos K *ℤ z)
      swap z = simp ringℤ

-- the theorem
pub invertible : (s : ℕ) (L : List ℕ) → Rising L → Below (3 ^ s) L → Invertible s L
invertible s L r b =
    record {
      square = as_many s L r b;
      denominator = denominator_of s;
      solved = solves s L r b;
      only = same_fractions s L r b;
    }
