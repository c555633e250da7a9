-- THE SOLVER: `solver_of` gives the whole numbers that document 01 asks for wherever there are such, and `none` exactly where there are
-- none.
use mathlib.Core.Path.{◌≡◌, refl, sym, ap, ◌∙◌, subst}
use mathlib.Core.Logic.{◌↔◌}
use mathlib.Core.Bool.{Bool, true, false, cond}
use mathlib.Core.Option.{Option, some, none}
use mathlib.Core.List.{List, [], ◌∷◌, map}
use Prim.Native.Nat.{ℕ, suc, ◌+◌, ◌*◌, ◌^◌, ◌<◌}
use native.Mathlib.Omega.{arith}
use native.Mathlib.Decide.{ℕ_discrete}
use lib.Dec.{leb, leb→le, le→leb}
use lib.IntN.{ℤ, sub_ℕ}
use lib.ListN.{length}
use Rattle.integers.specs.Sums.{sum_abs}
use Rattle.integers.proofs.Parts.{up, dn}
use Rattle.integers.proofs.Tests.{T_of, is_true}
use Rattle.integers.proofs.Diff.{Diff, diff_sub, diff_same, diff_one}
use Rattle.signs.specs.Lists.{times, Rising}
use Rattle.signs.specs.Signs.{weighted}
use Rattle.signs.specs.Adapted.{adapted}
use Rattle.signs.proofs.Lists.{times-nil, times-same, times_other}
use Rattle.signs.proofs.Blocks.{adapted_below}
use Rattle.signs.proofs.Size.{below_under, adapted-rising, rising-once, as_many}
use Rattle.signs.proofs.Tallies.{tally}
use Rattle.solutions.specs.Solution.{limit, Posed, Solution, IsSolver}
use Rattle.solutions.specs.Solver.{Weight, and_then, solve, lookup, weight_of, values, within_limit, solver_of}
use Rattle.signs.proofs.Weights.{diff_parts, part, part-first, part_later, part_out, weighted-tally}
use Rattle.signs.proofs.UniqueWhole.{same-queries}
use Rattle.solutions.proofs.Lookup.{lookup-map, map-lookup}
use Rattle.solutions.proofs.Solve.{Solves, tally_diff, Right, solve_right}

-- ---- the numbers that a weight has at the patterns of a list

pub values_length : (w : Weight) (L : List ℕ) → length (values w L) ≡ length L
unfolding values
values_length w [] = refl
values_length w (q ∷ L) = ap suc (values_length w L)

-- as a weight again: what the weight has there, as often as the pattern stands in the list
values-part : (w : Weight) (L : List ℕ) (q : ℕ) → part up L (values w L) q + times q L * w.dn q
    ≡ part dn L (values w L) q + times q L * w.up q
unfolding values
values-part w [] q = rw (times-nil q, part_out up [] [] q (times-nil q), part_out dn [] [] q (times-nil q)) (omega arith)
values-part w (σ ∷ L) q = go (ℕ_discrete q σ) (values-part w L q)
  where
    z : ℤ
    z = sub_ℕ (w.up σ) (w.dn σ)

    there : up z + w.dn σ ≡ dn z + w.up σ
    there = omega (arith, diff_one z (diff_parts z) (diff_sub (w.up σ) (w.dn σ)))

    go : Dec (q ≡ σ) → part up L (values w L) q + times q L * w.dn q ≡ part dn L (values w L) q + times q L * w.up q
        → part up (σ ∷ L) (z ∷ values w L) q + times q (σ ∷ L) * w.dn q ≡ part dn (σ ∷ L) (z ∷ values w L) q + times q (σ ∷ L) * w.up q
    go (yes f) ih =
        let ih' : part up L (values w L) σ + times σ L * w.dn σ ≡ part dn L (values w L) σ + times σ L * w.up σ =
        subst (λ (x : ℕ). part up L (values w L) x + times x L * w.dn x ≡ part dn L (values w L) x + times x L * w.up x) f ih in
        rw (f, times-same σ L) (omega (arith, there, part-first up σ L z (values w L), part-first dn σ L z (values w L)))
    go (no f) ih =
        rw (times_other q σ L f) (omega (arith, part_later up σ L z (values w L) q f, part_later dn σ L z (values w L) q f))

-- so a weight that vanishes outside a rising list is the weight of its values there
pub values-weight : (s : ℕ) (w : Weight) (L : List ℕ) → Rising L → ((q : ℕ) → q < 3 ^ s → times q L ≡ 0 → w.up q ≡ w.dn q)
    → (q : ℕ) → q < 3 ^ s → part up L (values w L) q + w.dn q ≡ part dn L (values w L) q + w.up q
values-weight s w L r out q h = go (ℕ_discrete (times q L) 0)
  where
    go : Dec (times q L ≡ 0) → part up L (values w L) q + w.dn q ≡ part dn L (values w L) q + w.up q
    go (yes e) = omega (arith, part_out up L (values w L) q e, part_out dn L (values w L) q e, out q h e)
    go (no e) =
        let t : times q L ≡ 1 = omega (arith, rising-once L r q) in
        let i : part up L (values w L) q + 1 * w.dn q ≡ part dn L (values w L) q + 1 * w.up q = (rw t at (values-part w L q)) in
        omega arith

pub some_same : {A : Type 0} (x y : A) → ◌≡◌ {A = Option A} (some x) (some y) → x ≡ y
some_same x y e = cc

-- ---- the theorem

module _ (s : ℕ) (L : List ℕ) (ds : List ℤ) (P : Posed s L ds) where
  abbrev A : List ℕ
  A = adapted s L

  abbrev D : Weight
  D = weight_of (λ α. lookup α A ds)

  -- whole numbers that give ds solve as a weight
  pub solves_of : (ws : List ℤ) → map (weighted s L ws) A ≡ ds → Solves s L D.up D.dn (part up L ws) (part dn L ws)
  unfolding weight_of
  solves_of ws e =
      record {
        out = λ q h o. part_out up L ws q o ∙ sym (part_out dn L ws q o);
        eqs = λ α m.
            let same : weighted s L ws α ≡ lookup α A ds = sym (lookup-map (weighted s L ws) A α m) ∙ ap (lookup α A) e in
            let d : Diff (lookup α A ds) (tally s α (part up L ws) (part dn L ws)) (tally s α (part dn L ws) (part up L ws)) =
            (rw same at (weighted-tally s α L ws (adapted_below s α L m) P.below)) in
            omega (arith, diff_one (lookup α A ds) d (diff_parts (lookup α A ds)));
      }

  -- and the numbers of a weight that solves give ds
  pub give_of : (w : Weight) → Solves s L D.up D.dn w.up w.dn → map (weighted s L (values w L)) A ≡ ds
  unfolding weight_of
  give_of w S =
      map-lookup (weighted s L (values w L)) A ds (as_many s L P.rising P.below ∙ sym P.full) (rising-once A (adapted-rising s L))
      (λ α m. diff_same (weighted s L (values w L) α) (lookup α A ds) (weighted-tally s α L (values w L) (adapted_below s α L m) P.below)
      (diff_parts (lookup α A ds))
      (omega (
        arith,
        S.eqs α m,
        tally_diff s α (part up L (values w L)) (part dn L (values w L)) w.up w.dn (values-weight s w L P.rising S.out),
      )))

  -- numbers that give ds are the only ones
  give-same : (ws vs : List ℤ) → length ws ≡ length L → length vs ≡ length L → map (weighted s L ws) A ≡ ds → map (weighted s L vs) A ≡ ds
      → ws ≡ vs
  give-same ws vs l m e f =
      same-queries s L ws vs P.rising P.below l m
      (λ α h. sym (lookup-map (weighted s L ws) A α h) ∙ ap (lookup α A) (e ∙ sym f) ∙ lookup-map (weighted s L vs) A α h)

  pub solution_same : (ws vs : List ℤ) → Solution s L ds ws → Solution s L ds vs → ws ≡ vs
  solution_same ws vs S S' = give-same ws vs S.one_each S'.one_each S.give S'.give

  -- what the result means
  from_result : (o : Option Weight) → Right s L D o → (ws : List ℤ) → and_then o (λ w. within_limit (values w L)) ≡ some ws
      → Solution s L ds ws
  unfolding within_limit
  from_result none r ws e = let x : ◌≡◌ {A = ℕ} 0 1 = cc in absurd (omega arith)
  from_result (some w) r ws e = go (leb (sum_abs (values w L)) limit) refl e
    where
      go : (b : Bool) → leb (sum_abs (values w L)) limit ≡ b → cond b (some (values w L)) none ≡ some ws → Solution s L ds ws
      go true t k =
          subst (Solution s L ds) (some_same (values w L) ws k)
          (record { one_each = values_length w L; give = give_of w r; small = leb→le (sum_abs (values w L)) limit (T_of t) })
      go false t k = let x : ◌≡◌ {A = ℕ} 0 1 = cc in absurd (omega arith)

  to_result : (o : Option Weight) → Right s L D o → (ws : List ℤ) → Solution s L ds ws → and_then o (λ w. within_limit (values w L))
      ≡ some ws
  unfolding within_limit
  to_result none r ws S = absurd (r _ _ (solves_of ws S.give))
  to_result (some w) r ws S =
      rw (
        give-same (values w L) ws (values_length w L) S.one_each (give_of w r) S.give,
        is_true (leb (sum_abs ws) limit) (le→leb (sum_abs ws) limit S.small),
      )
      refl

  abbrev right : Right s L D (solve s L D)
  right = solve_right s L D (below_under (3 ^ s) L P.below)

  pub solver_found : (ws : List ℤ) → (solver_of s L ds ≡ some ws) ↔ Solution s L ds ws
  unfolding solver_of
  solver_found ws = (from_result (solve s L D) right ws, to_result (solve s L D) right ws)

  pub solver_refused : (solver_of s L ds ≡ none) ↔ ((ws : List ℤ) → Solution s L ds ws → ⊥)
  solver_refused = (
    λ e ws S. let x : none ≡ some ws = sym e ∙ (solver_found ws).1 S in let y : ◌≡◌ {A = ℕ} 0 1 = cc in omega arith,
    λ h. go (solver_of s L ds) refl h,
  )
    where
      go : (o : Option (List ℤ)) → solver_of s L ds ≡ o → ((ws : List ℤ) → Solution s L ds ws → ⊥) → o ≡ none
      go none e h = refl
      go (some ws) e h = absurd (h ws ((solver_found ws).0 e))

pub solver_right : IsSolver solver_of
solver_right =
    record {
      found = λ s L ds ws P. solver_found s L ds P ws;
      refused = λ s L ds P. solver_refused s L ds P;
      only = λ s L ds ws vs P S S'. solution_same s L ds P ws vs S S';
    }
