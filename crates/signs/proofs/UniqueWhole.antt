-- Theorem: whole numbers on a rising list of patterns are fixed by their queries on its adapted list. This is one half of document 01's
-- "the square matrix of their signs can be inverted" ("Adapted lists"); the whole of it is `invertible` of the crate solutions.
use mathlib.Core.Path.{◌≡◌, refl, sym, ap, ◌∙◌}
use mathlib.Core.List.{List, [], ◌∷◌}
use Prim.Native.Nat.{ℕ, zero, suc, ◌^◌, ◌<◌}
use native.Mathlib.Omega.{arith}
use lib.IntN.{ℤ, pos, *ℤ-zero, +ℤ_idl}
use lib.ListN.{length, get_or, replicate}
use Rattle.integers.proofs.Parts.{up, dn}
use Rattle.integers.proofs.Diff.{Diff, diff_one}
use Rattle.signs.specs.Lists.{times, Below, Rising}
use Rattle.signs.specs.Signs.{weighted}
use Rattle.signs.specs.Adapted.{adapted}
use Rattle.signs.proofs.Blocks.{adapted_below}
use Rattle.signs.proofs.Size.{below_under}
use Rattle.signs.proofs.Tallies.{tally, plus, tally_plus}
use Rattle.signs.proofs.Unique.{unique}
use Rattle.signs.proofs.Weights.{part, part_out, parts_same, weighted-tally}

-- numbers with the same queries on the adapted list are the same
pub same-queries : (s : ℕ) (L : List ℕ) (c d : List ℤ) → Rising L → Below (3 ^ s) L → length c ≡ length L → length d ≡ length L
    → ((α : ℕ) → 0 < times α (adapted s L) → weighted s L c α ≡ weighted s L d α) → c ≡ d
same-queries s L c d r b l m e =
    parts_same L c d r l m
    (λ q h.
    unique s L (plus (part up L c) (part dn L d)) (plus (part dn L c) (part up L d))
    (λ x k o. omega (arith, part_out up L c x o, part_out dn L c x o, part_out up L d x o, part_out dn L d x o))
    (λ α k. same α k) q (below_under (3 ^ s) L b q h))
  where
    same : (α : ℕ) → 0 < times α (adapted s L)
        → tally s α (plus (part up L c) (part dn L d)) (plus (part dn L c) (part up L d))
        ≡ tally s α (plus (part dn L c) (part up L d)) (plus (part up L c) (part dn L d))
    same α k =
        let x : Diff (weighted s L d α) (tally s α (part up L c) (part dn L c)) (tally s α (part dn L c) (part up L c)) =
        (rw (e α k) at (weighted-tally s α L c (adapted_below s α L k) b)) in
        omega (
          arith,
          diff_one (weighted s L d α) x (weighted-tally s α L d (adapted_below s α L k) b),
          tally_plus s α (part up L c) (part dn L d) (part dn L c) (part up L d),
          tally_plus s α (part dn L c) (part up L d) (part up L c) (part dn L d),
        )

-- ---- the numbers 0

zeros : ℕ → List ℤ
zeros n = replicate n (pos 0)

zeros_length : (n : ℕ) → length (zeros n) ≡ n
unfolding zeros
zeros_length zero = refl
zeros_length (suc n) = ap suc (zeros_length n)

zeros_at : (n k : ℕ) → get_or (zeros n) k (pos 0) ≡ pos 0
unfolding zeros
zeros_at zero zero = refl
zeros_at zero (suc k) = refl
zeros_at (suc n) zero = refl
zeros_at (suc n) (suc k) = zeros_at n k

zeros_query : (s α : ℕ) (L : List ℕ) → weighted s L (zeros (length L)) α ≡ pos 0
unfolding zeros weighted
zeros_query s α [] = refl
zeros_query s α (σ ∷ L) = rw (*ℤ-zero, zeros_query s α L) (+ℤ_idl (pos 0))

-- numbers whose queries on the adapted list are 0 are 0
pub unique_whole : (s : ℕ) (L : List ℕ) (c : List ℤ) → Rising L → Below (3 ^ s) L → length c ≡ length L
    → ((α : ℕ) → 0 < times α (adapted s L) → weighted s L c α ≡ pos 0) → (k : ℕ) → get_or c k (pos 0) ≡ pos 0
unique_whole s L c r b l e k =
    ap (λ (x : List ℤ). get_or x k (pos 0))
    (same-queries s L c (zeros (length L)) r b l (zeros_length (length L)) (λ α h. e α h ∙ sym (zeros_query s α L)))
    ∙ zeros_at (length L) k
