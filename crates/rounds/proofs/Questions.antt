-- How many products a run asks: 1 + 2 × (r(0) + .. + r(s−1)) where r(i) is the number of rows after round i, at most 3^i and at most 64.
-- So with 8 polynomials it is at most 593.
use mathlib.Core.Path.{◌≡◌, refl, sym, ap, ◌∙◌, subst}
use mathlib.Core.Logic.{◌≢◌}
use mathlib.Core.Bool.{cond}
use mathlib.Core.List.{List, [], ◌∷◌, ◌++◌, append-nil}
use Prim.Native.Nat.{ℕ, zero, suc, ◌+◌, ◌*◌, ◌^◌, min, ◌<◌, ◌≤◌}
use native.Mathlib.Omega.{arith}
use native.Mathlib.Decide.{ℕ_discrete}
use lib.Dec.{eqb}
use lib.IntN.{ℤ, pos}
use lib.ListN.{length, replicate, length-append, length-replicate}
use Rattle.refusals.specs.Limits.{most_points, most_polynomials}
use Rattle.integers.proofs.Tests.{eqb_same, eqb_other}
use Rattle.signs.specs.Lists.{times}
use Rattle.signs.proofs.Size.{total, total_mono, rising-length}
use Rattle.rounds.specs.Rows.{Row, patterns, repeated, Positive, row_if}
use Rattle.rounds.specs.Rounds.{round_of, Determined, RowsAfter}
use Rattle.rounds.proofs.RowLaws.{length-patterns}
use Rattle.rounds.proofs.Answers.{Facts, facts, round-length}
use Rattle.rounds.proofs.Rounds.{past_more, answered-past, determined_unique, determined_empty, rows_oracle}

-- ---- the exact number

total-same : (f g : ℕ → ℕ) (n : ℕ) → ((q : ℕ) → q < n → f q ≡ g q) → total f n ≡ total g n
total-same f g n e = omega (arith, total_mono f g n (λ q h. omega (arith, e q h)), total_mono g f n (λ q h. omega (arith, e q h)))

-- the numbers r(j) of rows, of which the last is k
with_last : ℕ → ℕ → (ℕ → ℕ) → ℕ → ℕ
with_last i k r j = cond (eqb j i) k (r j)

last_is : (i k : ℕ) (r : ℕ → ℕ) → with_last i k r i ≡ k
unfolding with_last
last_is i k r = rw (eqb_same i) refl

others_are : (i k : ℕ) (r : ℕ → ℕ) (j : ℕ) → j ≢ i → with_last i k r j ≡ r j
unfolding with_last
others_are i k r j h = rw (eqb_other j i h) refl

pub exact-sum : (i : ℕ) (zs : List ℤ) (ps : List ℕ) (R : List Row) → Determined i zs ps R
    → (r : ℕ → ℕ) × ((j : ℕ) → j < i → RowsAfter j zs (r j)) × (length ps ≡ 1 + 2 * total r i)
unfolding Determined total
exact-sum zero zs ps R (n, h, e, f, g) = ((λ j. 0), (λ j k. absurd (omega arith)), ap length f)
exact-sum (suc i) zs ps R (a, c) = next (exact-sum i a.before a.asked a.rows a.after)
  where
    F : Facts i a.before a.asked a.rows
    F = facts i a.before a.asked a.rows a.after

    next : (r : ℕ → ℕ) × ((j : ℕ) → j < i → RowsAfter j a.before (r j)) × (length a.asked ≡ 1 + 2 * total r i)
        → (r : ℕ → ℕ) × ((j : ℕ) → j < suc i → RowsAfter j zs (r j)) × (length ps ≡ 1 + 2 * (total r i + r i))
    next (r, each, e) = (
      with_last i (length a.rows) r,
      (λ j h. go j h (ℕ_discrete j i)),
      omega (
        arith,
        e,
        ap length a.products,
        length-append a.asked (round_of i (patterns a.rows)),
        round-length i a.rows F.rows,
        last_is i (length a.rows) r,
        total-same (with_last i (length a.rows) r) r i (λ q h. others_are i (length a.rows) r q (omega arith)),
      ),
    )
      where
        go : (j : ℕ) → j < suc i → Dec (j ≡ i) → RowsAfter j zs (with_last i (length a.rows) r j)
        go j h (yes f) =
            subst (λ (x : ℕ). RowsAfter x zs (with_last i (length a.rows) r x)) (sym f)
            (answered-past i zs ps a, sym (last_is i (length a.rows) r))
        go j h (no f) =
            subst (RowsAfter j zs) (sym (others_are i (length a.rows) r j f))
            (let (b, n) = each j (omega arith) in
            subst (λ (l : List ℤ). RowsAfter j l (r j)) (sym a.answers) (past_more j a.before a.now b, n))

-- where the first answer is 0 there is no other
pub first-zero : (i : ℕ) (zs us : List ℤ) (ps : List ℕ) (R : List Row) → Determined i zs ps R → zs ≡ pos 0 ∷ us → zs ≡ pos 0 ∷ []
first-zero i zs us ps R d e = (determined_unique i zs (pos 0 ∷ []) [] us ps (0 ∷ []) R [] d (determined_empty i) (append-nil zs ∙ e)).0

-- r(0) = 1 where n > 0
pub one-row : (i k : ℕ) (zs : List ℤ) (ps : List ℕ) (R : List Row) → Determined i zs ps R → zs ≢ pos 0 ∷ [] → RowsAfter 0 zs k → k ≡ 1
unfolding Determined
one-row i k zs ps R d h (a, many) = go a.determined
  where
    go : (n : ℕ) × (n ≤ most_points) × (a.before ≡ pos n ∷ []) × (a.asked ≡ 0 ∷ []) × (a.rows ≡ row_if 0 n) → k ≡ 1
    go (zero, m, e, f, g) = absurd (h (first-zero i zs a.now ps R d (a.answers ∙ ap (λ (l : List ℤ). l ++ a.now) e)))
    go (suc n, m, e, f, g) = sym many ∙ ap length g ∙ (unfold row_if in refl)

-- ---- bounds

-- each row has a point
rows-points : (R : List Row) → Positive R → length R ≤ length (repeated R)
unfolding Positive repeated
rows-points [] p = omega arith
rows-points (r ∷ R) p =
    omega (
      arith,
      rows-points R p.1,
      p.0,
      length-append (replicate r.count r.pattern) (repeated R),
      length-replicate r.count r.pattern,
    )

pub rows-most : (i : ℕ) (zs : List ℤ) (ps : List ℕ) (R : List Row) → Determined i zs ps R → length R ≤ most_points
rows-most i zs ps R d =
    let F : Facts i zs ps R = facts i zs ps R d in
    omega (arith, rows-points R F.rows.positive, (rows_oracle i i zs ps R (omega arith) F).0.held)

total-ones : (f : ℕ → ℕ) (n : ℕ) → total (λ q. min 1 (f q)) n ≤ n
unfolding total
total-ones f zero = omega arith
total-ones f (suc n) = omega (arith, total-ones f n)

rows-three : (i : ℕ) (zs : List ℤ) (ps : List ℕ) (R : List Row) → Determined i zs ps R → length R ≤ 3 ^ i
rows-three i zs ps R d =
    let F : Facts i zs ps R = facts i zs ps R d in
    omega (
      arith,
      length-patterns R,
      rising-length (3 ^ i) (patterns R) F.rows.rising F.rows.below,
      total-ones (λ q. times q (patterns R)) (3 ^ i),
    )

-- the most rows after round i
most : ℕ → ℕ
most i = min (3 ^ i) most_points

after-most : (i k : ℕ) (zs : List ℤ) → RowsAfter i zs k → k ≤ most i
unfolding most
after-most i k zs (a, many) =
    omega (
      arith,
      many,
      rows-most i a.before a.asked a.rows a.determined,
      rows-three i a.before a.asked a.rows a.determined,
    )

total_longer : (f : ℕ → ℕ) (m n : ℕ) → m ≤ n → total f m ≤ total f n
unfolding total
total_longer f m zero h = let e : m ≡ 0 = omega arith in rw e (omega arith)
total_longer f m (suc n) h = go (ℕ_discrete m (suc n)) (total_longer f m n)
  where
    go : Dec (m ≡ suc n) → (m ≤ n → total f m ≤ total f n) → total f m ≤ total f n + f n
    go (yes e) ih = let s : total f m ≡ total f n + f n = ap (total f) e in omega arith
    go (no e) ih = omega (arith, ih (omega arith))

most-8 : total most 8 ≡ 296
unfolding total most
most-8 = refl

-- with at most 8 polynomials
pub at-most-593 : (s k : ℕ) (zs : List ℤ) (r : ℕ → ℕ) → s ≤ most_polynomials → ((i : ℕ) → i < s → RowsAfter i zs (r i))
    → k ≡ 1 + 2 * total r s → k ≤ 593
at-most-593 s k zs r h each e =
    omega (arith, total_mono r most s (λ i b. after-most i (r i) zs (each i b)), total_longer most s 8 h, most-8)
