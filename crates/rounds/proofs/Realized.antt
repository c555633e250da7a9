-- The realized list in demand 3's own words: "each pattern that occurs, once, in rising order, with its true count".
use mathlib.Core.Path.{◌≡◌, refl, sym, ap, ◌∙◌}
use mathlib.Core.List.{List, [], ◌∷◌}
use Prim.Native.Nat.{ℕ, suc, ◌+◌, ◌^◌, ◌<◌, ◌≤◌}
use native.Mathlib.Omega.{arith}
use native.Mathlib.Decide.{dec_lt}
use Rattle.signs.specs.Lists.{times, Below, Rising}
use Rattle.signs.proofs.Lists.{times-same, times-append}
use Rattle.signs.proofs.Size.{below_under, rising-once}
use Rattle.rounds.specs.Rows.{Row, patterns, repeated, IsRows, IsAt, rows_of, realized, IsRealized}
use Rattle.rounds.proofs.RowLaws.{zero-unless, points-same, points_in, patterns_in, no_count, points-append, patterns-append}
use Rattle.rounds.proofs.RowLaws.{rows_of-rows, rows_of_in, rows_of-out}

-- ---- positions

pub at_head : (r : Row) (R : List Row) → IsAt (r ∷ R) 0 r
at_head r R = record { before = []; after = R; splits = refl; position = refl }

pub at_tail : (x : Row) (R : List Row) (p : ℕ) (r : Row) → IsAt R p r → IsAt (x ∷ R) (suc p) r
at_tail x R p r i =
    record { before = x ∷ i.before; after = i.after; splits = ap (λ (l : List Row). x ∷ l) i.splits; position = ap suc i.position }

-- a row's pattern stands among the patterns, and its count is that of its pattern
at-times : (K : List Row) (p : ℕ) (r : Row) (i : IsAt K p r)
    → times r.pattern (patterns K) ≡ times r.pattern (patterns i.before) + suc (times r.pattern (patterns i.after))
at-times K p r i =
    ap (λ (l : List Row). times q (patterns l)) i.splits ∙ ap (times q) (patterns-append i.before (r ∷ i.after))
    ∙ (unfold patterns in
    times-append q (patterns i.before) (q ∷ patterns i.after)
    ∙ ap (λ (x : ℕ). times q (patterns i.before) + x) (times-same q (patterns i.after)))
  where
    q : ℕ
    q = r.pattern

pub at_in : (K : List Row) (p : ℕ) (r : Row) → IsAt K p r → 0 < times r.pattern (patterns K)
at_in K p r i = omega (arith, at-times K p r i)

pub count_of : (K : List Row) (p : ℕ) (r : Row) → Rising (patterns K) → IsAt K p r → r.count ≡ times r.pattern (repeated K)
count_of K p r u i =
    omega (
      arith,
      ap (λ (l : List Row). times q (repeated l)) i.splits,
      points-append q i.before (r ∷ i.after),
      points-same r i.after,
      no_count i.before q (omega (arith, once, at-times K p r i)),
      no_count i.after q (omega (arith, once, at-times K p r i)),
    )
  where
    q : ℕ
    q = r.pattern

    once : times q (patterns K) ≤ 1
    once = rising-once (patterns K) u q

pub realized_true : (s : ℕ) (E : List ℕ) → Below (3 ^ s) E → IsRealized E (realized s E)
unfolding realized
realized_true s E b =
    record {
      occurs = λ q. (
        λ h. omega (arith, all q, patterns_in q K r.positive h),
        λ h. points_in q K (omega (arith, all q)),
      );
      once = rising-once (patterns K) r.rising;
      rising = r.rising;
      true_count = λ p x i. count_of K p x r.rising i ∙ all x.pattern;
    }
  where
    K : List Row
    K = rows_of (3 ^ s) (λ q. times q E)

    r : IsRows s K
    r = rows_of-rows s (λ q. times q E)

    all : (q : ℕ) → times q (repeated K) ≡ times q E
    all q = go (dec_lt q (3 ^ s))
      where
        go : Dec (q < 3 ^ s) → times q (repeated K) ≡ times q E
        go (yes h) = rows_of_in (3 ^ s) (λ x. times x E) q h
        go (no h) =
            rows_of-out (3 ^ s) (λ x. times x E) q (omega arith)
            ∙ sym (zero-unless (times q E) (λ k. let l : q < 3 ^ s = below_under (3 ^ s) E b q k in omega arith))
