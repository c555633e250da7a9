-- The rows after a round: patterns of one polynomial more, rising, and some where there were some.
use mathlib.Core.Path.{◌≡◌, refl, sym, ◌∙◌}
use mathlib.Core.Bool.{Bool, true, false, cond, ◌&&◌}
use mathlib.Core.Option.{Option, some, none}
use mathlib.Core.List.{List, [], ◌∷◌}
use Prim.Native.Nat.{ℕ, suc, ◌+◌, ◌*◌, ◌^◌, ◌≤◌, ◌<◌}
use native.Mathlib.Omega.{arith}
use borrow.Author.Tests.{ltb-true, leb-true, eqb-true}
use lib.Dec.{eqb, ltb}
use lib.IntN.{ℤ}
use lib.ListN.{length}
use Rattle.refusals.specs.Limits.{most_points}
use Rattle.signs.specs.Lists.{is_rising, is_below, Rising, Below}
use Rattle.signs.proofs.Orders.{both_left, both_right, rising_from, below_from}
use Rattle.rounds.specs.Rows.{Row, patterns, counts, repeated, Positive, IsRows}
use Rattle.rounds.specs.NextRows.{NextRows}
use Rattle.rounds.specs.Moments.{by_moments}
use Rattle.rounds.specs.RoundEnd.{all_positive, sum, proper_rows, round_rows}
use Rattle.rounds.proofs.RowLaws.{no_points, points-same}
use Rattle.rounds.proofs.Answers.{round-length}
use Rattle.rounds.proofs.RoundEnds.{sum-points, round_rows_right}

positive_from : (R : List Row) → all_positive (counts R) ≡ true → Positive R
unfolding Positive counts all_positive
positive_from [] e = tt
positive_from (r ∷ R) e = (
  ltb-true 0 r.count (both_left (ltb 0 r.count) (all_positive (counts R)) e),
  positive_from R (both_right (ltb 0 r.count) (all_positive (counts R)) e),
)

-- rows that pass the test are rows as a round leaves them
proper_rows_lem : (i : ℕ) (R : List Row) → proper_rows i R ≡ true → IsRows i R × (length (repeated R) ≤ most_points)
unfolding proper_rows
proper_rows_lem i R e =
    let e₁ = both_right (is_rising (patterns R)) _ e in
    let e₂ = both_right (is_below (3 ^ i) (patterns R)) _ e₁ in (
      record {
        rising = rising_from (patterns R) (both_left (is_rising (patterns R)) _ e);
        below = below_from (3 ^ i) (patterns R) (both_left (is_below (3 ^ i) (patterns R)) _ e₁);
        positive = positive_from R (both_left (all_positive (counts R)) _ e₂);
      },
      omega (arith, leb-true (sum (counts R)) most_points (both_right (all_positive (counts R)) _ e₂), sum-points R),
    )

-- where a round has rows after it, those before it passed the test, and the answers were all there
passed : (b : Bool) (x : Option (List Row)) (R : List Row) → cond b x none ≡ some R → b ≡ true
passed true x R e = refl
passed false x R e = let k : ◌≡◌ {A = ℕ} 0 1 = cc in absurd (omega arith)

answered : (i : ℕ) (R₀ : List Row) (ws : List ℤ) (R : List Row) → round_rows i R₀ ws ≡ some R → proper_rows i R₀
    && eqb (length ws) (2 * length R₀) ≡ true
unfolding round_rows
answered i R₀ ws R e = passed (proper_rows i R₀ && eqb (length ws) (2 * length R₀)) (by_moments i R₀ ws) R e

next : (i : ℕ) (R₀ : List Row) (ws : List ℤ) (R : List Row) → round_rows i R₀ ws ≡ some R → IsRows i R₀ × NextRows i R₀ ws R
next i R₀ ws R e =
    let t = answered i R₀ ws R e in
    let p = proper_rows_lem i R₀ (both_left (proper_rows i R₀) _ t) in
    let full = eqb-true (length ws) (2 * length R₀) (both_right (proper_rows i R₀) _ t) ∙ sym (round-length i R₀ p.0) in
    (p.0, round_rows_right.found i R₀ ws R p.0 p.1 full e)

pub ends-rising : (i : ℕ) (R₀ : List Row) (ws : List ℤ) (R : List Row) → round_rows i R₀ ws ≡ some R → Rising (patterns R)
ends-rising i R₀ ws R e = (next i R₀ ws R e).1.rows.rising

pub ends-below : (i : ℕ) (R₀ : List Row) (ws : List ℤ) (R : List Row) → round_rows i R₀ ws ≡ some R → Below (3 ^ suc i) (patterns R)
ends-below i R₀ ws R e = (next i R₀ ws R e).1.rows.below

-- a point of the rows before stays one of the rows after
some_stay : (i : ℕ) (R₀ : List Row) (ws : List ℤ) (R : List Row) → IsRows i R₀ → NextRows i R₀ ws R → 0 < length R₀ → 0 < length R
unfolding Positive patterns Below
some_stay i [] ws R I N h = absurd (omega arith)
some_stay i (r ∷ R₀) ws [] I N h =
    let q = r.pattern in
    absurd (omega (
      arith,
      N.sums q I.below.0,
      I.positive.0,
      points-same r R₀,
      no_points q,
      no_points (q + 3 ^ i),
      no_points (q + 2 * 3 ^ i),
    ))
some_stay i (r ∷ R₀) ws (r₁ ∷ R) I N h = omega arith

pub ends_some : (i : ℕ) (R₀ : List Row) (ws : List ℤ) (R : List Row) → round_rows i R₀ ws ≡ some R → 0 < length R₀ → 0 < length R
ends_some i R₀ ws R e h = let n = next i R₀ ws R e in some_stay i R₀ ws R n.0 n.1 h
