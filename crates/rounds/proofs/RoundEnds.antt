-- Theorem: the end of a round is right. `round_rows` gives the rows after a round wherever there are some, and none where there are none.
use mathlib.Core.Path.{◌≡◌, refl, sym, ◌∙◌}
use mathlib.Core.Bool.{true, cond, ◌&&◌}
use mathlib.Core.Option.{Option, some, none}
use mathlib.Core.List.{List, [], ◌∷◌, ◌++◌}
use Prim.Native.Nat.{ℕ, ◌+◌, ◌*◌, ◌^◌, ◌≤◌}
use native.Mathlib.Omega.{arith}
use borrow.Author.Tests.{lt-ltb}
use lib.Dec.{eqb, leb, ltb, le→leb, eqb_refl}
use lib.IntN.{ℤ}
use lib.ListN.{length, replicate, length-append, length-replicate}
use Rattle.refusals.specs.Limits.{most_points}
use Rattle.integers.proofs.Tests.{is_true}
use Rattle.signs.specs.Lists.{is_below, is_rising}
use Rattle.signs.proofs.Orders.{both, below_test, rising_test}
use Rattle.rounds.specs.Rows.{Row, patterns, counts, repeated, Positive, IsRows}
use Rattle.rounds.specs.Rounds.{round_of}
use Rattle.rounds.specs.NextRows.{RightRows}
use Rattle.rounds.specs.Moments.{by_moments}
use Rattle.rounds.specs.RoundEnd.{all_positive, sum, proper_rows, round_rows}
use Rattle.rounds.proofs.Answers.{round-length}
use Rattle.rounds.proofs.Moments.{to_some, from_some}

pub positive_test : (R : List Row) → Positive R → all_positive (counts R) ≡ true
unfolding Positive counts all_positive
positive_test [] p = refl
positive_test (r ∷ R) p = both (ltb 0 r.count) (all_positive (counts R)) (lt-ltb 0 r.count p.0) (positive_test R p.1)

pub sum-points : (R : List Row) → sum (counts R) ≡ length (repeated R)
unfolding counts sum repeated
sum-points [] = refl
sum-points (r ∷ R) =
    omega (arith, length-append (replicate r.count r.pattern) (repeated R), length-replicate r.count r.pattern, sum-points R)

-- rows as a round leaves them pass the test
pub proper_test : (i : ℕ) (R : List Row) → IsRows i R → length (repeated R) ≤ most_points → proper_rows i R ≡ true
unfolding proper_rows
proper_test i R rows few =
    rw (
      rising_test (patterns R) rows.rising,
      below_test (3 ^ i) (patterns R) rows.below,
      positive_test R rows.positive,
      sum-points R,
      is_true (leb (length (repeated R)) most_points) (le→leb (length (repeated R)) most_points few),
    )
    refl

-- on them, with all answers of a round, the two questions to the solver are asked
asked : (i : ℕ) (R₀ : List Row) (ws : List ℤ) → IsRows i R₀ → length (repeated R₀) ≤ most_points
    → length ws ≡ length (round_of i (patterns R₀))
    → round_rows i R₀ ws ≡ by_moments i R₀ ws
unfolding round_rows
asked i R₀ ws rows few full =
    rw (
      proper_test i R₀ rows few,
      full ∙ round-length i R₀ rows,
      is_true (eqb (2 * length R₀) (2 * length R₀)) (eqb_refl (2 * length R₀)),
    )
    refl

pub round_rows_right : RightRows round_rows
round_rows_right =
    record {
      found = λ i R₀ ws R rows few full e. from_some i R₀ ws rows few full R (sym (asked i R₀ ws rows few full) ∙ e);
      missing = λ i R₀ ws R rows few full e M.
          let k = sym (to_some i R₀ ws rows few full R M) ∙ sym (asked i R₀ ws rows few full) ∙ e in
          let x : ◌≡◌ {A = ℕ} 0 1 = cc in omega arith;
    }
