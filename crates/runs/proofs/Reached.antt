-- Theorem: what every record holds that calls reach from a start.
use mathlib.Core.Path.{◌≡◌, refl, sym, ap, ◌∙◌, subst}
use mathlib.Core.List.{List, [], ◌∷◌}
use Prim.Native.Nat.{ℕ, zero, suc, ◌+◌, ◌*◌, ◌<◌, ◌≤◌}
use native.Mathlib.Omega.{arith}
use lib.IntN.{ℤ}
use lib.ListN.{length}
use Rattle.refusals.specs.Limits.{most_polynomials}
use Rattle.rounds.specs.Rows.{patterns}
use Rattle.rounds.specs.RoundEnd.{round_rows}
use Rattle.signs.proofs.Size.{as_many}
use Rattle.runs.specs.Run.{Phase, running, finished, closed, State, start_of}
use Rattle.runs.specs.Demand.{Call, state_after}
use Rattle.runs.specs.Reached.{InRound, Reached}
use Rattle.rounds.proofs.Answers.{Facts, facts, round-length}
use Rattle.rounds.proofs.RoundEnds.{round_rows_right}
use Rattle.rounds.proofs.RowLaws.{length-patterns}
use Rattle.rounds.proofs.Rounds.{fits-first, rows_oracle}
use Rattle.rounds.proofs.Questions.{rows-most}
use Rattle.runs.proofs.Invariant.{Going, At, Inv, start_inv, going_short}
use Rattle.runs.proofs.Story.{Story, story}

going_reached : (s : ℕ) (r : State) (zs : List ℤ) (ps : List ℕ) (i : ℕ) → Going s r zs ps i → r.total ≡ length zs → InRound r i
going_reached s r zs ps i g count =
    record {
      some_row = omega (arith, g.unfinished, round-length i r.rows F.rows);
      few_rows = rows-most i g.before g.asked r.rows g.determined;
      one_each =
          ap length g.adapted_list ∙ as_many i (patterns r.rows) F.rows.rising F.rows.below ∙ length-patterns r.rows;
      unfinished = omega (arith, g.unfinished, round-length i r.rows F.rows);
      few_points = omega (
        arith,
        fits-first i _ g.asked g.before r.n g.later_answers F.later_products g.first-answer F.first_product F.fits,
        (rows_oracle i i g.before g.asked r.rows (omega arith) F).0.held,
      );
      few_asked = omega (arith, count, going_short s i r zs ps g);
      adapted_list = g.adapted_list;
    }
  where
    F : Facts i g.before g.asked r.rows
    F = facts i g.before g.asked r.rows g.determined

inv_reached : (s : ℕ) (r : State) (zs : List ℤ) (ps : List ℕ) → Inv s r zs ps → Reached s r
inv_reached s r zs ps I =
    record {
      polynomials = I.polys;
      in_range = I.in_range;
      few_asked = omega (arith, I.count, I.few);
      before_first = λ e k. (at running 0 e k).2;
      at_round = λ e i k. going_reached s r zs ps i (at running (suc i) e k) I.count;
      few_rows = λ e. rows-most s zs ps r.rows (at finished r.round e refl);
    }
  where
    at : (f : Phase) (k : ℕ) → r.phase ≡ f → r.round ≡ k → At s r zs ps f k
    at f k e m = subst (At s r zs ps f) m (subst (λ (x : Phase). At s r zs ps x r.round) e I.at)

pub reached : (s : ℕ) → 1 ≤ s → s ≤ most_polynomials → (calls : List Call) → Reached s (state_after round_rows (start_of s) calls)
reached s h m calls =
    inv_reached s (state_after round_rows (start_of s) calls) _ _
    (story round_rows round_rows_right s h calls (start_of s) [] (0 ∷ []) (start_inv s)).inv
