-- What a record gives before any rule of the run is worked out: the number asked, a row, and all rows.
use mathlib.Core.Path.{◌≡◌, refl, sym, ◌∙◌}
use mathlib.Core.Bool.{Bool, true, false, cond}
use mathlib.Core.List.{List, ◌++◌}
use Prim.Native.Nat.{ℕ, ◌≤◌, ◌<◌}
use native.Mathlib.Omega.{arith}
use borrow.Author.Tests.{lt-ltb, le-ltb, le-leb, lt-leb}
use lib.ListN.{length, get_or, take, drop}
use lib.Seq.{length-take-le, get_or-take}
use Rattle.refusals.specs.Numbers.{late, past_last, too_short}
use Rattle.rounds.specs.Rows.{Row, rows_with}
use Rattle.runs.specs.Run.{Phase, running, finished, closed, row, no_row, copied, kept, fetch_of, fetch_rule, copy_of, copy_rule}
use Rattle.run_record.specs.Record.{is_running, is_done, state_in, run_phase, state_of}
use Rattle.run_record.specs.declared.Run.{Run}
use Rattle.runs.proofs.Phases.{running_not_finished, closed_not_finished}
use Rattle.runs.proofs.Held.{with_length, with_at, with_map_pattern, with_map-count}
use Rattle.run_record.proofs.Records.{done_is, done-phase}

pub total-asked : (r : Run) → r.asked ≡ (state_of r).total
unfolding state_of
total-asked r = refl

-- ---- no rows before done and after closed

not_finished : (r : Run) → is_done r ≡ false → (state_of r).phase ≡ finished → ⊥
unfolding state_of run_phase
not_finished r e = rw e (go (is_running r))
  where
    go : (b : Bool) → cond b running closed ≡ finished → ⊥
    go true z = running_not_finished z
    go false z = closed_not_finished z

no_fetch : (f : Phase) (R : List Row) (p : ℕ) → (f ≡ finished → ⊥) → no_row late ≡ fetch_rule f R p
unfolding fetch_rule
no_fetch running R p h = refl
no_fetch finished R p h = absurd (h refl)
no_fetch closed R p h = refl

pub fetch-late : (r : Run) (p : ℕ) → is_done r ≡ false → no_row late ≡ fetch_of (state_of r) p
unfolding fetch_of
fetch-late r p e = no_fetch (state_of r).phase (state_of r).rows p (not_finished r e)

no_copy : (f : Phase) (R : List Row) (a b : List ℕ) → (f ≡ finished → ⊥) → kept late a b ≡ copy_rule f R a b
unfolding copy_rule
no_copy running R a b h = refl
no_copy finished R a b h = absurd (h refl)
no_copy closed R a b h = refl

pub copy-late : (r : Run) (a b : List ℕ) → is_done r ≡ false → kept late a b ≡ copy_of (state_of r) a b
unfolding copy_of
copy-late r a b e = no_copy (state_of r).phase (state_of r).rows a b (not_finished r e)

-- ---- rows once done

module _ (r : Run) (d : is_done r ≡ true) (P : length r.patterns ≡ 64) (C : length r.counts ≡ 64) where
  few : r.rows ≤ 64
  few = (done-phase r d).1

  finished_is : state_of r ≡ state_in finished r
  finished_is = done_is r d

  p_length : length (take r.rows r.patterns) ≡ r.rows
  p_length = length-take-le r.rows r.patterns (omega (arith, few))

  c_length : length (take r.rows r.counts) ≡ r.rows
  c_length = length-take-le r.rows r.counts (omega (arith, few))

  rows-length : length (rows_with (take r.rows r.patterns) (take r.rows r.counts)) ≡ r.rows
  rows-length = with_length (take r.rows r.patterns) (take r.rows r.counts) (p_length ∙ sym c_length) ∙ p_length

  pub fetch-past : (p : ℕ) → r.rows ≤ p → no_row past_last ≡ fetch_of (state_of r) p
  unfolding fetch_of fetch_rule
  fetch-past p h = rw (finished_is, rows-length, le-ltb p r.rows h) refl

  pub fetch-at : (p : ℕ) → p < r.rows → row (record { pattern = get_or r.patterns p 0; count = get_or r.counts p 0 })
      ≡ fetch_of (state_of r) p
  unfolding fetch_of fetch_rule
  fetch-at p h =
      let e = with_at (take r.rows r.patterns) (take r.rows r.counts) p (p_length ∙ sym c_length) (omega (arith, p_length)) in
      rw (
        finished_is,
        rows-length,
        lt-ltb p r.rows h,
        e,
        get_or-take r.rows r.patterns p 0 h,
        get_or-take r.rows r.counts p 0 h,
      )
      refl

  pub copy-short-patterns : (a b : List ℕ) → length a < r.rows → kept too_short a b ≡ copy_of (state_of r) a b
  unfolding copy_of copy_rule
  copy-short-patterns a b h = rw (finished_is, rows-length, lt-leb r.rows (length a) h) refl

  pub copy-short-counts : (a b : List ℕ) → r.rows ≤ length a → length b < r.rows → kept too_short a b ≡ copy_of (state_of r) a b
  unfolding copy_of copy_rule
  copy-short-counts a b g h = rw (finished_is, rows-length, le-leb r.rows (length a) g, lt-leb r.rows (length b) h) refl

  pub copy-all : (a b : List ℕ) → r.rows ≤ length a → r.rows ≤ length b
      → record {
        result = copied r.rows;
        patterns_left = take r.rows r.patterns ++ drop r.rows a;
        counts_left = take r.rows r.counts ++ drop r.rows b;
      } ≡ copy_of (state_of r) a b
  unfolding copy_of copy_rule
  copy-all a b g h =
      rw (
        finished_is,
        rows-length,
        le-leb r.rows (length a) g,
        le-leb r.rows (length b) h,
        with_map_pattern (take r.rows r.patterns) (take r.rows r.counts) (p_length ∙ sym c_length),
        with_map-count (take r.rows r.patterns) (take r.rows r.counts) (p_length ∙ sym c_length),
      )
      refl
