-- `determination::start` meets its contract: the record begun, or the closed one as it was.
use mathlib.Core.Path.{◌≡◌}
use Prim.Native.Nat.{ℕ, ◌≤◌}
use native.Mathlib.Decide.{dec_le}
use native.Mathlib.Omega.{arith}
use borrow.Author.Tests.{le-leb, lt-leb}
use Rattle.refusals.specs.Numbers.{wrong_count}
use Rattle.runs.specs.Run.{State, Step, refused}
use Rattle.run_record.specs.Record.{closed_phase, state_of, started_of, StartGives, StartIn}
use Rattle.run_record.specs.declared.Run.{Run}
use Rattle.run_record.proofs.Records.{closed-phase}
use Rattle.determination.proofs.start.Goals as goal

module _ (r : Run) (s : ℕ)
    (k : (r.polynomials ≡ s) × (r.phase ≡ closed_phase) × (r.asked ≡ 0) × (r.round ≡ 0) × (r.n ≡ 0) × (r.rows ≡ 0) × (r.answered ≡ 0)) where
  -- a start that is refused
  refused_gives : ((1 ≤ s) × (s ≤ 8) → ⊥) → StartGives s r (refused wrong_count)
  unfolding started_of
  refused_gives h =
      record { by_rules = go (dec_le 1 s) (dec_le s 8); closes = λ j _. record { phase = k.1; no_rows = k.5; no_answers = k.6 } }
    where
      go : Dec (1 ≤ s) → Dec (s ≤ 8) → ◌≡◌ {A = State × Step} (state_of r, refused wrong_count) (started_of s)
      go (yes a) (yes b) = absurd (h (a, b))
      go (yes a) (no b) = rw (le-leb 1 s a, lt-leb s 8 (omega arith), closed-phase r k.1) (cc)
      go (no a) b = rw (lt-leb 1 s (omega arith), closed-phase r k.1) (cc)

  pub started : (r' : Run) (x : Step) → StartIn r s r' x → StartGives s r' x
  started r' x g = go (dec_le 1 s) (dec_le s 8)
    where
      refuses : ((1 ≤ s) × (s ≤ 8) → ⊥) → StartGives s r' x
      refuses h = rw ((g.refuses h).0, (g.refuses h).1) (refused_gives h)

      go : Dec (1 ≤ s) → Dec (s ≤ 8) → StartGives s r' x
      go (yes a) (yes b) = g.begins a b
      go (yes a) (no b) = refuses (λ h. b h.1)
      go (no a) b = refuses (λ h. a h.0)

pub returns : goal.returns
returns c = started _ c.args.s c.unstarted-run.ensures _ _ c.start-step.ensures
