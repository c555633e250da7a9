-- The records of a run and what its calls give are sets: of any two proofs that two of them are equal, one is as good as the other. A
-- promise of a lent record is known only so far (it holds, by some proof), and this lets it be used.
use mathlib.Core.Path.{◌≡◌, refl}
use mathlib.Core.HLevel.{Σ_set}
use mathlib.Core.List.{List, is_set}
use Prim.Native.Nat.{ℕ}
use native.Mathlib.Nat.{ℕ_set}
use lib.IntN.{ℤ, ℤ_set}
use ghost.Sets.{retract_set}
use Rattle.rounds.specs.Rows.{Row}
use Rattle.runs.specs.Run.{Step, ask, done, refused, Fetch, row, no_row, Copied, copied, not_copied, Copy, Phase, running, finished}
use Rattle.runs.specs.Run.{closed, State}

-- copies that the prover derives it of
data Step' : Type 0 where
  ask' : ℕ → Step'
  done' : Step'
  refused' : ℕ → Step'
  deriving IsSet as Step'-set

data Fetch' : Type 0 where
  row' : Row → Fetch'
  no_row' : ℕ → Fetch'
  deriving IsSet as Fetch'-set

data Copied' : Type 0 where
  copied' : ℕ → Copied'
  not_copied' : ℕ → Copied'
  deriving IsSet as Copied'-set

data Phase' : Type 0 where
  running' finished' closed' : Phase'
  deriving IsSet as Phase'-set

to_step : Step → Step'
to_step (ask α) = ask' α
to_step done = done'
to_step (refused k) = refused' k

from_step : Step' → Step
from_step (ask' α) = ask α
from_step done' = done
from_step (refused' k) = refused k

same_step : (x : Step) → from_step (to_step x) ≡ x
unfolding to_step from_step
same_step (ask α) = refl
same_step done = refl
same_step (refused k) = refl

pub step_set : IsSet Step
step_set = retract_set to_step from_step same_step (Step'-set ℕ_set)

to_phase : Phase → Phase'
to_phase running = running'
to_phase finished = finished'
to_phase closed = closed'

from_phase : Phase' → Phase
from_phase running' = running
from_phase finished' = finished
from_phase closed' = closed

same-phase : (f : Phase) → from_phase (to_phase f) ≡ f
unfolding to_phase from_phase
same-phase running = refl
same-phase finished = refl
same-phase closed = refl

phase-set : IsSet Phase
phase-set = retract_set to_phase from_phase same-phase Phase'-set

row-set : IsSet Row
row-set = retract_set {B = ℕ × ℕ} (λ r. (r.pattern, r.count)) (λ t. record { pattern = t.0; count = t.1 }) (λ r. refl)
    (Σ_set ℕ_set (λ _. ℕ_set))

pub state-set : IsSet State
state-set =
    retract_set {B = ℕ × (ℕ × (Phase × (ℕ × (ℕ × (List Row × (List ℕ × List ℤ))))))}
    (λ r. (r.polynomials, (r.total, (r.phase, (r.round, (r.n, (r.rows, (r.products, r.answers))))))))
    (λ t. record {
      polynomials = t.0;
      total = t.1.0;
      phase = t.1.1.0;
      round = t.1.1.1.0;
      n = t.1.1.1.1.0;
      rows = t.1.1.1.1.1.0;
      products = t.1.1.1.1.1.1.0;
      answers = t.1.1.1.1.1.1.1;
    })
    (λ r. refl)
    (Σ_set ℕ_set (λ _. Σ_set ℕ_set (λ _. Σ_set phase-set (λ _. Σ_set ℕ_set (λ _. Σ_set ℕ_set (λ _. Σ_set (is_set row-set)
    (λ _. Σ_set (is_set ℕ_set) (λ _. is_set ℤ_set))))))))

to_fetch : Fetch → Fetch'
to_fetch (row r) = row' r
to_fetch (no_row k) = no_row' k

from_fetch : Fetch' → Fetch
from_fetch (row' r) = row r
from_fetch (no_row' k) = no_row k

same-fetch : (x : Fetch) → from_fetch (to_fetch x) ≡ x
unfolding to_fetch from_fetch
same-fetch (row r) = refl
same-fetch (no_row k) = refl

pub fetch-set : IsSet Fetch
fetch-set = retract_set to_fetch from_fetch same-fetch (Fetch'-set row-set ℕ_set)

to_copied : Copied → Copied'
to_copied (copied n) = copied' n
to_copied (not_copied k) = not_copied' k

from_copied : Copied' → Copied
from_copied (copied' n) = copied n
from_copied (not_copied' k) = not_copied k

same-copied : (x : Copied) → from_copied (to_copied x) ≡ x
unfolding to_copied from_copied
same-copied (copied n) = refl
same-copied (not_copied k) = refl

pub copy-set : IsSet Copy
copy-set =
    retract_set {B = Copied × (List ℕ × List ℕ)} (λ c. (c.result, (c.patterns_left, c.counts_left)))
    (λ t. record { result = t.0; patterns_left = t.1.0; counts_left = t.1.1 })
    (λ c. refl)
    (Σ_set (retract_set to_copied from_copied same-copied (Copied'-set ℕ_set)) (λ _. Σ_set (is_set ℕ_set) (λ _. is_set ℕ_set)))
