-- What a call on lent memory promises, read off the contract that the prover makes of its clauses. A covered function has `Learnt` for it;
-- a function over a lent record has only the assertion of the program logic, so what is known of a call is that this assertion held where
-- the call ended.
--
--   World    == what the program logic leaves open: the resources, and what memory, atoms and routines mean over them
--   Held w P == the assertion P held, of some resource of the world w
use mathlib.Core.Logic.{∥∥₁_elim}
use seplogic.Ra.Ura.{Ura}
use base.Logic.{SProp, emp}
use prog.Memory.{Memory}
use prog.Routine.{Routine}
use types.Logic.{Logic}
use contract.Monad.{Fun, fact, fact_i}

pub record World : Type 2 where
  pub M : Type 1
  pub resources : Ura M
  pub 𝓛 : Logic resources
  pub memory : Memory → SProp resources
  pub routines : Routine → Fun resources

abbrev pub Held : (w : World) → SProp w.resources → Type 1
Held w P = (m : w.M) × P.holds m

-- a fact is held in every world: `Held` of it says no more than the fact
pub held_fact : (w : World) (φ : Type 0) → φ → Held w (fact w.resources φ)
held_fact w φ x = (w.resources.one, (fact_i w.resources φ (emp w.resources) x).apply w.resources.one tt)

-- a fact that held gives what follows from it, where any two proofs of that are equal
pub fact_held : (w : World) (φ ψ : Type 0) → IsProp ψ → (φ → ψ) → Held w (fact w.resources φ) → ψ
fact_held w φ ψ p f (m, h) = ∥∥₁_elim h p (λ t. f t.0)
