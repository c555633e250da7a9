-- The answer of a call that writes a card as plain numbers, and back.
--
--   written_of a   == the card's length; 0 where the call is refused
--   written_from t == the length where the refusal is 0, else refused by its number
use Rattle.std.specs.Prelude.{cond, eqb, ℕ, Result, Ok, Err}
use Rattle.refusals.specs.Refusals.{number_of, refusing}
use Rattle.refusals.specs.declared.Refusal.{Refusal}
use Rattle.tarski.specs.declared.FlatWritten.{FlatWritten}

unfoldable pub written_of : Result ℕ Refusal → FlatWritten
written_of (Ok n) = record { length = n; refusal = 0 }
written_of (Err e) = record { length = 0; refusal = number_of e }

unfoldable pub written_from : FlatWritten → Result ℕ Refusal
written_from t = cond (eqb t.refusal 0) (Ok t.length) (refusing t.refusal)
