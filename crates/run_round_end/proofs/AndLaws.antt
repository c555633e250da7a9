-- Tests joined by `&&`, as the code takes them one after the other.
use Rattle.std.proofs.Common.{◌≡◌, sym, ◌∙◌, Bool, true, false, ◌&&◌}
use Rattle.std.proofs.lemmas.Bool.{false≢true}

-- the first holds, and the second is asked; or the first does not
pub asked : (a b v : Bool) → a ≡ true → v ≡ b → v ≡ a && b
asked a b v e f = rw e f

pub not_asked : (a b v : Bool) → a ≡ false → v ≡ false → v ≡ a && b
not_asked a b v e f = rw e f

-- what comes after the first two
pub then_last : (a b d v r : Bool) → v ≡ a && b → v ≡ true → r ≡ d → r ≡ a && (b && d)
then_last true true d v r e t h = h
then_last true false d v r e t h = absurd (false≢true (sym e ∙ t))
then_last false b d v r e t h = absurd (false≢true (sym e ∙ t))

pub not_last : (a b d v : Bool) → v ≡ a && b → v ≡ false → v ≡ a && (b && d)
not_last true true d v e t = absurd (false≢true (sym t ∙ e))
not_last true false d v e t = t
not_last false b d v e t = t
