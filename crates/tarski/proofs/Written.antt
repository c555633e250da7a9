-- THEOREM of the library for C: what it gives for cards written and drawn is what the claims of `card_writer` and `card_draw` say. A call
-- is known by its contract alone (`Learnt`), so that a weaker promise breaks the theorem.
use mathlib.Core.Path.{◌≡◌, refl, ap}
use mathlib.Core.List.{List}
use Prim.Native.Nat.{ℕ}
use borrow.Author.Tests.{ne_eqb}
use contract.Lifetimes.{Lfts}
use denote.Ref.{Bor, MutBor}
use lib.IntN.{ℤ}
use Rattle.std.proofs.Common.{Result, Ok, Err}
use Rattle.refusals.specs.Refusals.{number_of}
use Rattle.refusals.specs.declared.Refusal.{Refusal}
use Rattle.refusals.proofs.Refusals.{by_own}
use Rattle.card_writer.specs.Writing.{writing}
use Rattle.card_writer.specs.Claim.{WriteGives}
use Rattle.card_writer.proofs.Calls.{writing-gives}
use Rattle.card_draw.specs.Drawn.{drawing}
use Rattle.card_draw.specs.Claim.{DrawGives}
use Rattle.card_draw.proofs.Calls.{drawing-gives}
use Rattle.tarski.specs.declared.FlatWritten.{FlatWritten}
use Rattle.tarski.specs.Written.{written_of, written_from}
use Rattle.tarski.proofs.Plain.{number_some}
use Rattle.tarski.proofs.tarski_write.Reads as write
use Rattle.tarski.proofs.tarski_draw.Reads as draw

-- an answer as plain numbers, and back
written_back : (a : Result ℕ Refusal) → written_from (written_of a) ≡ a
unfolding written_from written_of
written_back (Ok n) = refl
written_back (Err e) = rw (ne_eqb (number_of e) 0 (number_some e)) (ap Err (by_own e))

pub library_write : (κs : Lfts 4) (ds : Bor (List ℕ)) (cs ps : Bor (List ℤ)) (out out' : MutBor (List ℕ)) (o : FlatWritten)
    → write.Learnt κs (ds, (cs, (ps, (out, tt)))) o (ds, (cs, (ps, (out', tt))))
    → WriteGives ds.now cs.now ps.now out.now (written_from o) out'.now
library_write κs ds cs ps out out' o (e, f) =
    rw (e, f, written_back (writing ds.now cs.now ps.now out.now).0) (writing-gives ds.now cs.now ps.now out.now)

pub library_draw : (κs : Lfts 1) (seed s n d : ℕ) (out out' : MutBor (List ℕ)) (o : FlatWritten)
    → draw.Learnt κs (seed, (s, (n, (d, (out, tt))))) o (seed, (s, (n, (d, (out', tt)))))
    → DrawGives seed s n d out.now (written_from o) out'.now
library_draw κs seed s n d out out' o (e, f) = rw (e, f, written_back (drawing seed s n d out.now).0) (drawing-gives seed s n d out.now)
