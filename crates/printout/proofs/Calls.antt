-- THEOREM of the code: what `begin` and then `next_line` give, call after call, is the card's printout. The calls are known by their
-- contracts alone (`Learnt`: what a call promises of its arguments and its result), so that a weaker promise of either breaks the theorem.
-- And what `printout` leaves in the slice is that text, by its contract alone.
--
--   Calls t os  == calls of `next_line` one after the other, the first on t and each on the progress that the one before left, gave os
--   last_of t os == the progress that they leave
--   texts os    == the lines that they gave
use mathlib.Core.Path.{◌≡◌, refl, sym, ap₂, ◌∙◌, subst}
use mathlib.Core.List.{List, [], ◌∷◌, map}
use Prim.Native.Nat.{ℕ}
use native.Mathlib.Omega.{arith}
use borrow.Author.Tests.{le-leb, lt-leb}
use lib.ListN.{length, drop}
use lib.Seq.{take_at, drop_at}
use contract.Lifetimes.{Lfts}
use denote.Ref.{Bor, MutBor}
use Rattle.lines.specs.Text.{text_of}
use Rattle.printout.specs.declared.Progress.{Progress}
use Rattle.printout.specs.declared.Printed.{Printed}
use Rattle.std.specs.Prelude.{Result}
use Rattle.refusals.specs.declared.Refusal.{Refusal}
use Rattle.printout.specs.Printout.{lines_of, printout_of}
use Rattle.printout.specs.Written.{placed, Placed}
use Rattle.printout.specs.Progress.{over, ProgressState, progress_of, next_of, Shows, Prints}
use Rattle.printout.proofs.Printing.{prints}
use Rattle.printout.proofs.begin.Reads as begin
use Rattle.printout.proofs.next_line.Reads as next-line
use Rattle.printout.proofs.printout.Reads as printout

unfoldable pub Calls : Progress → List Printed → Type 0
Calls t [] = Unit {0}
Calls t (o ∷ os) = next-line.Learnt tt (t, tt) o (t, tt) × Calls o.progress os

unfoldable pub last_of : Progress → List Printed → Progress
last_of t [] = t
last_of t (o ∷ os) = last_of o.progress os

abbrev pub texts : List Printed → List (List ℕ)
texts os = map (λ o. text_of o.line) os

calls_print : (t : Progress) (ls : List (List ℕ)) (os : List Printed) → Prints (progress_of t) ls → Calls t os → length os ≡ length ls
    → (texts os ≡ ls) × ((progress_of (last_of t os)).stage ≡ over)
unfolding Prints Calls last_of
calls_print t [] [] p c h = (refl, p)
calls_print t [] (o ∷ os) p c h = absurd (omega arith)
calls_print t (l ∷ ls) [] p c h = absurd (omega arith)
calls_print t (l ∷ ls) (o ∷ os) p c h =
    let s : Shows o (next_of (progress_of t)) = c.0 in
    let (a, b) = calls_print o.progress ls os (subst (λ (u : ProgressState). Prints u ls) (sym s.left) p.1) c.1 (omega arith) in
    (ap₂ ◌∷◌ (s.text ∙ p.0) a, b)

-- from the start on a card, as many calls as its printout has lines give these lines, and then it is over
pub code_lines : (κs : Lfts 1) (card : Bor (List ℕ)) (t : Progress) (os : List Printed) → begin.Learnt κs (card, tt) t (card, tt)
    → Calls t os
    → length os ≡ length (lines_of card.now) → (texts os ≡ lines_of card.now) × ((progress_of (last_of t os)).stage ≡ over)
code_lines κs card t os b c h =
    calls_print t (lines_of card.now) os (subst (λ (u : ProgressState). Prints u (lines_of card.now)) (sym b) (prints card.now)) c h

-- ---- the whole at once

placed_is : (t out : List ℕ) → Placed t out (placed t out).0 (placed t out).1
unfolding placed
placed_is t out = record {
  short = λ h. rw (lt-leb (length t) (length out) h) (refl, refl);
  whole = λ h. rw (le-leb (length t) (length out) h) refl;
  front = λ h. rw (le-leb (length t) (length out) h) (take_at t (drop (length t) out) (length t) refl);
  rest = λ h. rw (le-leb (length t) (length out) h) (drop_at t (drop (length t) out) (length t) refl);
}

-- the text of the card's lines at the front of a slice that has room for it, and 15 where it has not
pub code_printout : (κs : Lfts 2) (card : Bor (List ℕ)) (out out' : MutBor (List ℕ)) (o : Result ℕ Refusal)
    → printout.Learnt κs (card, (out, tt)) o (card, (out', tt)) → Placed (printout_of card.now) out.now o out'.now
code_printout κs card out out' o e =
    subst (λ (p : Result ℕ Refusal × List ℕ). Placed (printout_of card.now) out.now p.0 p.1) (sym e)
    (placed_is (printout_of card.now) out.now)
