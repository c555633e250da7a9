-- The text of the first k lines of a printout, one after the other.
--
--   left_after k t == what t leaves after k lines
--   text_after k t == the text of these lines
use mathlib.Core.Path.{◌≡◌, refl, sym, ap, ap₂, ◌∙◌}
use mathlib.Core.List.{List, [], ◌∷◌, ◌++◌, append_assoc, append-nil}
use Prim.Native.Nat.{ℕ, zero, suc, ◌≤◌}
use native.Mathlib.Omega.{arith}
use lib.ListN.{length}
use Rattle.printout.specs.Printout.{together, printout_of, lines_of}
use Rattle.printout.specs.Written.{most_lines}
use Rattle.printout.specs.Progress.{over, ProgressState, begun_of, next_at, next_of, Prints}
use Rattle.printout.proofs.Printing.{prints, few_lines}

unfoldable pub left_after : ℕ → ProgressState → ProgressState
left_after zero t = t
left_after (suc k) t = (next_of (left_after k t)).0

unfoldable pub text_after : ℕ → ProgressState → List ℕ
text_after zero t = []
text_after (suc k) t = text_after k t ++ (next_of (left_after k t)).1

left-first : (k : ℕ) (t : ProgressState) → left_after (suc k) t ≡ left_after k (next_of t).0
unfolding left_after
left-first zero t = refl
left-first (suc k) t = ap (λ (u : ProgressState). (next_of u).0) (left-first k t)

text-first : (k : ℕ) (t : ProgressState) → text_after (suc k) t ≡ (next_of t).1 ++ text_after k (next_of t).0
unfolding text_after
text-first zero t = unfold left_after in sym (append-nil (next_of t).1)
text-first (suc k) t =
    ap₂ (λ (l : List ℕ) (u : ProgressState). l ++ (next_of u).1) (text-first k t) (left-first k t)
    ∙ append_assoc (next_of t).1 (text_after k (next_of t).0) (next_of (left_after k (next_of t).0)).1

-- after the end there are no more lines
next_over : (t : ProgressState) → t.stage ≡ over → ((next_of t).0.stage ≡ over) × ((next_of t).1 ≡ [])
unfolding next_of next_at
next_over t e = rw e (refl, refl)

text-over : (k : ℕ) (t : ProgressState) → t.stage ≡ over → text_after k t ≡ []
unfolding text_after
text-over zero t e = refl
text-over (suc k) t e =
    let (a, b) = next_over t e in
    text-first k t ∙ ap₂ ◌++◌ b (text-over k (next_of t).0 a)

pub text-prints : (ls : List (List ℕ)) (k : ℕ) (t : ProgressState) → Prints t ls → length ls ≤ k → text_after k t ≡ together ls
unfolding Prints together
text-prints [] k t p h = text-over k t p
text-prints (l ∷ ls) zero t p h = absurd (omega arith)
text-prints (l ∷ ls) (suc k) t p h = text-first k t ∙ ap₂ ◌++◌ p.0 (text-prints ls k (next_of t).0 p.1 (omega arith))

-- so the text of most_lines lines is the printout
pub printed_all : (c : List ℕ) → text_after most_lines (begun_of c) ≡ printout_of c
unfolding printout_of
printed_all c = text-prints (lines_of c) most_lines (begun_of c) (prints c) (few_lines c)
