-- A printout question by question, its text written straight into a slice.
--
--   asking o r α            == the opened card o and the state r, where the product α is asked next
--   Settled y               == where the step of y is that the run is done, its state is that of a run that is done
--   GoesOn x out at out' b t == the line of x, the next line of a printout and what it leaves, was written to the slice out from byte `at`
--                              on: the slice is out' and the text ends at b; and what it leaves is t
--   Ends x out at out' b    == this line and all that come after it were written so
--   Plays x out at out' b t over == the second where it is over, else the first
use Rattle.std.specs.Prelude.{◌≡◌, Bool, true, false, List, ◌++◌, ℕ, ◌+◌, ◌*◌, ◌≤◌}
use Rattle.refusals.specs.Limits.{most_points}
use Rattle.query.specs.declared.Opened.{Opened}
use Rattle.runs.specs.Run.{State, Step, ask, done, refused, finished}
use Rattle.lines.specs.Text.{longest_line}
use Rattle.lines.specs.Put.{Put, PutLine}
use Rattle.printout.specs.Printout.{together}
use Rattle.printout.specs.Progress.{ProgressState, question, Prints}

abbrev pub asking : Opened → State → ℕ → ProgressState
asking o r α = record { card = o; state = r; stage = question α }

unfoldable pub Settled : State × Step → Type 0
Settled (r, ask β) = Unit {0}
Settled (r, done) = r.phase ≡ finished
Settled (r, refused k) = Unit {0}

pub record GoesOn (x : ProgressState × List ℕ) (out : List ℕ) (at : ℕ) (out' : List ℕ) (b : ℕ) (t : ProgressState) : Type 0 where
  pub line : PutLine out at x.1 out' b
  pub left : x.0 ≡ t

pub record Ends (x : ProgressState × List ℕ) (out : List ℕ) (at : ℕ) (out' : List ℕ) (b : ℕ) : Type 0 where
  pub rest : List (List ℕ)
  pub prints : Prints x.0 rest
  pub put : Put out at (x.1 ++ together rest) out' b
  pub fits : b ≤ at + longest_line * (most_points + 2)

unfoldable pub Plays : ProgressState × List ℕ → List ℕ → ℕ → List ℕ → ℕ → ProgressState → Bool → Type 0
Plays x out at out' b t true = Ends x out at out' b
Plays x out at out' b t false = GoesOn x out at out' b t
