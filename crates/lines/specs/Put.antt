-- Text written into a slice.
--
--   Put out at t out' r     == the text t was written to the slice out from byte `at` on: it ends at r, and the front of the slice out'
--                              after it is that of out up to `at`, then t
--   PutLine out at t out' r == the same of a line, which has no more than `longest_line` bytes
use Rattle.std.specs.Prelude.{◌≡◌, List, ◌++◌, ℕ, ◌+◌, ◌≤◌, length, take}
use Rattle.lines.specs.Text.{longest_line}

pub record Put (out : List ℕ) (at : ℕ) (t out' : List ℕ) (r : ℕ) : Type 0 where
  pub text : take r out' ≡ take at out ++ t
  pub ends : r ≡ at + length t

pub record PutLine (out : List ℕ) (at : ℕ) (t out' : List ℕ) (r : ℕ) : Type 0 where
  pub put : Put out at t out' r
  pub fits : r ≤ at + longest_line
