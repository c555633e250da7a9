-- No two phases of a run are the same.
use mathlib.Core.Path.{◌≡◌}
use mathlib.Core.Logic.{◌≢◌}
use Prim.Native.Nat.{ℕ}
use native.Mathlib.Omega.{arith}
use Rattle.runs.specs.Run.{Phase, running, finished, closed}

pub running_not_closed : running ≢ closed
running_not_closed e = let x : ◌≡◌ {A = ℕ} 0 1 = cc in omega arith

pub finished_not_closed : finished ≢ closed
finished_not_closed e = let x : ◌≡◌ {A = ℕ} 0 1 = cc in omega arith

pub running_not_finished : running ≢ finished
running_not_finished e = let x : ◌≡◌ {A = ℕ} 0 1 = cc in omega arith

pub closed_not_finished : closed ≢ finished
closed_not_finished e = let x : ◌≡◌ {A = ℕ} 0 1 = cc in omega arith

pub finished_not_running : finished ≢ running
finished_not_running e = let x : ◌≡◌ {A = ℕ} 0 1 = cc in omega arith

pub closed_not_running : closed ≢ running
closed_not_running e = let x : ◌≡◌ {A = ℕ} 0 1 = cc in omega arith
