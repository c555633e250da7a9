-- The generator of drawn cards (document 02, wish 2): a state of 32 bits, which steps before each use.
--
--   step σ           == the next state: "1664525 × state + 1013904223, modulo 2^32"
--   after n σ        == the state after n steps
--   below m σ        == the draw below m that the state σ gives: "(state div 65536) mod m"
--   draws m less n σ == n draws below m, less `less`, one after another, where the state before the first is σ
use Rattle.std.specs.Prelude.{ℕ, zero, suc, ◌+◌, ◌*◌, ◌/◌, ◌%◌, ◌^◌, List, [], ◌∷◌, ℤ, pos, ◌-ℤ◌}

unfoldable pub step : ℕ → ℕ
step σ = (1664525 * σ + 1013904223) % 2 ^ 32

unfoldable pub after : ℕ → ℕ → ℕ
after zero σ = σ
after (suc n) σ = after n (step σ)

unfoldable pub below : ℕ → ℕ → ℕ
below m σ = (σ / 65536) % m

unfoldable pub draws : ℕ → ℕ → ℕ → ℕ → List ℤ
draws m less zero σ = []
draws m less (suc n) σ = (pos (below m (step σ)) -ℤ pos less) ∷ draws m less n (step σ)
