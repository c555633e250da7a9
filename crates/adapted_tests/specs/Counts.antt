-- How far the file is compared.
--
--   Counted p     == no more was counted than bytes were passed, and no more differs than was compared
--   Further p q n == q is counted, and is further than p, within n bytes
use Rattle.std.specs.Prelude.{ℕ, ◌≤◌, ◌<◌}
use Rattle.adapted_tests.specs.declared.Progress.{Progress}

pub record Counted (p : Progress) : Type 0 where
  pub lists : p.lists ≤ p.at
  pub unlike : p.unlike ≤ p.lists
  pub queries : p.queries ≤ p.at
  pub wrong : p.wrong ≤ p.queries

pub record Further (p q : Progress) (n : ℕ) : Type 0 where
  pub counted : Counted q
  pub onward : p.at < q.at
  pub within : q.at ≤ n
