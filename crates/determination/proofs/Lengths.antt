-- The lengths of a record's arrays, from what owning it tells.
use mathlib.Core.Path.{◌≡◌}
use lib.ListN.{length}
use Rattle.run_record.specs.declared.Run.{Run}
use Rattle.lent_walks.proofs.Thin.{Data, Good, struct}
use Rattle.run_record.specs.contracts.Run as run-type
use Rattle.run_record.proofs.Run.TheLaws as run-laws

abbrev RunD : Data
RunD = struct run-type.the_type run-laws.the_laws run-laws.the_plain run-laws.the_copy

pub record Lengths (r : Run) : Type 0 where
  pub patterns : length r.patterns ≡ 64
  pub counts : length r.counts ≡ 64
  pub products : length r.products ≡ 64
  pub answers : length r.answers ≡ 128

pub lengths : (r : Run) → Good RunD r → Lengths r
lengths r g =
    record {
      patterns = g.1.1.1.1.1.1.1.1.0.1.0.1;
      counts = g.1.1.1.1.1.1.1.1.1.0.1.0.1;
      products = g.1.1.1.1.1.1.1.1.1.1.0.1.0.1;
      answers = g.1.1.1.1.1.1.1.1.1.1.1.1.0.1.0.1;
    }
