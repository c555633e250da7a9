-- What `write` answers and leaves, in the three ways that it ends.
use mathlib.Core.Path.{◌≡◌}
use mathlib.Core.List.{List}
use Prim.Native.Nat.{ℕ, ◌<◌, ◌≤◌}
use borrow.Author.Tests.{lt-ltb, le-ltb}
use lib.IntN.{ℤ}
use lib.ListN.{length}
use lib.Seq.{sets}
use Rattle.sequences.proofs.Stores.{sets_front}
use Rattle.card_bytes.specs.Bytes.{card_bytes}
use Rattle.card_bytes.specs.Causes.{write_cause}
use Rattle.card_writer.specs.Writing.{writing}
use Rattle.refusals.proofs.Refusals.{unless_first}
use Rattle.std.proofs.Common.{◌≢◌, Ok, Err}
use Rattle.refusals.specs.declared.Refusal.TheVariants.{TooShort}
use Rattle.refusals.specs.Refusals.{refusing}

module _ (ds : List ℕ) (cs ps : List ℤ) (out : List ℕ) where
  pub writing-refused : write_cause ds cs ps ≢ 0 → writing ds cs ps out ≡ (refusing (write_cause ds cs ps), out)
  unfolding writing
  writing-refused h = unless_first _ _ (write_cause ds cs ps) _ h

  module _ (none : write_cause ds cs ps ≡ 0) where
    pub writing-short : length out < length (card_bytes ds cs ps) → writing ds cs ps out ≡ (Err TooShort, out)
    unfolding writing
    writing-short h = rw (none, lt-ltb (length out) (length (card_bytes ds cs ps)) h)

    pub writing-whole : length (card_bytes ds cs ps) ≤ length out
        → writing ds cs ps out ≡ (Ok (length (card_bytes ds cs ps)), sets out 0 (card_bytes ds cs ps))
    unfolding writing
    writing-whole h = rw (none, le-ltb (length out) (length (card_bytes ds cs ps)) h, sets_front (card_bytes ds cs ps) out h)
