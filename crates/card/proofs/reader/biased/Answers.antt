-- `card::reader::biased` meets its contract: it adds 128 to what the byte stands for.
use mathlib.Core.Path.{◌≡◌}
use mathlib.Core.Logic.{⊎_elim}
use Prim.Native.Nat.{ℕ, ◌+◌, ◌<◌, ◌%◌}
use lib.IntN.{pos, ◌+ℤ◌, ◌-ℤ◌}
use Rattle.integers.proofs.Parts.{int, sum, dif}
use Rattle.layout.specs.Format.{two's}
use Rattle.layout.proofs.Twos.{twos-low, twos_high, below_or}
use Rattle.card.proofs.reader.biased.Goals as goal

added : (b : ℕ) → b < 256 → pos ((b + 128) % 256) ≡ two's 128 b +ℤ pos 128
added b l =
    ⊎_elim (λ h. rw (twos-low 128 b h) (omega (int, sum (pos b) (pos 128))))
    (λ h. rw (twos_high 128 b h) (omega (int, dif (pos b) (pos 256), sum (pos b -ℤ pos 256) (pos 128))))
    (below_or b 128)

pub returns : goal.returns
returns c = added c.args.b c.ranges.b.fits
