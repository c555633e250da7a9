-- `card_writer::bytes::put_header` meets its contract.
use Rattle.std.proofs.Common.{◌∷◌, [], sym, arith}
use Rattle.sequences.proofs.Stores.{sets_front}
use Rattle.card_writer.proofs.bytes.put_header.Goals as goal

pub returns : goal.returns
returns c =
    let a = c.args in
    rw c.copy_from_slice.ensures.after (sym (sets_front (1 ∷ a.s ∷ a.n ∷ 0 ∷ []) a.out.now (omega (arith, c.requires))))
