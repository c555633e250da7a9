-- `card_writer::bytes::put_number` meets its contract: the part written over holds the number's last bytes.
use Rattle.std.proofs.Common.{◌≡◌, ◌∙◌, ◌+◌, ◌-◌, arith, length, drop, refl}
use Rattle.std.proofs.lemmas.Slice.{between_to_end}
use Rattle.card_bytes.specs.Bytes.{bytes}
use Rattle.card_bytes.proofs.Lengths.{length-bytes}
use Rattle.card_writer.proofs.Turns.{low_bytes, part_stored}
use Rattle.card_writer.proofs.bytes.put_number.Goals as goal

pub returns : goal.returns
returns c =
    let a = c.args in
    let n = length-bytes a.k a.v in
    let r = c.to_be_bytes.result in
    let four : length r ≡ 4 = rw c.to_be_bytes.ensures refl in
    let last : c.copy_from_slice.new.self ≡ drop (4 - a.k) r =
    c.copy_from_slice.ensures.after ∙ between_to_end r (4 - a.k) 4 (omega (arith, four)) in
    let low : drop (4 - a.k) r ≡ bytes a.k a.v = rw c.to_be_bytes.ensures (low_bytes a.k a.v (4 - a.k) (omega arith)) in
    part_stored a.out.now (bytes a.k a.v) _ a.at (a.at + a.k - a.at) (last ∙ low) (omega (arith, n)) (omega (arith, n))
