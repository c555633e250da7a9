-- `card_writer::bytes::put_body` meets its contract: the coefficients left, put from the present byte on, give the run.
use mathlib.Core.Path.{◌≡◌, ◌∙◌, refl}
use mathlib.Core.List.{flat_map}
use Prim.Native.Nat.{◌^◌, ◌+◌, ◌*◌}
use native.Mathlib.Numerals.{add-one}
use native.Mathlib.Omega.{arith}
use lib.IntN.{pos}
use lib.ListN.{length, get_or}
use lib.Dec.{lit<}
use lib.Seq.{sets, drop-length}
use Rattle.card_bytes.specs.Bytes.{bytes, complement, body}
use Rattle.card_writer.proofs.Checked.{inside}
use Rattle.card_writer.proofs.Turns.{words_turn}
use Rattle.card_writer.proofs.bytes.put_body.Goals as goal

pub in_complement-requires : goal.in_complement-requires
in_complement-requires c =
    let cs = c.args.coefficients.now in
    let i = inside 1000000 cs c.loop-i.i (lit< tt) c.requires.d_le_most_degree.2 c.loop-i-test.true in
    rw i.same (omega arith, omega arith)

pub loop-i-preserved : goal.loop-i-preserved
loop-i-preserved c =
    let t = c.loop-i-test.true in
    let cs = c.args.coefficients.now in
    let i = inside 1000000 cs c.loop-i.i (lit< tt) c.requires.d_le_most_degree.2 t in
    let e : c.put_number.new.out ≡ sets c.loop-i.out (c.args.at + 1 + 4 * c.loop-i.i)
    (bytes 4 (complement (2 ^ 31) (get_or cs c.loop-i.i (pos 0)))) =
    c.put_number.ensures ∙ rw (c.in_complement.ensures.0, i.same) refl in (
      c.put_number.auto.out ∙ c.loop-i.invariant.0,
      rw e (words_turn cs c.loop-i.out (c.args.at + 1) c.loop-i.i t ∙ c.loop-i.invariant.1),
    )

pub returns : goal.returns
unfolding body flat_map
returns c =
    let a = c.args in
    let e : c.loop-i.i ≡ length a.coefficients.now = omega arith in
    rw (e, drop-length a.coefficients.now) at c.loop-i.invariant.1 ∙ rw (add-one a.at) refl
