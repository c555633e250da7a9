-- `card::reader::check_header` meets its contract: each answer is that of the cause found.
use mathlib.Core.Path.{◌≡◌, sym, ap, ◌∙◌}
use mathlib.Core.Bool.{Bool, not, ◌||◌}
use mathlib.Core.List.{List}
use Prim.Native.Nat.{ℕ}
use lib.Dec.{eqb}
use Rattle.layout.specs.Format.{byte}
use native.Mathlib.Omega.{arith}
use Rattle.refusals.specs.Refusals.{checked}
use Rattle.card.specs.Card.{header_refusal}
use Rattle.card.proofs.ByKind.{other}
use Rattle.card.proofs.Header.{too_short, bad_byte0, bad_byte3, no_polynomial, many-polynomials, many-points, sound-counts}
use Rattle.card.proofs.reader.check_header.Goals as goal
use Rattle.card.proofs.reader.check_header.Goals.{then-not-is_kind-via-then-not-is_kind as by-kind}
use Rattle.card.proofs.reader.check_header.Goals.{then-not-is_kind-via-else-not-is_kind+then-card-ne0 as by-zero}
use Rattle.card.proofs.reader.check_header.Goals.{then-card-lt1-via-then-card-lt1 as no-s}
use Rattle.card.proofs.reader.check_header.Goals.{then-card-lt1-via-else-card-lt1+then-card-gt-MOST_POLYNOMIALS as much-s}
use Rattle.card.proofs.reader.check_header.Goals.{
  then-card-lt1-via-else-card-lt1+else-card-gt-MOST_POLYNOMIALS+then-card-gt-MOST_POINTS as much-n,
}

-- what the test of byte 0 says
tested : (c : List ℕ) {t b : Bool} → t ≡ (eqb (byte c 0) 1 || eqb (byte c 0) 2) → t ≡ b → other c ≡ not b
tested c e h = ap not (sym e ∙ h)

pub returns-then-card-lt4 : goal.returns-then-card-lt4
returns-then-card-lt4 c = ap checked (sym (too_short _ (omega arith)))

pub returns-then-not-is_kind : goal.returns-then-not-is_kind
returns-then-not-is_kind c =
    let k = c.args.card.now in
    let wrong : header_refusal k ≡ 2 = elim c.then-not-is_kind.branch [
      | by-kind w ↦ bad_byte0 _ (omega arith) (tested k c.is_kind.ensures w.if-not-is_kind.true)
      | by-zero w ↦ bad_byte3 _ (omega arith) (tested k c.is_kind.ensures w.if-not-is_kind.false) (omega arith)
    ] in
    ap checked (sym wrong)

pub returns-then-card-lt1 : goal.returns-then-card-lt1
returns-then-card-lt1 c =
    let k = c.args.card.now in
    let o = tested k c.is_kind.ensures c.if-not-is_kind.false in
    let wrong : header_refusal k ≡ 3 = elim c.then-card-lt1.branch [
      | no-s w ↦ no_polynomial _ (omega arith) o (omega arith) (omega arith)
      | much-s w ↦ many-polynomials _ (omega arith) o (omega arith) (omega arith) (omega arith)
      | much-n w ↦ many-points _ (omega arith) o (omega arith) (omega arith) (omega arith) (omega arith)
    ] in
    ap checked (sym wrong)

pub returns : goal.returns
returns c =
    let o = tested c.args.card.now c.is_kind.ensures c.if-not-is_kind.false in
    c.check_contents.ensures
    ∙ ap checked (sym (sound-counts _ (omega arith) o (omega arith) (omega arith) (omega arith) (omega arith)))
