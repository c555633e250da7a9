-- `numeral::read_numeral` meets its contract: the number so far, with the bytes that are left, is the number that the text is.
use Rattle.std.proofs.Common.{◌≡◌, ◌+◌, drop, get_or, ◌*◌, ◌-◌, sym, ◌∙◌, arith}
use Rattle.std.proofs.lemmas.Bool.Decides.{nat_tests}
use Rattle.drawcard.proofs.Numerals.{from_digit, from_other, from_large, of_empty, of_start, from_place, from_end}
use Rattle.drawcard.proofs.numeral.read_numeral.Goals as goal

pub returns-then-is_empty : goal.returns-then-is_empty
returns-then-is_empty c = of_empty c.args.text.now (grind (arith, nat_tests))

pub loop-b-init : goal.loop-b-init
loop-b-init c = of_start c.args.text.now (λ z. grind (arith, nat_tests))

pub returns-then-not-is_ascii_digit : goal.returns-then-not-is_ascii_digit
returns-then-not-is_ascii_digit c =
    let l = c.args.text.now in
    let i = c.loop-b.b-index in
    let h = c.if-not-is_ascii_digit.ensures.cases in
    sym (from_place c.loop-b.n l i (omega arith) ∙ from_other c.loop-b.n (get_or l i 0) (drop (i + 1) l) h) ∙ c.loop-b.invariant

pub returns-in_err-checked_mul : goal.returns-in_err-checked_mul
returns-in_err-checked_mul c =
    let l = c.args.text.now in
    let i = c.loop-b.b-index in
    let d = c.if-not-is_ascii_digit.ensures.cases in
    let big = c.in_err-checked_mul.ensures in
    rw c.from_residual.ensures
    (sym (from_place c.loop-b.n l i (omega arith) ∙ from_large c.loop-b.n (get_or l i 0) (drop (i + 1) l) d.0 d.1 (grind (arith, big)))
    ∙ c.loop-b.invariant)

pub returns-in_err-n : goal.returns-in_err-n
returns-in_err-n c =
    let l = c.args.text.now in
    let i = c.loop-b.b-index in
    let d = c.if-not-is_ascii_digit.ensures.cases in
    let fits = c.in_ok-checked_mul.ensures in
    let big = c.in_err-n.ensures in
    rw c.from_residual-in_err-n.ensures
    (sym (from_place c.loop-b.n l i (omega arith) ∙ from_large c.loop-b.n (get_or l i 0) (drop (i + 1) l) d.0 d.1
    (grind (arith, big, fits)))
    ∙ c.loop-b.invariant)

pub loop-b-preserved : goal.loop-b-preserved
loop-b-preserved c =
    let l = c.args.text.now in
    let i = c.loop-b.b-index in
    let d = c.if-not-is_ascii_digit.ensures.cases in
    let product = c.in_ok-checked_mul.ensures in
    let total = c.in_ok-n.ensures in
    let e : c.in_ok-n.n ≡ c.loop-b.n * 10 + (get_or l i 0 - 48) = grind (arith, product, total) in
    rw e
    (sym (from_place c.loop-b.n l i (omega arith)
    ∙ from_digit c.loop-b.n (get_or l i 0) (drop (i + 1) l) d.0 d.1 (grind (arith, product, total)))
    ∙ c.loop-b.invariant)

pub returns : goal.returns
returns c = sym (from_end c.loop-b.n c.args.text.now c.loop-b.b-index (omega arith)) ∙ c.loop-b.invariant
