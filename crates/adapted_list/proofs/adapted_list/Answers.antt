-- `adapted_list::adapted_list` meets its contract. The refusals need no answer; of the list written, what `adapted` requires and what it
-- leaves.
use mathlib.Core.Path.{sym, ap, ◌∙◌}
use Prim.Native.Nat.{◌^◌, ◌<◌, ◌≤◌}
use native.Mathlib.Omega.{arith}
use native.Mathlib.Nat.{pow-le-pow_right}
use Rattle.std.proofs.lemmas.Bool.Decides.{nat_tests}
use Rattle.adapted_list.proofs.Lists.{patterns_true, written, stored}
use Rattle.adapted_list.proofs.adapted_list.Goals as goal

pub adapted-requires-clause-i_le_most_polynomials : goal.adapted-requires-clause-i_le_most_polynomials
adapted-requires-clause-i_le_most_polynomials c =
    let k : c.args.s ≤ 8 = grind (arith, nat_tests) in
    let w : 3 ^ c.args.s ≤ 6561 = pow-le-pow_right (omega arith) k in
    (k, omega arith)

pub adapted-requires-clause-rising : goal.adapted-requires-clause-rising
adapted-requires-clause-rising c =
    let (n, r, b) = patterns_true c.args.s c.args.patterns.now (sym c.are_patterns.ensures ∙ c.if-not-are_patterns.false) in
    (r, b)

pub adapted-requires-clause-l_len_bound : goal.adapted-requires-clause-l_len_bound
adapted-requires-clause-l_len_bound c =
    let (n, r, b) = patterns_true c.args.s c.args.patterns.now (sym c.are_patterns.ensures ∙ c.if-not-are_patterns.false) in
    (n, omega (arith, c.if-out-patterns.false))

pub returns-clause-out_after : goal.returns-clause-out_after
returns-clause-out_after c =
    let a = c.args in
    let y = sym c.are_patterns.ensures ∙ c.if-not-are_patterns.false in
    let (n, r, b) = patterns_true a.s a.patterns.now y in
    let k : a.s ≤ 8 = grind (arith, nat_tests) in
    let h : 0 < a.s = grind (arith, nat_tests) in
    c.adapted.ensures.out_after ∙ stored a.s a.patterns.now a.out.now r b c.if-out-patterns.false
    ∙ sym (ap (λ p. p.1) (written a.s a.patterns.now a.out.now (λ z. omega arith) k y c.if-out-patterns.false))
