-- `signs::sign_by` meets its contract.
use mathlib.Core.Path.{refl}
use borrow.Author.Tests.{eq-eqb, ne_eqb}
use Rattle.signs.specs.Bits.{sign_bits}
use Rattle.signs.proofs.sign_by.Goals as goal

pub returns-then-support-p : goal.returns-then-support-p
unfolding sign_bits
returns-then-support-p c = rw (ne_eqb _ _ c.if-support-p.true) refl

pub returns-then-a-p-eq0 : goal.returns-then-a-p-eq0
unfolding sign_bits
returns-then-a-p-eq0 c = rw (eq-eqb _ _ c.if-support-p.false, eq-eqb _ _ c.if-a-p-eq0.true) refl

pub returns-else-a-p-eq0 : goal.returns-else-a-p-eq0
unfolding sign_bits
returns-else-a-p-eq0 c = rw (eq-eqb _ _ c.if-support-p.false, ne_eqb _ _ c.if-a-p-eq0.false) refl
