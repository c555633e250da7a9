-- `card::reader::check_coefficients` meets its contract. The loop's invariant: no coefficient below i is outside its limits.
use mathlib.Core.Path.{◌≡◌, sym, ap, subst, ◌∙◌}
use mathlib.Core.Bool.{false}
use mathlib.Core.List.{List}
use Prim.Native.Nat.{ℕ, ◌+◌, ◌*◌, ◌^◌, ◌<◌}
use native.Mathlib.Omega.{arith}
use lib.IntN.{nat_abs}
use Rattle.refusals.specs.Refusals.{checked}
use Rattle.layout.specs.Format.{degree, word, coefficient}
use Rattle.integers.specs.Search.{any_below, outside}
use Rattle.integers.proofs.Search.{some_none, some_more}
use Rattle.layout.proofs.Twos.{abs_word, abs_word-zero}
use Rattle.card.proofs.Polynomial.{large_coefficient, zero-top, sound_constant, sound-coefficients}
use Rattle.card.proofs.reader.check_coefficients.Goals as goal
use Rattle.card.proofs.reader.check_coefficients.Goals.{else-loop-i-test, then-loop-i-test+else-too_large+else-i-degree}
use Rattle.card.proofs.reader.check_coefficients.Goals.{else-degree-gt0-via-then-degree-gt0+else-word-eq0}
use Rattle.card.proofs.reader.check_coefficients.Goals.{else-degree-gt0-via-else-degree-gt0}

pub loop-i-init : goal.loop-i-init
loop-i-init c = some_none _

pub returns-then-too_large : goal.returns-then-too_large
returns-then-too_large c = ap checked (sym (large_coefficient _ _ c.loop-i.i (omega arith) (cc)))

pub loop-i-preserved : goal.loop-i-preserved
loop-i-preserved c = some_more _ c.loop-i.i c.loop-i.invariant (cc)

-- none is large once that of the degree, i, is passed
all_passed : (c : List ℕ) (at i : ℕ) → any_below (λ k. outside 1000000 (coefficient c at k)) i ≡ false
    → outside 1000000 (coefficient c at i) ≡ false → i ≡ degree c at
    → any_below (λ k. outside 1000000 (coefficient c at k)) (degree c at + 1) ≡ false
all_passed c at i h k e =
    subst (λ (m : ℕ). any_below (λ k. outside 1000000 (coefficient c at k)) (m + 1) ≡ false) e
    (some_more (λ k. outside 1000000 (coefficient c at k)) i h k)

-- the bytes w of the coefficient of the degree d: 0, or not
module _ (c : List ℕ) (at d w : ℕ) (e : d ≡ degree c at) (f : w ≡ word c (at + 1 + 4 * d)) where
  is_word : w ≡ word c (at + 1 + 4 * degree c at)
  is_word = rw e at f

  is_zero : w ≡ 0 → nat_abs (coefficient c at (degree c at)) ≡ 0
  is_zero h = abs_word-zero _ (sym is_word ∙ h)

  not_zero : w < 2 ^ 32 → (w ≡ 0 → ⊥) → nat_abs (coefficient c at (degree c at)) ≡ 0 → ⊥
  not_zero l h z = h (is_word ∙ abs_word _ (omega (arith, is_word)) z)

pub returns-then-word-eq0 : goal.returns-then-word-eq0
returns-then-word-eq0 c =
    let a = c.args in
    let none : any_below (λ k. outside 1000000 (coefficient a.card.now a.at k)) (degree a.card.now a.at + 1) ≡ false =
    elim c.loop-i-test.branch [
      | else-loop-i-test w ↦ absurd (omega arith)
      | then-loop-i-test+else-too_large+else-i-degree w ↦ all_passed _ _ c.loop-i.i c.loop-i.invariant (cc) (omega arith)
    ] in
    let z = is_zero a.card.now a.at _ _ c.from-degree.ensures c.word-then-degree-gt0.ensures c.if-word-eq0.true in
    ap checked (sym (zero-top _ _ none (omega arith) z))

pub returns : goal.returns
returns c =
    let a = c.args in
    let none : any_below (λ k. outside 1000000 (coefficient a.card.now a.at k)) (degree a.card.now a.at + 1) ≡ false =
    elim c.loop-i-test.branch [
      | else-loop-i-test w ↦ absurd (omega arith)
      | then-loop-i-test+else-too_large+else-i-degree w ↦ all_passed _ _ c.loop-i.i c.loop-i.invariant (cc) (omega arith)
    ] in
    elim c.else-degree-gt0.branch [
      | else-degree-gt0-via-then-degree-gt0+else-word-eq0 w ↦
          let z = not_zero a.card.now a.at _ _ c.from-degree.ensures w.word-then-degree-gt0.ensures (omega arith) w.if-word-eq0.false in
          ap checked (sym (sound-coefficients _ _ none (omega arith) z))
      | else-degree-gt0-via-else-degree-gt0 w ↦ ap checked (sym (sound_constant _ _ none (omega arith)))
    ]
