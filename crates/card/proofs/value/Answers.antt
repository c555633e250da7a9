-- `card::value` meets its contract.
use mathlib.Core.Path.{◌≡◌, sym, ap, subst, ◌∙◌}
use mathlib.Core.List.{List}
use Prim.Native.Nat.{ℕ, ◌≤◌}
use native.Mathlib.Omega.{arith}
use borrow.Author.Rules.{sfits_of}
use lib.IntN.{ℤ, nat_abs}
use mir.Syntax.{w8, w64}
use mir.Val.{SFits, to_z, of_z}
use mir.Facts.{to_z-of_z}
use Rattle.std.proofs.Common.{Ok}
use Rattle.refusals.proofs.Refusals.{passed_none, passed_on, gone_on, passed_on_first, gone_on_then, passed_up}
use Rattle.integers.specs.Sums.{Within}
use Rattle.integers.proofs.Parts.{int, parts, side}
use Rattle.refusals.specs.Limits.{most_coefficient}
use Rattle.layout.specs.Format.{offset}
use Rattle.layout.specs.Body.{Whole, Small}
use Rattle.polynomials.specs.Values.{evaluate}
use Rattle.layout.specs.Values.{coefficients, value}
use Rattle.layout.proofs.CoefficientLists.{coefficients-within, evaluate-coefficients}
use Rattle.card.specs.Card.{position_refusal, kind_refusal}
use Rattle.card.specs.Answers.{value_answer}
use Rattle.card.proofs.Positions.{held, of_line}
use Rattle.card.proofs.value.Goals as goal

-- ---- x is passed on as it came, and wider
module _ {x z : ℤ} (f : SFits w8 x) (e : z ≡ to_z w8 (of_z w8 x)) where
  wider : SFits w64 x
  wider = omega (int, f.sfits)

  same : to_z w64 (of_z w64 z) ≡ x
  same = rw (e, to_z-of_z f) (to_z-of_z wider)

  near : nat_abs (to_z w64 (of_z w64 z)) ≤ 128
  near = rw same (omega (int, parts x, side x, f.sfits))

-- ---- the coefficients at position j, which begins at byte `at`
module _ (c : List ℕ) (j at : ℕ) (h : position_refusal c j ≡ 0) (k : kind_refusal c ≡ 0) (e : at ≡ offset c j) where
  sound_small : Small c (offset c j)
  sound_small = let H = held c j h in ((H.card.body j H.below).line (of_line c k)).small

  body_at : Whole c at
  body_at = subst (Whole c) (sym e) sound_small.whole

  module _ (p : List ℤ) (d : p ≡ coefficients c at) where
    within : Within most_coefficient p
    within = rw (d, e) (coefficients-within c (offset c j) sound_small)

    its_value : (x : ℤ) → evaluate p x ≡ value c (offset c j) x
    its_value x = rw (d, e) (evaluate-coefficients c (offset c j) x sound_small.whole.low)

pub returns-in_err-check_kind : goal.returns-in_err-check_kind
unfolding value_answer
returns-in_err-check_kind c = passed_up _ c.from_residual.ensures.1 ∙ passed_on_first _ _ c.in_err-check_kind.ensures _

pub returns-in_err-check_position : goal.returns-in_err-check_position
unfolding value_answer
returns-in_err-check_position c =
    passed_up _ c.from_residual-in_err-check_position.ensures.1 ∙ passed_on _ c.in_err-check_position.ensures _
    ∙ gone_on_then _ _ c.in_ok-check_kind.ensures _

pub offset-requires : goal.offset-requires
offset-requires c = let h = held _ _ (passed_none _ c.in_ok-check_position.ensures) in omega (arith, h.header.contents, h.below)

pub coefficients-p-requires : goal.coefficients-p-requires
coefficients-p-requires c =
    body_at _ _ _ (passed_none _ c.in_ok-check_position.ensures) (passed_none _ c.in_ok-check_kind.ensures) c.offset.ensures

pub evaluate-requires : goal.evaluate-requires
evaluate-requires c = (
  within _ _ _ (passed_none _ c.in_ok-check_position.ensures) (passed_none _ c.in_ok-check_kind.ensures) c.offset.ensures _
      c.coefficients-p.ensures,
  near c.ranges.x c.from.ensures,
)

pub returns : goal.returns
unfolding value_answer
returns c =
    ap Ok (to_z-of_z {w = w64} (sfits_of c.evaluate.type_inv) ∙ c.evaluate.ensures
    ∙ ap (evaluate c.coefficients-p.result) (same c.ranges.x c.from.ensures)
    ∙ its_value _ _ _ (passed_none _ c.in_ok-check_position.ensures) (passed_none _ c.in_ok-check_kind.ensures) c.offset.ensures _
    c.coefficients-p.ensures _)
    ∙ gone_on _ c.in_ok-check_position.ensures _ ∙ gone_on_then _ _ c.in_ok-check_kind.ensures _
