-- `run_round_end::splits` meets its contract: of such small numbers nothing on the way wraps.
use mathlib.Core.Path.{◌≡◌, refl, sym, ◌∙◌}
use mathlib.Core.Bool.{◌&&◌}
use native.Mathlib.Omega.{arith}
use lib.IntN.{pos, ◌+ℤ◌}
use lib.Signed.{le_z}
use mir.Syntax.{w16}
use mir.Val.{SFits}
use mir.Facts.{to_z-of_z, to_z_pos}
use Rattle.integers.proofs.Abs.{abs_sum}
use Rattle.integers.proofs.I16.{fits-small}
use Rattle.run_round_end.proofs.AndLaws.{asked, not_asked}
use Rattle.run_round_end.proofs.SplitLaws.{splits_is}
use Rattle.run_round_end.proofs.splits.Goals as goal
use Rattle.run_round_end.proofs.splits.Goals.{then-g-d, else-g-d, then-g-e-ge0, else-g-e-ge0}

pub returns-then-e-g : goal.returns-then-e-g
returns-then-e-g c =
    let d = c.args.d in
    let e = c.args.e in
    let g = c.args.g in
    let d_is = to_z_pos w16 {n = d} (omega (arith, c.requires)) in
    let g_is = to_z-of_z c.ranges.g in
    let e_is = to_z-of_z c.ranges.e in
    let fits : SFits w16 (g +ℤ e) = fits-small _ (omega (arith, abs_sum g e, c.requires)) in
    let A : c.if-g-d.value ≡ le_z g (pos d) && le_z (pos 0) (g +ℤ e) =
    elim c.if-g-d.branch [
      | then-g-d w ↦ asked _ _ _ (rw (d_is, g_is) at w.if-g-d.true) (rw (to_z-of_z fits) at (rw (g_is, e_is) at w.value-is))
      | else-g-d w ↦ not_asked _ _ _ (rw (d_is, g_is) at w.if-g-d.false) (cc)
    ] in
    let B : c.if-g-e-ge0.value ≡ le_z g (pos d) && le_z (pos 0) (g +ℤ e) && le_z e g =
    elim c.if-g-e-ge0.branch [
      | then-g-e-ge0 w ↦ asked _ _ _ (sym A ∙ w.if-g-e-ge0.true) (rw (g_is, e_is) at w.value-is)
      | else-g-e-ge0 w ↦ not_asked _ _ _ (sym A ∙ w.if-g-e-ge0.false) (cc)
    ] in
    rw (g_is, e_is, to_z-of_z fits, splits_is d e g, ← B, c.if-e-g.true) refl

pub returns-else-e-g : goal.returns-else-e-g
returns-else-e-g c =
    let d = c.args.d in
    let e = c.args.e in
    let g = c.args.g in
    let d_is = to_z_pos w16 {n = d} (omega (arith, c.requires)) in
    let g_is = to_z-of_z c.ranges.g in
    let e_is = to_z-of_z c.ranges.e in
    let fits : SFits w16 (g +ℤ e) = fits-small _ (omega (arith, abs_sum g e, c.requires)) in
    let A : c.if-g-d.value ≡ le_z g (pos d) && le_z (pos 0) (g +ℤ e) =
    elim c.if-g-d.branch [
      | then-g-d w ↦ asked _ _ _ (rw (d_is, g_is) at w.if-g-d.true) (rw (to_z-of_z fits) at (rw (g_is, e_is) at w.value-is))
      | else-g-d w ↦ not_asked _ _ _ (rw (d_is, g_is) at w.if-g-d.false) (cc)
    ] in
    let B : c.if-g-e-ge0.value ≡ le_z g (pos d) && le_z (pos 0) (g +ℤ e) && le_z e g =
    elim c.if-g-e-ge0.branch [
      | then-g-e-ge0 w ↦ asked _ _ _ (sym A ∙ w.if-g-e-ge0.true) (rw (g_is, e_is) at w.value-is)
      | else-g-e-ge0 w ↦ not_asked _ _ _ (sym A ∙ w.if-g-e-ge0.false) (cc)
    ] in
    rw (splits_is d e g, ← B, c.if-e-g.false) refl
