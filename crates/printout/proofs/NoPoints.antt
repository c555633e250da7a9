-- A card without points: "With no points that is `Q 0 0`, `E 1`" (document 01, "One card through").
use mathlib.Core.Path.{◌≡◌, refl, ap, ◌∙◌}
use mathlib.Core.List.{List, [], ◌∷◌, map}
use Prim.Native.Nat.{ℕ, ◌≤◌}
use native.Mathlib.Omega.{arith}
use lib.IntN.{ℤ, pos}
use lib.ListN.{length}
use Rattle.signs.specs.Lists.{Below, Rising}
use Rattle.contents.specs.Contents.{patterns_in, pattern_at}
use Rattle.contents.proofs.Patterns.{query_none}
use Rattle.layout.specs.Format.{polynomials, point_count}
use Rattle.plane.specs.Contents.{contents_of}
use Rattle.plane.proofs.Contents.{points-few}
use Rattle.card.specs.Sound.{Sound}
use Rattle.query.specs.Query.{query_of, patterns_of}
use Rattle.rounds.specs.Rows.{patterns, Positive, IsRows, realized}
use Rattle.rounds.specs.Rows as rows
use Rattle.rounds.proofs.Rounds.{realized-rows}
use Rattle.lines.specs.Text.{question_line, end_line}
use Rattle.printout.specs.Printout.{questions, question_lines, row_lines, sound_lines, lines_of}
use Rattle.printout.proofs.Printing.{sound_lines_lem}

no_rows : (s : ℕ) → realized s [] ≡ []
no_rows s = realized-rows s [] [] nothing (λ q h. unfold rows.repeated in refl)
  where
    nothing : IsRows s []
    nothing = record { rising = unfold patterns Rising in tt; below = unfold patterns Below in tt; positive = unfold Positive in tt }

-- the lines of a card whose points have the patterns E, from the query of product 0
lines_with : (c : List ℕ) (z : ℤ) → patterns_of c ≡ [] → query_of c 0 ≡ z → sound_lines c ≡ (question_line 0 z ∷ end_line 1 ∷ [])
unfolding sound_lines question_lines row_lines questions
lines_with c z e f = rw (e, no_rows (polynomials c), f) refl

empty : {A : Type 0} (l : List A) → length l ≤ 0 → l ≡ []
empty [] h = refl
empty (x ∷ l) h = absurd (omega arith)

pub no_points : (c : List ℕ) → Sound c → point_count c ≡ 0 → lines_of c ≡ (question_line 0 (pos 0) ∷ end_line 1 ∷ [])
no_points c S e =
    sound_lines_lem c S
    ∙ lines_with c (pos 0) (unfold patterns_in in ap (map (pattern_at (contents_of c))) none)
    (query_none (contents_of c) ∙ ap (λ l. pos (length l)) none)
  where
    none : (contents_of c).points ≡ []
    none = empty (contents_of c).points (omega (arith, points-few c))
