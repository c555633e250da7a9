-- THEOREM of the code: a call of `draw` gives what `DrawGives` says; in particular a drawn card is sound, with that s, that n and degree d
-- throughout. The call is known by its contract alone (`Learnt`), so that a weaker promise breaks the theorem.
use mathlib.Core.Path.{◌≡◌, sym, ap, ◌∙◌}
use mathlib.Core.List.{List}
use Prim.Native.Nat.{ℕ, ◌+◌, ◌*◌, ◌<◌}
use native.Mathlib.Omega.{arith}
use contract.Lifetimes.{Lfts}
use denote.Ref.{MutBor}
use lib.ListN.{length, get_or, replicate, length-replicate, get_or-replicate}
use Rattle.refusals.specs.Numbers.{◌▸◌}
use Rattle.layout.specs.Format.{polynomials, offset, degree}
use Rattle.layout.proofs.Contents.{map-up_to-at}
use Rattle.generator.specs.Generator.{after}
use Rattle.card_bytes.specs.Lists.{degrees_of}
use Rattle.card_bytes.proofs.Lengths.{length-card}
use Rattle.card_bytes.proofs.Written.{written_read, written-counts}
use Rattle.card_writer.specs.Writing.{buffer_cause, placed}
use Rattle.card_writer.specs.Claim.{Kept}
use Rattle.std.proofs.Common.{Result}
use Rattle.refusals.specs.declared.Refusal.{Refusal}
use Rattle.card_writer.proofs.Calls.{placed-refused, placed-short, placed-whole}
use Rattle.card_draw.specs.Drawn.{drawn_coefficients, drawn_points, drawn_card, draw_cause, drawing}
use Rattle.card_draw.specs.Claim.{card_size, IsDrawn, DrawGives}
use Rattle.card_draw.proofs.Drawing.{by_count, by_degree, by_none, length-coefficients, length-points, wanted-replicate, drawn-accepted}
use Rattle.card_draw.proofs.draw.Reads as draw

-- ---- the card

module _ (seed s n d : ℕ) (none : draw_cause s n d ≡ 0) where
  pub length-drawn : length (drawn_card seed s n d) ≡ card_size s n d
  unfolding drawn_card
  length-drawn =
      let cs = drawn_coefficients s d seed in
      let ps = drawn_points n (after (s * (d + 1)) seed) in
      omega (
        arith,
        length-card (replicate s d) cs ps (length-coefficients s d seed ∙ sym (wanted-replicate s d)),
        length-replicate s d,
        length-coefficients s d seed,
        length-points n (after (s * (d + 1)) seed),
      )

  pub drawn_is : IsDrawn seed s n d (drawn_card seed s n d)
  unfolding drawn_card degrees_of
  drawn_is =
      let cs = drawn_coefficients s d seed in
      let ps = drawn_points n (after (s * (d + 1)) seed) in
      let w = drawn-accepted seed s n d none in
      let r = written_read (replicate s d) cs ps w in
      let (p, q) = written-counts (replicate s d) cs ps w in
      let c = drawn_card seed s n d in
      let many : polynomials c ≡ s = p ∙ length-replicate s d in
      record {
        sound = r.sound;
        line = r.line;
        how_many = many;
        degrees = λ j h.
            sym (map-up_to-at (λ i. degree c (offset c i)) (polynomials c) j 0 (omega arith))
            ∙ ap (λ (l : List ℕ). get_or l j 0) r.degrees
            ∙ get_or-replicate s j d 0 h;
        coefficients = r.coefficients;
        how_many_points = q ∙ length-points n (after (s * (d + 1)) seed);
        points = r.contents.points;
      }

-- ---- the call

pub drawing-gives : (seed s n d : ℕ) (out : List ℕ) → DrawGives seed s n d out (drawing seed s n d out).0 (drawing seed s n d out).1
unfolding drawing
drawing-gives seed s n d out =
    let c = drawn_card seed s n d in
    let k = draw_cause s n d in
    let refused : (m : ℕ) → 0 < m → k ≡ m → Kept m out (placed (k ▸ buffer_cause c out) c out).0 (placed (k ▸ buffer_cause c out) c out).1 =
    λ m h e. rw e (placed-refused c out m (buffer_cause c out) h) in
    record {
      is_3 = λ h. refused 3 (omega arith) (by_count s n d h);
      is_16 = λ a h. refused 16 (omega arith) (by_degree s n d a h);
      is_15 = λ a h l. let e = by_none s n d a h in placed-short c out k e (omega (arith, length-drawn seed s n d e));
      drawn = λ a h l. let e = by_none s n d a h in
          (placed-whole c out k e (omega (arith, length-drawn seed s n d e)), drawn_is seed s n d e);
    }

pub draw_gives : (κs : Lfts 1) (seed s n d : ℕ) (out out' : MutBor (List ℕ)) (o : Result ℕ Refusal)
    → draw.Learnt κs (seed, (s, (n, (d, (out, tt))))) o (seed, (s, (n, (d, (out', tt))))) → DrawGives seed s n d out.now o out'.now
draw_gives κs seed s n d out out' o (e, f) = rw (e, f) (drawing-gives seed s n d out.now)
