-- No line of a printout is empty, so that a program may stop at the empty line, which is given once the printout is over; and a printout is
-- that of the input cut after 591 bytes.
use mathlib.Core.Path.{◌≡◌, sym, ap, ◌∙◌}
use mathlib.Core.Logic.{⊎_elim}
use mathlib.Core.List.{List, [], ◌∷◌, ◌++◌, map}
use Prim.Native.Nat.{ℕ, zero, suc, ◌<◌}
use native.Mathlib.Omega.{arith}
use lib.IntN.{ℤ}
use lib.ListN.{length, take}
use Rattle.refusals.specs.Limits.{longest_card}
use Rattle.refusals.specs.Numbers.{unless}
use Rattle.integers.proofs.Tests.{eq_cases}
use Rattle.layout.specs.Format.{polynomials}
use Rattle.card.specs.Card.{refusal}
use Rattle.card.proofs.Longest.{cut_refusal, cut_sound}
use Rattle.query.specs.Query.{query_of, patterns_of}
use Rattle.rounds.specs.Rows.{Row, realized}
use Rattle.lines.specs.Text.{question_line, row_line, end_line, refusal_line}
use Rattle.printout.specs.Printout.{questions, question_lines, row_lines, sound_lines, lines_of, together, printout_of, NoneEmpty}
use Rattle.printout.proofs.Printing.{refused-line}

none_empty_append : (ls ms : List (List ℕ)) → NoneEmpty ls → NoneEmpty ms → NoneEmpty (ls ++ ms)
unfolding NoneEmpty
none_empty_append [] ms f g = g
none_empty_append (l ∷ ls) ms f g = (f.0, none_empty_append ls ms f.1 g)

none_empty_map : {A : Type 0} (f : A → List ℕ) → ((a : A) → 0 < length (f a)) → (l : List A) → NoneEmpty (map f l)
unfolding NoneEmpty
none_empty_map f h [] = tt
none_empty_map f h (a ∷ l) = (h a, none_empty_map f h l)

none_empty_one : (l : List ℕ) → 0 < length l → NoneEmpty (l ∷ [])
unfolding NoneEmpty
none_empty_one l h = (h, tt)

question-long : (p : ℕ) (z : ℤ) → 0 < length (question_line p z)
unfolding question_line
question-long p z = omega arith

row-long : (p k : ℕ) → 0 < length (row_line p k)
unfolding row_line
row-long p k = omega arith

end_long : (k : ℕ) → 0 < length (end_line k)
unfolding end_line
end_long k = omega arith

refusal-long : (k : ℕ) → 0 < length (refusal_line k)
unfolding refusal_line
refusal-long k = omega arith

sound_none_empty : (c : List ℕ) → NoneEmpty (sound_lines c)
unfolding sound_lines question_lines row_lines
sound_none_empty c =
    none_empty_append (question_lines c ps) _ (none_empty_map (λ p. question_line p (query_of c p)) (λ p. question-long p _) ps)
    (none_empty_append (row_lines R) _ (none_empty_map (λ (r : Row). row_line r.pattern r.count) (λ r. row-long _ _) R)
    (none_empty_one (end_line (length ps)) (end_long (length ps))))
  where
    ps : List ℕ
    ps = questions (polynomials c) (patterns_of c)

    R : List Row
    R = realized (polynomials c) (patterns_of c)

pub none_empty : (c : List ℕ) → NoneEmpty (lines_of c)
unfolding lines_of
none_empty c = go (refusal c)
  where
    go : (m : ℕ) → NoneEmpty (unless m (λ k. refusal_line k ∷ []) (sound_lines c))
    go zero = sound_none_empty c
    go (suc m) = none_empty_one (refusal_line (suc m)) (refusal-long (suc m))

-- any input cut after its first k bytes, k above 318, has the same lines
cut_lines : (c : List ℕ) (k : ℕ) → longest_card < k → lines_of (take k c) ≡ lines_of c
cut_lines c k h =
    ⊎_elim (λ w. ap lines_of (cut_sound c k h w.0))
    (λ w. refused-line (take k c) (λ z. absurd (w.0 (sym (cut_refusal c k h) ∙ z)))
    ∙ ap (λ (m : ℕ). refusal_line m ∷ []) (cut_refusal c k h) ∙ sym (refused-line c w.0))
    (eq_cases (refusal c) 0)

pub cut_printout : (c : List ℕ) (k : ℕ) → longest_card < k → printout_of (take k c) ≡ printout_of c
unfolding printout_of
cut_printout c k h = ap together (cut_lines c k h)
