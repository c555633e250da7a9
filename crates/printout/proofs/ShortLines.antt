-- THEOREM: no line of a card's printout has more than 11 bytes, and so its text has at most 658 times as many. A product and a pattern are
-- below 3^8, a query is within −64 .. 64, and a count at most 64.
--
--   Short ls == each line of ls has at most `short_line` bytes
use mathlib.Core.Path.{◌≡◌, refl}
use mathlib.Core.Bool.{Bool, true, false, cond, ◌||◌}
use mathlib.Core.List.{List, [], ◌∷◌, ◌++◌, map-append}
use Prim.Native.Nat.{ℕ, zero, suc, ◌+◌, ◌*◌, ◌^◌, ◌<◌, ◌≤◌}
use native.Mathlib.Omega.{arith}
use native.Mathlib.Decide.{dec_lt}
use borrow.Author.Tests.{eqb-true}
use lib.Dec.{eqb}
use lib.IntN.{ℤ, pos, negsuc, nat_abs}
use lib.ListN.{length, length-append, length-map}
use Rattle.refusals.specs.Numbers.{card_numbers, is_among, unless}
use Rattle.signs.specs.Lists.{times, Below, is_below}
use Rattle.signs.proofs.Lists.{times-nil, times-same, times-cons, times-append, times-one}
use Rattle.signs.proofs.Orders.{below_from}
use Rattle.contents.proofs.Patterns.{query-within, patterns-long}
use Rattle.layout.specs.Format.{polynomials}
use Rattle.plane.specs.Contents.{contents_of}
use Rattle.plane.proofs.Contents.{points-few}
use Rattle.card.specs.Card.{refusal}
use Rattle.card.specs.Sound.{Sound}
use Rattle.card.proofs.Sound.{sound}
use Rattle.card.proofs.Listed.{refusal_listed}
use Rattle.query.specs.Query.{query_of, patterns_of}
use Rattle.rounds.specs.Rows.{Row, patterns, row_if, rows_of, restrict, realized}
use Rattle.rounds.specs.Rounds.{round_of}
use Rattle.rounds.proofs.Answers.{round-low}
use Rattle.rounds.proofs.Restrict.{three_pos, three_mono}
use Rattle.lines.specs.Text.{space, newline, decimal, signed, question_line, row_line, end_line, refusal_line}
use Rattle.lines.proofs.Decimals.{decimal-length}
use Rattle.printout.specs.Printout.{rounds_to, questions, question_lines, row_lines, sound_lines, lines_of, together, printout_of}
use Rattle.printout.specs.Written.{short_line, most_lines}
use Rattle.printout.proofs.Printing.{few_lines, sound-questions}

unfoldable Short : List (List ℕ) → Type 0
Short [] = Unit {0}
Short (l ∷ ls) = (length l ≤ short_line) × Short ls

short-text : (ls : List (List ℕ)) → Short ls → length (together ls) ≤ short_line * length ls
unfolding Short together
short-text [] s = omega arith
short-text (l ∷ ls) s = omega (arith, length-append l (together ls), s.0, short-text ls s.1)

short-append : (ls ms : List (List ℕ)) → Short ls → Short ms → Short (ls ++ ms)
unfolding Short
short-append [] ms s t = t
short-append (l ∷ ls) ms s t = (s.0, short-append ls ms s.1 t)

short-one : (l : List ℕ) → length l ≤ short_line → Short (l ∷ [])
unfolding Short
short-one l h = (h, tt)

-- ---- a line

signed-short : (z : ℤ) → nat_abs z < 100 → length (signed z) ≤ 3
unfolding signed
signed-short (pos n) h = omega (arith, decimal-length 1 n h)
signed-short (negsuc n) h = omega (arith, decimal-length 1 (suc n) h)

-- a line whose first part is a letter, a space and the number n, and that goes on with t
begun : (n k : ℕ) (t : List ℕ) → n < 10 ^ suc k → length (decimal n ++ t) ≤ suc k + length t
begun n k t h = omega (arith, decimal-length k n h, length-append (decimal n) t)

question-short : (p : ℕ) (z : ℤ) → p < 10000 → nat_abs z < 100 → length (question_line p z) ≤ short_line
unfolding question_line
question-short p z h k =
    omega (arith, begun p 3 (space ∷ (signed z ++ (newline ∷ []))) h, signed-short z k, length-append (signed z) (newline ∷ []))

row-short : (p k : ℕ) → p < 10000 → k < 100 → length (row_line p k) ≤ short_line
unfolding row_line
row-short p k h g = omega (arith, begun p 3 (space ∷ (decimal k ++ (newline ∷ []))) h, begun k 1 (newline ∷ []) g)

end_short : (n : ℕ) → n < 1000 → length (end_line n) ≤ short_line
unfolding end_line
end_short n h = omega (arith, begun n 2 (newline ∷ []) h)

refusal-short : (k : ℕ) → k < 100 → length (refusal_line k) ≤ short_line
unfolding refusal_line
refusal-short k h = omega (arith, begun k 1 (newline ∷ []) h)

-- ---- the products and the rows

rounds_below : (i : ℕ) (E : List ℕ) (α : ℕ) → 0 < times α (rounds_to i E) → α < 3 ^ i
unfolding rounds_to
rounds_below zero E α h = absurd (omega (arith, h, times-nil α))
rounds_below (suc i) E α h = go (dec_lt 0 (times α (rounds_to i E))) (rounds_below i E α)
  where
    Q : List ℕ
    Q = round_of i (patterns (realized i (restrict i E)))

    go : Dec (0 < times α (rounds_to i E)) → (0 < times α (rounds_to i E) → α < 3 ^ i) → α < 3 ^ suc i
    go (yes k) r = omega (arith, r k, three_mono i (suc i) (omega arith))
    go (no k) r = (round-low i (patterns (realized i (restrict i E))) α (omega (arith, h, k, times-append α (rounds_to i E) Q))).1

questions-below : (s : ℕ) (E : List ℕ) (α : ℕ) → 0 < times α (questions s E) → α < 3 ^ s
unfolding questions
questions-below s [] α h = omega (arith, times-one α 0 h, three_pos s)
questions-below s (σ ∷ E) α h = go (dec_lt 0 (times α (rounds_to s (σ ∷ E))))
  where
    go : Dec (0 < times α (rounds_to s (σ ∷ E))) → α < 3 ^ s
    go (yes k) = rounds_below s (σ ∷ E) α k
    go (no k) =
        omega (arith, times-one α 0 (omega (arith, h, k, times-append α (0 ∷ []) (rounds_to s (σ ∷ E)))), three_pos s)

questions-short : (c ps : List ℕ) → ((α : ℕ) → nat_abs (query_of c α) < 100) → ((α : ℕ) → 0 < times α ps → α < 10000)
    → Short (question_lines c ps)
unfolding Short question_lines
questions-short c [] q h = tt
questions-short c (p ∷ ps) q h = (
  question-short p (query_of c p) (h p (omega (arith, times-same p ps))) (q p),
  questions-short c ps q (λ α k. h α (omega (arith, k, times-cons α p ps))),
)

row_if_short : (q k : ℕ) → q < 10000 → k < 100 → Short (row_lines (row_if q k))
unfolding Short row_lines row_if
row_if_short q zero h g = tt
row_if_short q (suc k) h g = (row-short q (suc k) h g, tt)

rows_short : (n : ℕ) (f : ℕ → ℕ) → n ≤ 10000 → ((q : ℕ) → f q < 100) → Short (row_lines (rows_of n f))
unfolding rows_of row_lines
rows_short zero f h g = unfold Short in tt
rows_short (suc n) f h g =
    rw (map-append (λ (r : Row). row_line r.pattern r.count) (rows_of n f) (row_if n (f n)))
    (short-append _ _ (rows_short n f (omega arith) g) (row_if_short n (f n) (omega arith) (g n)))

times_fewer : (q : ℕ) (l : List ℕ) → times q l ≤ length l
unfolding times
times_fewer q [] = omega arith
times_fewer q (x ∷ l) = go (eqb q x) (times_fewer q l)
  where
    go : (b : Bool) → times q l ≤ length l → cond b 1 0 + times q l ≤ suc (length l)
    go true h = omega arith
    go false h = omega arith

-- ---- the printout

asked-length : (c ps : List ℕ) → length (question_lines c ps) ≡ length ps
unfolding question_lines
asked-length c ps = length-map ps (λ p. question_line p (query_of c p))

module _ (c : List ℕ) (S : Sound c) where
  abbrev s : ℕ
  s = polynomials c

  abbrev E : List ℕ
  E = patterns_of c

  few : length (contents_of c).points ≤ 64
  few = omega (arith, points-few c, S.n_most)

  most : 3 ^ s ≤ 6561
  most = three_mono s 8 S.s_most

  key-short : Short (row_lines (realized s E))
  unfolding realized
  key-short =
      rows_short (3 ^ s) (λ q. times q E) (omega (arith, most)) (λ q. omega (arith, times_fewer q E, patterns-long (contents_of c), few))

  sound-short : Short (sound_lines c)
  unfolding sound_lines
  sound-short =
      let ps = questions s E in
      short-append (question_lines c ps) _
      (questions-short c ps (λ α. omega (arith, query-within (contents_of c) α, few)) (λ α h. omega (arith, questions-below s E α h, most)))
      (short-append (row_lines (realized s E)) _ key-short
      (short-one (end_line (length ps)) (end_short (length ps) (omega (arith, sound-questions c S, asked-length c ps)))))

among_below : (n m : ℕ) (l : List ℕ) → Below n l → is_among m l ≡ true → m < n
unfolding Below is_among
among_below n m [] b h = absurd (let x : ◌≡◌ {A = ℕ} 0 1 = cc in omega arith)
among_below n m (k ∷ l) b h = go (eqb m k) refl h (among_below n m l b.1)
  where
    go : (t : Bool) → eqb m k ≡ t → (t || is_among m l) ≡ true → (is_among m l ≡ true → m < n) → m < n
    go true e f r = omega (arith, eqb-true m k e, b.0)
    go false e f r = r f

numbers-below : Below 100 (0 ∷ card_numbers)
unfolding is_below card_numbers
numbers-below = below_from 100 (0 ∷ card_numbers) refl

lines_short : (c : List ℕ) → Short (lines_of c)
unfolding lines_of
lines_short c = go (refusal c) refl (among_below 100 (refusal c) (0 ∷ card_numbers) numbers-below (refusal_listed c).stands)
  where
    go : (m : ℕ) → refusal c ≡ m → m < 100 → Short (unless m (λ k. refusal_line k ∷ []) (sound_lines c))
    go zero e h = sound-short c (sound c e)
    go (suc m) e h = short-one (refusal_line (suc m)) (refusal-short (suc m) h)

-- THE THEOREM
pub printed_most : (c : List ℕ) → length (printout_of c) ≤ short_line * most_lines
unfolding printout_of
printed_most c = omega (arith, short-text (lines_of c) (lines_short c), few_lines c)
