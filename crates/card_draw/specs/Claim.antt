-- What a call that draws a card gives, in the words of document 02, wish 2, and apart from the definition that its contract cites. That the
-- call keeps it, known by its contract alone, is proofs/Calls.antt.
--
--   Counted s n          == there are 1 to 8 polynomials and at most 64 points
--   card_size s n d       == how many bytes a card of s polynomials of degree d and n points has
--   IsDrawn seed s n d c == the card c is a sound card of points on the line, with s polynomials of degree d, n points, and the
--                           coefficients and points drawn
--   DrawGives seed s n d out o out'
--                        == a call on the seed, s, n, d and the buffer out answers o and leaves out': refused by 3, 16 and 15 in this
--                           order, each for its cause and leaving the buffer as it was; else the card is written, and it is the one drawn
use Rattle.std.specs.Prelude.{◌≡◌, List, ℕ, ◌+◌, ◌*◌, ◌<◌, ◌≤◌, Result, length}
use Rattle.refusals.specs.declared.Refusal.{Refusal}
use Rattle.layout.specs.Format.{byte, polynomials, point_count, offset, degree}
use Rattle.card.specs.Sound.{Sound}
use Rattle.generator.specs.Generator.{after}
use Rattle.card_bytes.specs.Lists.{coefficients_of, points_of}
use Rattle.card_writer.specs.Claim.{Placed, Kept}
use Rattle.card_draw.specs.Drawn.{drawn_coefficients, drawn_points, drawn_card}

pub record Counted (s n : ℕ) : Type 0 where
  pub s_least : 1 ≤ s
  pub s_most : s ≤ 8
  pub n_most : n ≤ 64

abbrev pub card_size : ℕ → ℕ → ℕ → ℕ
card_size s n d = 4 + 2 * (s + 1) + (s + 4 * (s * (d + 1))) + n  -- header, offsets, degrees and coefficients, points

pub record IsDrawn (seed s n d : ℕ) (c : List ℕ) : Type 0 where
  pub sound : Sound c
  pub line : byte c 0 ≡ 1
  pub how_many : polynomials c ≡ s
  pub degrees : (j : ℕ) → j < s → degree c (offset c j) ≡ d
  pub coefficients : coefficients_of c ≡ drawn_coefficients s d seed
  pub how_many_points : point_count c ≡ n
  pub points : points_of c ≡ drawn_points n (after (s * (d + 1)) seed)

pub record DrawGives (seed s n d : ℕ) (out : List ℕ) (o : Result ℕ Refusal) (out' : List ℕ) : Type 0 where
  pub is_3 : (Counted s n → ⊥) → Kept 3 out o out'
  pub is_16 : Counted s n → 6 < d → Kept 16 out o out'
  pub is_15 : Counted s n → d ≤ 6 → length out < card_size s n d → Kept 15 out o out'
  pub drawn : Counted s n → d ≤ 6 → card_size s n d ≤ length out
      → Placed (drawn_card seed s n d) out o out' × IsDrawn seed s n d (drawn_card seed s n d)
