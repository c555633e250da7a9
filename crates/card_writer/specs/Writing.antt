-- What a call that writes a card answers and leaves in the buffer lent to it (document 02, wish 2: "the result is the card's length, a
-- short buffer is 15, last, and a refusal writes nothing").
--
--   buffer_cause c out    == 15 where the buffer out is shorter than the card c, or 0
--   placed m c out       == the answer and the buffer: where the number m refuses, its refusal and the buffer as it was; else the card's
--                           length, and the card c at the buffer's front, what lies past it being kept
--   writing ds cs ps out == the answer of a call on the degrees ds, the coefficients cs, the points ps and the buffer out, and what the
--                           buffer holds then
use Rattle.std.specs.Prelude.{List, ◌++◌, ℕ, ltb, ℤ, Result, Ok, length, drop}
use Rattle.refusals.specs.Numbers.{too_short, ◌when◌, ◌▸◌, unless}
use Rattle.refusals.specs.Refusals.{refusing}
use Rattle.refusals.specs.declared.Refusal.{Refusal}
use Rattle.card_bytes.specs.Bytes.{card_bytes}
use Rattle.card_bytes.specs.Causes.{write_cause}

abbrev pub buffer_cause : List ℕ → List ℕ → ℕ
buffer_cause c out = too_short when ltb (length out) (length c)

abbrev pub placed : ℕ → List ℕ → List ℕ → Result ℕ Refusal × List ℕ
placed m c out = unless m (λ k. (refusing k, out)) (Ok (length c), c ++ drop (length c) out)

unfoldable pub writing : List ℕ → List ℤ → List ℤ → List ℕ → Result ℕ Refusal × List ℕ
writing ds cs ps out = placed (write_cause ds cs ps ▸ buffer_cause (card_bytes ds cs ps) out) (card_bytes ds cs ps) out
