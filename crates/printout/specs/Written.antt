-- What a call for the whole printout gives (document 01, "Cause, and what the caller gets").
--
--   most_lines           == 658, the most lines of a printout: 593 questions, 64 rows and the last line
--   short_line           == 11, the most bytes of a line of a card's printout: `Q 6560 -64` and a newline
--   most_text            == the room that a printout is written in: so many lines of so many bytes, and past them that of the longest lines
--                          from a last question on
--   placed t out        == where the text t fits the slice out: how many bytes it has, and the slice with t at its front, "Longer output
--                          slices keep what lies past the result"; else 15, too short, and the slice as it was
--   written_of c out     == what the call for the printout of the card c gives, and the slice out after it
--   Placed t out o out' == the same of a text t apart from that definition: a call with the slice out that gives o and leaves out'
use Rattle.std.specs.Prelude.{◌≡◌, cond, List, ◌++◌, ℕ, ◌+◌, ◌*◌, ◌<◌, ◌≤◌, leb, Result, Ok, length, take, drop}
use Rattle.refusals.specs.Numbers.{too_short}
use Rattle.refusals.specs.Refusals.{refusing}
use Rattle.refusals.specs.declared.Refusal.{Refusal}
use Rattle.refusals.specs.Limits.{most_points, most_questions}
use Rattle.lines.specs.Text.{longest_line}
use Rattle.printout.specs.Printout.{printout_of}

abbrev pub most_lines : ℕ
most_lines = most_questions + most_points + 1

abbrev pub short_line : ℕ
short_line = 11

abbrev pub most_text : ℕ
most_text = most_lines * short_line + (most_points + 2) * longest_line

unfoldable pub placed : List ℕ → List ℕ → Result ℕ Refusal × List ℕ
placed t out = cond (leb (length t) (length out)) (Ok (length t), t ++ drop (length t) out) (refusing too_short, out)

abbrev pub written_of : List ℕ → List ℕ → Result ℕ Refusal × List ℕ
written_of c out = placed (printout_of c) out

pub record Placed (t out : List ℕ) (o : Result ℕ Refusal) (out' : List ℕ) : Type 0 where
  pub short : length out < length t → (o ≡ refusing 15) × (out' ≡ out)
  pub whole : length t ≤ length out → o ≡ Ok (length t)
  pub front : length t ≤ length out → take (length t) out' ≡ t
  pub rest : length t ≤ length out → drop (length t) out' ≡ drop (length t) out
