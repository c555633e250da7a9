-- `lines::copy_at` meets its contract: what was passed is copied, the rest as it was.
use Rattle.std.proofs.Common.{◌≡◌, ℕ, ◌+◌, ◌-◌, List, length, take, drop, append_assoc, sym, arith}
use borrow.Rule.Slice.PartMut.{put_mid}
use lib.Seq.{paste, take-length, drop-drop}
use Rattle.lines.proofs.copy_at.Goals as goal

copied : (d t s : List ℕ) (at k : ℕ) → s ≡ t → k ≡ length t → put_mid at k d s ≡ paste d at t (length t)
copied d t s at k e f = rw (e, f, drop-drop (length t) at d, take-length t) (sym (append_assoc (take at d) t (drop (at + length t) d)))

pub returns : goal.returns
returns c =
    let n = length c.args.text.now in
    copied c.args.out.now c.args.text.now _ c.args.at (c.args.at + n - c.args.at) c.copy_from_slice.ensures.after (omega arith)
