-- Texts put one after the other.
use mathlib.Core.Path.{◌≡◌, sym, ap, ◌∙◌}
use mathlib.Core.List.{List, [], ◌∷◌, ◌++◌, append_assoc, append-nil}
use Prim.Native.Nat.{ℕ, ◌+◌, ◌<◌, ◌≤◌}
use native.Mathlib.Numerals.{add-one}
use native.Mathlib.Omega.{arith}
use lib.ListN.{length, take, set, length-append}
use lib.Seq.{paste, take-suc-set, take-paste, take-length}
use Rattle.lines.specs.Put.{Put}

-- no text
pub put_none : (out : List ℕ) (at : ℕ) → Put out at [] out at
put_none out at = record { text = sym (append-nil (take at out)); ends = omega arith }

-- one byte
pub put_one : (out : List ℕ) (at b : ℕ) → at < length out → Put out at (b ∷ []) (set out at b) (at + 1)
put_one out at b h = record { text = rw (add-one at) (take-suc-set out at b h); ends = omega arith }

-- a text that was copied
pub put_copy : (out t out' : List ℕ) (at k : ℕ) → at + length t ≤ length out → out' ≡ paste out at t (length t) → k ≡ length t
    → Put out at t out' (at + k)
put_copy out t out' at k h e f =
    record {
      text =
          rw (f, e) (take-paste out at t (length t) (omega arith) (omega arith) ∙ ap (λ (u : List ℕ). take at out ++ u) (take-length t));
      ends = omega arith;
    }

-- one text more
pub put_more : {out out' out'' t u : List ℕ} {at j r : ℕ} → Put out at t out' j → Put out' j u out'' r → Put out at (t ++ u) out'' r
put_more {out} {out'} {out''} {t} {u} {at} {j} {r} a b =
    record {
      text = b.text ∙ ap (λ (l : List ℕ). l ++ u) a.text ∙ append_assoc (take at out) t u;
      ends = omega (arith, a.ends, b.ends, length-append t u);
    }

-- the same text
pub put_same : {out out' t u : List ℕ} {at r : ℕ} → t ≡ u → Put out at t out' r → Put out at u out' r
put_same {out} {out'} {t} {u} {at} {r} e p = rw (← e) p
