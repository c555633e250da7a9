-- What a turn of each loop keeps: the rest, stored from the present place on, gives what the function is to leave.
use mathlib.Core.Path.{◌≡◌, refl, sym, ◌∙◌}
use mathlib.Core.List.{List, flat_map}
use Prim.Native.Nat.{ℕ, zero, suc, ◌+◌, ◌*◌, ◌^◌, ◌≤◌, ◌<◌}
use native.Mathlib.Numerals.{add-one}
use native.Mathlib.Omega.{arith}
use lib.IntN.{ℤ, pos}
use lib.ListN.{length, get_or, take, drop}
use lib.Seq.{sets, sets-eq, drop-cons, drop-drop}
use borrow.Rule.Slice.PartMut.{put_mid}
use Rattle.std.specs.Int.{to_be_bytes, w32}
use Rattle.std.proofs.Common.{append_assoc}
use Rattle.std.proofs.Math.Nat.{div-div-eq-div-mul}
use Rattle.sequences.proofs.Stores.{sets_append}
use Rattle.card_bytes.specs.Bytes.{bytes, complement, body_size, offsets}
use Rattle.card_bytes.proofs.Lengths.{length-bytes}

-- ---- a number

-- the last k of its four bytes, high byte first, are the number in k bytes
pub low_bytes : (k v n : ℕ) → n + k ≡ 4 → drop n (to_be_bytes w32 v) ≡ bytes k v
unfolding bytes
low_bytes zero v n h = let e : n ≡ 4 = omega arith in rw e refl
low_bytes (suc zero) v n h = let e : n ≡ 3 = omega arith in rw e refl
low_bytes (suc (suc zero)) v n h = let e : n ≡ 2 = omega arith in rw e refl
low_bytes (suc (suc (suc zero))) v n h =
    let e : n ≡ 1 = omega arith in rw (e, div-div-eq-div-mul v 256 256) refl
low_bytes (suc (suc (suc (suc zero)))) v n h =
    let e : n ≡ 0 = omega arith in rw (e, div-div-eq-div-mul v 256 256, div-div-eq-div-mul v 65536 256) refl
low_bytes (suc (suc (suc (suc (suc k))))) v n h = absurd (omega arith)

-- a part of a list written over is a run of stores
pub part_stored : (d t s : List ℕ) (at k : ℕ) → s ≡ t → k ≡ length t → at + length t ≤ length d → put_mid at k d s ≡ sets d at t
part_stored d t s at k e f h =
    rw (e, f, drop-drop (length t) at d)
    (sym (append_assoc (take at d) t (drop (at + length t) d)) ∙ sym (sets-eq t d at h))

-- ---- a body

-- the coefficients, four bytes each
abbrev pub words : List ℤ → List ℕ
words l = flat_map (λ z. bytes 4 (complement (2 ^ 31) z)) l

pub words_turn : (l : List ℤ) (out : List ℕ) (at i : ℕ) → i < length l
    → sets (sets out (at + 4 * i) (bytes 4 (complement (2 ^ 31) (get_or l i (pos 0))))) (at + 4 * (i + 1)) (words (drop (i + 1) l))
    ≡ sets out (at + 4 * i) (words (drop i l))
unfolding flat_map
words_turn l out at i h =
    let b = bytes 4 (complement (2 ^ 31) (get_or l i (pos 0))) in
    let e : at + 4 * (i + 1) ≡ at + 4 * i + length b = omega (arith, length-bytes 4 (complement (2 ^ 31) (get_or l i (pos 0)))) in
    rw (e, add-one i, drop-cons l i (pos 0)) (sets_append b (words (drop (suc i) l)) out (at + 4 * i))

-- ---- the contents

pub offsets_turn : (ds out : List ℕ) (begins j : ℕ) → j < length ds
    → sets (sets out (4 + 2 * j) (bytes 2 begins)) (4 + 2 * (j + 1)) (offsets (begins + body_size (get_or ds j 0)) (drop (j + 1) ds))
    ≡ sets out (4 + 2 * j) (offsets begins (drop j ds))
unfolding offsets
offsets_turn ds out begins j h =
    let e : 4 + 2 * (j + 1) ≡ 4 + 2 * j + length (bytes 2 begins) = omega (arith, length-bytes 2 begins) in
    let o = offsets (begins + body_size (get_or ds j 0)) (drop (suc j) ds) in
    rw (e, add-one j, drop-cons ds j 0) (sets_append (bytes 2 begins) o out (4 + 2 * j))
