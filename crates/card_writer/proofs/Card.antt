-- The parts of a card, put one after the other, are the card.
use mathlib.Core.Path.{◌≡◌, ap, ◌∙◌}
use mathlib.Core.List.{List, [], ◌∷◌, ◌++◌, map}
use Prim.Native.Nat.{ℕ, ◌+◌, ◌*◌}
use native.Mathlib.Omega.{arith}
use lib.IntN.{ℤ}
use lib.ListN.{length}
use lib.Seq.{sets}
use Rattle.sequences.proofs.Stores.{sets_append}
use Rattle.card_bytes.specs.Bytes.{complement, wanted, bodies_from, offsets, bodies, card_bytes}
use Rattle.card_bytes.proofs.Lengths.{length-offsets, length-bodies}

pub card_parts : (ds out : List ℕ) (cs ps : List ℤ) → length cs ≡ wanted ds
    → sets (sets (sets (sets out 0 (1 ∷ length ds ∷ length ps ∷ 0 ∷ [])) 4 (offsets (bodies_from (length ds)) ds)) (bodies_from (length ds))
    (bodies ds cs)) (bodies_from (length ds) + (length ds + 4 * length cs)) (map (complement 128) ps)
    ≡ sets out 0 (card_bytes ds cs ps)
unfolding card_bytes
card_parts ds out cs ps l =
    let h : List ℕ = 1 ∷ length ds ∷ length ps ∷ 0 ∷ [] in
    let o = offsets (bodies_from (length ds)) ds in
    let b = bodies ds cs in
    let p = map (complement 128) ps in
    let n = bodies_from (length ds) in
    let e : n + (length ds + 4 * length cs) ≡ n + length b = omega (arith, length-bodies ds cs l) in
    let f : n ≡ 4 + length o = omega (arith, length-offsets n ds) in
    ap (λ (i : ℕ). sets (sets (sets (sets out 0 h) 4 o) n b) i p) e
    ∙ sets_append b p (sets (sets out 0 h) 4 o) n
    ∙ ap (λ (i : ℕ). sets (sets (sets out 0 h) 4 o) i (b ++ p)) f
    ∙ sets_append o (b ++ p) (sets out 0 h) 4
