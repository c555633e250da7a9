-- How many bytes the parts of a card have, and the whole.
use mathlib.Core.Path.{◌≡◌, refl}
use mathlib.Core.Bool.{Bool, false}
use mathlib.Core.List.{List, [], ◌∷◌, ◌++◌, map, flat_map}
use Prim.Native.Nat.{ℕ, zero, suc, ◌+◌, ◌*◌, ◌/◌, ◌%◌, ◌^◌, ◌≤◌}
use native.Mathlib.Omega.{arith}
use borrow.Author.Tests.{ltb-false}
use lib.Dec.{ltb}
use lib.IntN.{ℤ}
use lib.ListN.{length, take, drop, length-append, length-map, length-drop}
use lib.Seq.{length-take-le}
use Rattle.integers.proofs.Search.{left_false, right_false}
use Rattle.card_bytes.specs.Bytes.{bytes, complement, wanted, bodies_from, offsets, body, bodies, card_bytes}
use Rattle.card_bytes.specs.Causes.{some}

-- ---- the parts

pub length-bytes : (k v : ℕ) → length (bytes k v) ≡ k
unfolding bytes
length-bytes zero v = refl
length-bytes (suc k) v = omega (arith, length-append (bytes k (v / 256)) (v % 256 ∷ []), length-bytes k (v / 256))

pub length-offsets : (at : ℕ) (ds : List ℕ) → length (offsets at ds) ≡ 2 * (length ds + 1)
unfolding offsets
length-offsets at [] = length-bytes 2 at
length-offsets at (d ∷ ds) =
    omega (
      arith,
      length-append (bytes 2 at) (offsets (at + (1 + 4 * (d + 1))) ds),
      length-bytes 2 at,
      length-offsets (at + (1 + 4 * (d + 1))) ds,
    )

length_words : (f : ℤ → ℕ) (l : List ℤ) → length (flat_map (λ z. bytes 4 (f z)) l) ≡ 4 * length l
unfolding flat_map
length_words f [] = refl
length_words f (z ∷ l) =
    omega (arith, length-append (bytes 4 (f z)) (flat_map (λ y. bytes 4 (f y)) l), length-bytes 4 (f z), length_words f l)

pub length-body : (d : ℕ) (l : List ℤ) → length (body d l) ≡ 1 + 4 * length l
unfolding body
length-body d l = omega (arith, length_words (complement (2 ^ 31)) l)

pub length-bodies : (ds : List ℕ) (cs : List ℤ) → length cs ≡ wanted ds → length (bodies ds cs) ≡ length ds + 4 * wanted ds
unfolding bodies wanted
length-bodies [] cs e = refl
length-bodies (d ∷ ds) cs e =
    let t = length-take-le (d + 1) cs (omega arith) in
    let r : length (drop (d + 1) cs) ≡ wanted ds = omega (arith, length-drop (d + 1) cs) in
    omega (
      arith,
      length-append (body d (take (d + 1) cs)) (bodies ds (drop (d + 1) cs)),
      length-body d (take (d + 1) cs),
      length-bodies ds (drop (d + 1) cs) r,
    )

-- ---- the whole

pub length-card : (ds : List ℕ) (cs ps : List ℤ) → length cs ≡ wanted ds
    → length (card_bytes ds cs ps) ≡ bodies_from (length ds) + (length ds + 4 * length cs) + length ps
unfolding card_bytes
length-card ds cs ps e =
    omega (
      arith,
      length-append (offsets (bodies_from (length ds)) ds) (bodies ds cs ++ map (complement 128) ps),
      length-offsets (bodies_from (length ds)) ds,
      length-append (bodies ds cs) (map (complement 128) ps),
      length-bodies ds cs e,
      length-map ps (complement 128),
    )

-- ---- how many coefficients there are

-- a test that holds of no element of a list fails at its first one, and at none after it
pub some_first : {A : Type 0} (f : A → Bool) (x : A) (l : List A) → some f (x ∷ l) ≡ false → f x ≡ false
unfolding some
some_first f x l e = left_false (f x) (some f l) e

pub some-rest : {A : Type 0} (f : A → Bool) (x : A) (l : List A) → some f (x ∷ l) ≡ false → some f l ≡ false
unfolding some
some-rest f x l e = right_false (f x) (some f l) e

pub wanted-most : (ds : List ℕ) → some (ltb 6) ds ≡ false → wanted ds ≤ 7 * length ds
unfolding wanted
wanted-most [] e = omega arith
wanted-most (d ∷ ds) e =
    let a = ltb-false 6 d (some_first (ltb 6) d ds e) in omega (arith, wanted-most ds (some-rest (ltb 6) d ds e))
