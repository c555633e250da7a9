-- Points counted once (document 02, wish 7: "the points are a finite set"). Points may be of any type; `same` is a test of whether two are
-- equal.
--
--   Equality same    == the test `same` tells whether two points are equal
--   without same x l == the points of l that are not x
--   distinct same l  == the points of l, each once, where it stands first
--   In x l           == the point x stands in l
--   Alike l m        == the same points stand in l and in m
--   NoneTwice l      == no point stands twice in l
--   EachOnce l m     == m has the points of l, each once, and no other: `distinct` in words of its own
--   on_points K l     == the polynomials of the contents K, on the points l
use Rattle.std.specs.Prelude.{◌≡◌, ◌↔◌, ◌⊎◌, Bool, true, cond, List, [], ◌∷◌}
use Rattle.contents.specs.Contents.{Contents}

pub record Equality {X : Type 0} (same : X → X → Bool) : Type 0 where
  pub equal : (x y : X) → same x y ≡ true → x ≡ y
  pub self : (x : X) → same x x ≡ true

module _ {X : Type 0} (same : X → X → Bool) where
  unfoldable pub without : X → List X → List X
  without x [] = []
  without x (y ∷ l) = cond (same x y) (without x l) (y ∷ without x l)

  unfoldable pub distinct : List X → List X
  distinct [] = []
  distinct (x ∷ l) = x ∷ without x (distinct l)

-- ---- in words of its own

module _ {X : Type 0} where
  unfoldable pub In : X → List X → Type 0
  In x [] = ⊥
  In x (y ∷ l) = (x ≡ y) ⊎ In x l

  abbrev pub Alike : List X → List X → Type 0
  Alike l m = (x : X) → In x l ↔ In x m

  unfoldable pub NoneTwice : List X → Type 0
  NoneTwice [] = Unit {0}
  NoneTwice (x ∷ l) = (In x l → ⊥) × NoneTwice l

  pub record EachOnce (l m : List X) : Type 0 where
    pub none_twice : NoneTwice m
    pub alike : Alike l m

  -- ---- the contents

  abbrev pub on_points : Contents X → List X → Contents X
  on_points K l = record { s = K.s; value = K.value; points = l }
