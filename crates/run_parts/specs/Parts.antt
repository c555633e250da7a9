-- The parts of a run that need no record.
--
--   in_limits s asked round n rows answered == the test of a running record's numbers: 1 to 8 polynomials, a round of theirs, at most 64
--                                             points and rows, fewer answers than the round has products, and no more questions than such
--                                             rounds can have had
--   Copied zs out b                        == b says whether each answer of zs is in −64 .. 64; if so, they stand at the front of out
use Rattle.std.specs.Prelude.{◌≡◌, Bool, true, false, cond, ◌&&◌, List, ℕ, ◌+◌, ◌*◌, eqb, leb, ltb, ℤ, length, take}
use Rattle.refusals.specs.Limits.{most_points, most_polynomials}
use Rattle.integers.specs.Sums.{Within}

unfoldable pub in_limits : ℕ → ℕ → ℕ → ℕ → ℕ → ℕ → Bool
in_limits s asked round n rows answered =
    leb 1 s
    && (leb s most_polynomials
    && (leb round s
    && (leb n most_points
    && (leb rows most_points
    && cond (eqb round 0) (eqb answered 0 && eqb asked 0) (ltb answered (2 * rows) && leb asked (2 * most_points * round + answered))))))

abbrev pub Copied : List ℤ → List ℤ → Bool → Type 0
Copied zs out true = Within most_points zs × (take (length zs) out ≡ zs)
Copied zs out false = Within most_points zs → ⊥
