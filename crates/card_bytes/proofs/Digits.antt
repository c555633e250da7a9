-- The bytes of numbers: what stands in them, byte for byte; and two's complement, there and back.
use mathlib.Core.Path.{◌≡◌, refl, ◌∙◌}
use mathlib.Core.Logic.{⊎_elim}
use mathlib.Core.List.{[], ◌∷◌, ◌++◌}
use Prim.Native.Nat.{ℕ, suc, ◌+◌, ◌*◌, ◌-◌, ◌/◌, ◌%◌, ◌≤◌, ◌<◌}
use native.Mathlib.Omega.{arith}
use lib.IntN.{ℤ, pos, negsuc, ◌-ℤ◌}
use Rattle.integers.proofs.Parts.{int, dn, dif, side}
use Rattle.layout.specs.Format.{two's}
use Rattle.layout.proofs.Twos.{below_or, twos-low, twos_high}
use Rattle.card_bytes.specs.Bytes.{bytes, complement}

-- ---- high byte first

-- the last byte
pub bytes_last : (k v b : ℕ) → b < 256 → bytes (suc k) (v * 256 + b) ≡ bytes k v ++ (b ∷ [])
unfolding bytes
bytes_last k v b h =
    let q : (v * 256 + b) / 256 ≡ v = omega arith in
    let r : (v * 256 + b) % 256 ≡ b = omega arith in
    rw (q, r)

pub bytes_one : (a : ℕ) → a < 256 → bytes 1 a ≡ a ∷ []
unfolding bytes
bytes_one a h = let r : a % 256 ≡ a = omega arith in rw r

pub bytes_two : (a b : ℕ) → a < 256 → b < 256 → bytes 2 (a * 256 + b) ≡ a ∷ b ∷ []
bytes_two a b h i = bytes_last 1 a b i ∙ rw (bytes_one a h)

pub bytes_four : (a b c d : ℕ) → a < 256 → b < 256 → c < 256 → d < 256
    → bytes 4 (((a * 256 + b) * 256 + c) * 256 + d) ≡ a ∷ b ∷ c ∷ d ∷ []
bytes_four a b c d h i j k =
    bytes_last 3 ((a * 256 + b) * 256 + c) d k ∙ rw (bytes_last 2 (a * 256 + b) c j, bytes_two a b h i)

-- ---- two's complement

complement-below : (h : ℕ) (z : ℤ) → 0 < dn z → complement h z ≡ 2 * h - dn z
unfolding complement
complement-below h (pos n) l = absurd (omega arith)
complement-below h (negsuc n) l = refl

pub complement-twos : (h b : ℕ) → b < 2 * h → complement h (two's h b) ≡ b
unfolding complement
complement-twos h b l = ⊎_elim (λ g. rw (twos-low h b g)) high (below_or b h)
  where
    high : h ≤ b → complement h (two's h b) ≡ b
    high g =
        let d = dif (pos b) (pos (2 * h)) in
        let z = side (pos b -ℤ pos (2 * h)) in
        rw (twos_high h b g) (complement-below h (pos b -ℤ pos (2 * h)) (omega (int, d, z)) ∙ omega (int, d, z))
