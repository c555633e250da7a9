-- Laws of draws: how many they are, where they lie, and what a loop that stores them keeps.
use Rattle.std.proofs.Common.{◌≡◌, ℕ, zero, suc, ◌+◌, ◌-◌, ◌/◌, ◌<◌, ◌≤◌, List, length, get_or, set, ℤ, pos, ◌-ℤ◌, nat_abs, refl, ap, ◌∙◌}
use Rattle.std.proofs.Common.{mod-lt, suc-add, arith, length-set}
use lib.Seq.{sets}
use Rattle.integers.proofs.Parts.{int, dif, parts, side}
use Rattle.generator.specs.Generator.{step, after, below, draws}

-- ---- the state

pub after-add : (a b σ : ℕ) → after (a + b) σ ≡ after b (after a σ)
unfolding after
after-add zero b σ = let e : 0 + b ≡ b = omega arith in rw e
after-add (suc a) b σ = rw (suc-add a b) (after-add a b (step σ))

-- ---- how many, and where they lie

pub length-draws : (m less n σ : ℕ) → length (draws m less n σ) ≡ n
unfolding draws
length-draws m less zero σ = refl
length-draws m less (suc n) σ = ap suc (length-draws m less n (step σ))

pub below_less : (m σ : ℕ) → 0 < m → below m σ < m
unfolding below
below_less m σ h = mod-lt (σ / 65536) h

-- a draw below m, less `less`, is at least −less and below m − less
pub draws-within : (m less n σ : ℕ) → 0 < m → (k : ℕ) → k < n
    → (b : ℕ) → less ≤ b → m ≤ b + less + 1 → nat_abs (get_or (draws m less n σ) k (pos 0)) ≤ b
unfolding draws
draws-within m less zero σ p k h b lo hi = absurd (omega arith)
draws-within m less (suc n) σ p zero h b lo hi =
    let x = pos (below m (step σ)) in
    let l = below_less m (step σ) p in
    omega (int, dif x (pos less), parts (x -ℤ pos less), side (x -ℤ pos less))
draws-within m less (suc n) σ p (suc k) h b lo hi = draws-within m less n (step σ) p k (omega arith) b lo hi

-- ---- the loop that stores them

module _ (m less n σ : ℕ) (out₀ : List ℤ) (at : ℕ) where
  -- k are stored: what is left to draw, stored from the present place on, gives the end
  pub record Storing (out : List ℤ) (next k : ℕ) : Type 0 where
    pub most : k ≤ n
    pub long : length out ≡ length out₀
    pub left : sets out (at + k) (draws m less (n - k) next) ≡ sets out₀ at (draws m less n σ)
    pub state : after (n - k) next ≡ after n σ

  pub storing_first : Storing out₀ σ 0
  storing_first =
      let e : at + 0 ≡ at = omega arith in
      let f : n - 0 ≡ n = omega arith in
      record { most = omega arith; long = refl; left = rw (e, f); state = rw f }

  pub storing_next : (out : List ℤ) (next k next' : ℕ) (z : ℤ) → Storing out next k → k < n → next' ≡ step next
      → z ≡ pos (below m next') -ℤ pos less → Storing (set out (at + k) z) next' (k + 1)
  unfolding draws after
  storing_next out next k next' z s h p q =
      let e : n - k ≡ suc (n - (k + 1)) = omega arith in
      let f : at + (k + 1) ≡ suc (at + k) = omega arith in
      record {
        most = omega arith;
        long = length-set out (at + k) z ∙ s.long;
        left = rw (f, q, p) (rw e at s.left);
        state = rw p (rw e at s.state);
      }

  pub storing_last : (out : List ℤ) (next k : ℕ) → Storing out next k → n ≤ k
      → (next ≡ after n σ) × (out ≡ sets out₀ at (draws m less n σ))
  unfolding draws after
  storing_last out next k s h =
      let e : n - k ≡ 0 = omega (arith, s.most) in (rw e at s.state, rw e at s.left)
