-- THEOREM of the code: a call of `write` gives what `WriteGives` says. The call is known by its contract alone (`Learnt`), so that a weaker
-- promise breaks the theorem.
use mathlib.Core.Path.{◌≡◌, refl}
use mathlib.Core.List.{List, ◌++◌}
use Prim.Native.Nat.{ℕ, zero, suc, ◌<◌, ◌≤◌}
use native.Mathlib.Omega.{arith}
use borrow.Author.Tests.{lt-ltb, le-ltb}
use contract.Lifetimes.{Lfts}
use denote.Ref.{Bor, MutBor}
use lib.IntN.{ℤ}
use lib.ListN.{length, drop}
use lib.Seq.{take-append_seam, drop-append_seam}
use Rattle.refusals.specs.Numbers.{◌▸◌}
use Rattle.card_bytes.specs.Bytes.{card_bytes}
use Rattle.card_bytes.specs.Causes.{write_cause}
use Rattle.card_bytes.proofs.Refused.{refuses}
use Rattle.card_writer.specs.Writing.{buffer_cause, placed, writing}
use Rattle.card_writer.specs.Claim.{Placed, Kept, WriteGives}
use Rattle.std.proofs.Common.{Result, Ok}
use Rattle.refusals.specs.declared.Refusal.{Refusal}
use Rattle.card_writer.proofs.write.Reads as write

-- ---- what is placed, by its causes

module _ (c out : List ℕ) where
  pub placed-refused : (m k : ℕ) → 0 < m → Kept m out (placed (m ▸ k) c out).0 (placed (m ▸ k) c out).1
  placed-refused zero k h = absurd (omega arith)
  placed-refused (suc m) k h = record { answer = refl; kept = refl }

  pub placed-short : (m : ℕ) → m ≡ 0 → length out < length c
      → Kept 15 out (placed (m ▸ buffer_cause c out) c out).0 (placed (m ▸ buffer_cause c out) c out).1
  placed-short m e h = rw (e, lt-ltb (length out) (length c) h) (record { answer = refl; kept = refl })

  pub placed-whole : (m : ℕ) → m ≡ 0 → length c ≤ length out
      → Placed c out (placed (m ▸ buffer_cause c out) c out).0 (placed (m ▸ buffer_cause c out) c out).1
  placed-whole m e h =
      rw (e, le-ltb (length out) (length c) h)
      (record { answer = refl; front = take-append_seam c (drop (length c) out); rest = drop-append_seam c (drop (length c) out) })

  -- an answer that is a length: nothing refuses
  pub placed-length : (m n : ℕ) → Ok n ≡ (placed m c out).0 → (m ≡ 0) × (n ≡ length c) × ((placed m c out).1 ≡ c ++ drop (length c) out)
  placed-length zero n e = (refl, cc, refl)
  placed-length (suc m) n e = let z : ◌≡◌ {A = ℕ} 0 1 = cc in absurd (omega arith)

-- ---- the call

pub writing-gives : (ds : List ℕ) (cs ps : List ℤ) (out : List ℕ)
    → WriteGives ds cs ps out (writing ds cs ps out).0 (writing ds cs ps out).1
unfolding writing
writing-gives ds cs ps out =
    let c = card_bytes ds cs ps in record {
      number = write_cause ds cs ps;
      cause = refuses ds cs ps;
      refused = λ h. placed-refused c out (write_cause ds cs ps) (buffer_cause c out) h;
      short = λ w h. placed-short c out (write_cause ds cs ps) ((refuses ds cs ps).is_0.1 w) h;
      written = λ w h. placed-whole c out (write_cause ds cs ps) ((refuses ds cs ps).is_0.1 w) h;
    }

module _ (κs : Lfts 4) (ds : Bor (List ℕ)) (cs ps : Bor (List ℤ)) (out out' : MutBor (List ℕ)) where
  pub write_gives : (o : Result ℕ Refusal) → write.Learnt κs (ds, (cs, (ps, (out, tt)))) o (ds, (cs, (ps, (out', tt))))
      → WriteGives ds.now cs.now ps.now out.now o out'.now
  write_gives o (e, f) = rw (e, f) (writing-gives ds.now cs.now ps.now out.now)
