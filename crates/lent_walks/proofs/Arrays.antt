-- An array in memory, lent as a `&mut [T]` for a lifetime that is made for it, and taken back. Assumes `Logic`.
--
--   array_of D n == the `Data` of an array of n elements of D
--   array_opens  == a `&` to such an array is opened, since one to each element is
--   lent_array  == the cell of an array is lent as a slice; the lender's part stays
--   array_back  == once the lifetime has ended it is the array's cell again, at the slice's last value
use mathlib.Core.Path.{refl}
use mathlib.Core.List.{List, [], ◌∷◌, map}
use Prim.Native.Nat.{ℕ, ◌+◌}
use lib.ListN.{length}
use mir.Syntax.{Ty, Lifetime}
use mir.Val.{Val}
use seplogic.Ra.Ura.{Ura}
use base.Fraction.{full_share}
use base.Logic.{ent, emp}
use base.Fml.{GName, Share, Fml, fsep, feq, flft, flent}
use types.Logic.{Logic, sem}
use types.Kit.{Goal, Soaks, Item, ‵, ◌⊛◌, some, later, Seq, ◌$◌, use1, use3, await, pick, split, move, drop, rewrite, fsplit, fjoin}
use types.Kit.{fpick, fpack, !, qed, by, done}
use types.SemTy.{cells, Arr}
use types.Share.{parts, arr_parts}
use types.Tokens.{lft_new, lft_end}
use denote.Array.{Array, each, array_val, Array-Tells, Array-Lawful, Array-Makes, array_copy}
use denote.ArrayMemory.{Single, Array-apart, Array-whole}
use denote.Index.{row, whole_in, whole_out}
use denote.Lend.{Held, lends_slice, slice_back}
use denote.Memory.{mem, shares, cell_at, part_at, part_of, shared_of, each_shared}
use denote.Shadow.{shadow}
use denote.Laws.{Is, Typed, shows}
use denote.Steps.{peeks}
use denote.Copied.{told_Cuts}
use denote.Opens.{Cuts, Cuts-nothing, Cuts-both, Opened, Opened-nothing, Opened-both, Opened-after, Twice, Twice-of, Twice-both}
use denote.Opens.{Opens}
use denote.Sharing.{nothing, said}
use denote.SharingLaws.{nothing_shr_laws, said_shr_laws}
use denote.Slice.{MutSlice, Room, slice_val, finally}
use Rattle.lent_walks.proofs.Thin.{Data, Good, owned_of, written}

-- ---- a `&` to an array is opened, since one to each element is. Where there is an element, elements are of one MIR type, since it is well
-- typed: so nothing is asked of D
single_of : (τs : List Ty) (u : Val) → Typed τs (u ∷ []) → Single τs
single_of [] u t = absurd t
single_of (τ ∷ []) u t = tt
single_of (τ ∷ σ ∷ τs) u t = absurd t.1

module _ {M : Type 1} {𝓤 : Ura M} (𝓛 : Logic 𝓤) (D : Data) where
  abbrev size : ℕ
  size = (mem D.row).size

  abbrev rest : List D.row.Denot → ℕ → ℕ → Share → Fml
  rest xs b o q = parts (mem D.row) (shares D.row) q xs b o

  first_single : (x : D.row.Denot) (xs : List D.row.Denot) (us : List Val) → shadow (each D.row.Denot D.row.own_val (x ∷ xs) us)
      → Single D.row.mir
  first_single x xs [] s = absurd s
  first_single x xs (u ∷ us) s = single_of D.row.mir u ((D.lawful 𝓛).typed x (u ∷ []) s.0)

  elements_of : (n : ℕ) (xs : List D.row.Denot) (b o : ℕ) (q : Share)
      → ent 𝓤 (sem 𝓛 (part_at (Array D.row n) q xs b o)) (sem 𝓛 (rest xs b o q))
  unfolding part_of
  elements_of n [] b o q = qed 𝓛 (‵ (part_at (Array D.row n) q [] b o) ∷ []) {P = emp 𝓤} (drop ! $ done !)
  elements_of n (x ∷ xs) b o q =
      qed 𝓛 (‵ (part_at (Array D.row n) q (x ∷ xs) b o) ∷ []) {P = sem 𝓛 (rest (x ∷ xs) b o q)} (fpick ! (λ vs. fsplit ! $ move ! (1 ∷ []) $
      peeks ! (Array D.row n) (Is (Array D.row n)) (shows 𝓛 (Array D.row n)) (x ∷ xs) vs (λ is. move ! (1 ∷ 0 ∷ []) $ fjoin ! $
      fpack ! (List Val) (λ us. fsep (cell_at q (Array D.row n).mir us b o) ((Array D.row n).own_val (x ∷ xs) us)) vs $
      use1 𝓛 (‵ ((arr_parts (shares D.row) n).part q (x ∷ xs) b o)) (Array-apart 𝓛 D.row q (first_single x xs is.0 is.1.1) n (x ∷ xs) b o) $
      fsplit ! $ drop ! $ done !)))

  each_Cuts : (xs : List D.row.Denot) (b o : ℕ) → Cuts 𝓛 (rest xs b o)
  each_Cuts [] b o = Cuts-nothing 𝓛
  each_Cuts (x ∷ xs) b o =
      Cuts-both 𝓛 (λ q. part_at D.row q x b o) (rest xs b (o + size)) (told_Cuts 𝓛 D.row (λ y. D.val y ∷ []) D.tells (D.copy 𝓛) x b o)
      (each_Cuts xs b (o + size))

  each_opens : (xs : List D.row.Denot) (b o : ℕ) → Opened 𝓛 (rest xs b o) (each_shared xs (shared_of D.row) size b o)
  each_opens [] b o = Opened-nothing 𝓛
  each_opens (x ∷ xs) b o =
      Opened-both 𝓛 (λ q. part_at D.row q x b o) (rest xs b (o + size)) (shared_of D.row x b o)
      (each_shared xs (shared_of D.row) size b (o + size))
      (told_Cuts 𝓛 D.row (λ y. D.val y ∷ []) D.tells (D.copy 𝓛) x b o) (each_Cuts xs b (o + size)) ((D.opens 𝓛) x b o).0
      (each_opens xs b (o + size))

  each_Twice : (xs : List D.row.Denot) (b o : ℕ) → Twice 𝓛 (each_shared xs (shared_of D.row) size b o)
  each_Twice [] b o = Twice-of 𝓛 nothing nothing_shr_laws
  each_Twice (x ∷ xs) b o =
      Twice-both 𝓛 (shared_of D.row x b o) (each_shared xs (shared_of D.row) size b (o + size)) ((D.opens 𝓛) x b o).1
      (each_Twice xs b (o + size))

  pub array_opens : (n : ℕ) → Opens 𝓛 (Array D.row n)
  array_opens n xs b o = (
    Opened-after 𝓛 (rest xs b o) (λ q. part_at (Array D.row n) q xs b o) (said (feq ℕ (length xs) n))
        (each_shared xs (shared_of D.row) size b o)
        (λ κ q. qed 𝓛 (‵ (rest xs b o q) ∷ ‵ (feq ℕ (length xs) n) ∷ []) {P = sem 𝓛 (part_at (Array D.row n) q xs b o)}
        (move ! (1 ∷ 0 ∷ []) $ by ! (Array-whole 𝓛 D.row q n xs b o)))
        (elements_of n xs b o) (each_opens xs b o),
    Twice-both 𝓛 (said (feq ℕ (length xs) n)) (each_shared xs (shared_of D.row) size b o)
        (Twice-of 𝓛 (said (feq ℕ (length xs) n)) (said_shr_laws (feq ℕ (length xs) n) tt)) (each_Twice xs b o),
  )

abbrev pub array_of : Data → ℕ → Data
array_of D n = record {
  row = Array D.row n;
  val = λ xs. array_val (map D.val xs);
  tells = Array-Tells D.row (λ x. D.val x ∷ []) D.tells n;
  lawful = λ 𝓛. Array-Lawful 𝓛 D.row (D.lawful 𝓛) n;
  makes = λ 𝓛. Array-Makes 𝓛 D.row (D.makes 𝓛) n;
  copy = λ 𝓛. array_copy 𝓛 D.row (D.copy 𝓛) n;
  opens = λ 𝓛. array_opens 𝓛 D n;
}

module _ {M : Type 1} {𝓤 : Ura M} {𝓛 : Logic 𝓤} {K : Type 0} {Γ : List (Item 𝓤)} {G : Goal 𝓤 𝓛.H} where
  pub lent_array : K → Soaks G → (D : Data) → Single D.row.mir → (n : ℕ) (ℓ : Lifetime) (xs : List D.row.Denot)
      → Good (array_of D n) xs → Room D.row (length xs) → (b o : ℕ)
      → ((ν : ℕ) (γ : GName)
      → Seq K 𝓛 (‵ (flft (ν ∷ []) full_share) ∷ ‵
      ((MutSlice ℓ (ν ∷ []) D.row).own_val (record { ref_ptr = (b, o); ghost_name = γ; now = xs }) (slice_val (b, o) n ∷ [])) ∷ ‵
      (flent (ν ∷ []) (Held D.row n b o γ)) ∷ Γ) G)
      → Seq K 𝓛 (‵ (cell_at full_share (array_of D n).row.mir ((array_of D n).val xs ∷ []) b o) ∷ Γ) G
  unfolding part_of
  lent_array t z D s n ℓ xs is r b o k =
      owned_of t (array_of D n) xs is $ move t (1 ∷ 0 ∷ []) $ fjoin t $ fpack t (List Val)
      (λ us. fsep (cell_at full_share (array_of D n).row.mir us b o) ((array_of D n).row.own_val xs us)) ((array_of D n).val xs ∷ []) $
      use1 𝓛 (‵ ((arr_parts (shares D.row) n).part full_share xs b o)) (Array-apart 𝓛 D.row full_share s n xs b o) $
      fsplit t $ drop t $ use1 𝓛 (‵ (cells (mem D.row) xs b o)) (whole_in 𝓛 D.row xs b o) $
      lft_new t z (λ ν. move t (1 ∷ []) $
      use1 𝓛 (later (some (λ (γ : GName).
      ‵ ((MutSlice ℓ (ν ∷ []) D.row).own_val (record { ref_ptr = (b, o); ghost_name = γ; now = xs }) (slice_val (b, o) (length xs) ∷ [])) ⊛
      ‵
      (flent (ν ∷ []) (Held D.row (length xs) b o γ))))) (lends_slice 𝓛 D.row ℓ (ν ∷ []) xs b o r) $
      await t z $ pick t (λ γ. split t $
      rewrite t 0 (λ (m : ℕ). ‵
      ((MutSlice ℓ (ν ∷ []) D.row).own_val (record { ref_ptr = (b, o); ghost_name = γ; now = xs }) (slice_val (b, o) m ∷ []))) is.1.0.1
      refl $
      rewrite t 1 (λ (m : ℕ). ‵ (flent (ν ∷ []) (Held D.row m b o γ))) is.1.0.1 refl $ move t (2 ∷ 0 ∷ []) $ k ν γ))

  pub array_back : K → Soaks G → (D : Data) (n : ℕ) (ys : List D.row.Denot) {ν : ℕ} {γ : GName} (b o : ℕ)
      → (Good (array_of D n) ys → Seq K 𝓛 (‵ (cell_at full_share (array_of D n).row.mir ((array_of D n).val ys ∷ []) b o) ∷ Γ) G)
      → Seq K 𝓛 (‵ (flft (ν ∷ []) full_share) ∷ ‵ (flent (ν ∷ []) (Held D.row n b o γ)) ∷ ‵ (finally D.row γ ys) ∷ Γ) G
  unfolding part_of
  array_back t z D n ys {ν} {γ} b o k =
      lft_end t z $ use3 𝓛 (later (‵ ((Arr (mem D.row) n).own_at ys b o))) (slice_back 𝓛 D.row (ν ∷ []) γ ys n b o) $ await t z $
      fsplit t $ move t (1 ∷ []) $ use1 𝓛 (‵ (row D.row full_share ys b o)) (whole_out 𝓛 D.row ys b o) $ move t (1 ∷ 0 ∷ []) $
      fjoin t $ use1 𝓛 (‵ (part_at (Array D.row n) full_share ys b o)) (Array-whole 𝓛 D.row full_share n ys b o) $
      fpick t (λ vs. fsplit t $ written t (array_of D n) full_share ys vs b o k)
