-- What the proof of a thin function over a lent record says, in steps over any type of plain data. Assumes `Logic`.
--
--   Data                           == a type of plain data with its laws: its row, its machine value as a function of its value, and what a
--                                     walk asks of them
--   struct, enum, signed, unsigned == the `Data` of a declared struct, of a declared enum, and of the signed and the unsigned integers
--   owned_of                       == what D owns at x is had for nothing: it is dropped where it is met and made anew where it is asked
--                                     for
--   looked, shut                   == what a `&D` holds is looked into, which gives a share of the cell; and shut again
--   opened, closed                 == a `&mut D` is opened, which gives the cell with the value h; and closed at another value
--   lent, back                     == the cell of a local is lent as a `&mut D` for a lifetime that is made for it; and once that has ended
--                                     it is the local's cell again, at the reference's last value
--   calls_plain                    == a call whose result is plain data, in one step, for a callee whose `ensures` reads no last value
use mathlib.Core.Path.{sym, ap, subst}
use mathlib.Core.List.{List, [], ◌∷◌}
use Prim.Native.Nat.{ℕ}
use mir.Syntax.{Width, Callee, Place, Opd as Operand, Body as Code, seq, call, named}
use mir.Val.{Val, vint, vptr, of_z}
use seplogic.Ra.Ura.{Ura}
use base.Fraction.{full_share}
use base.Logic.{SProp, ent, via, snd∗, ex_e, id⊢}
use base.Stored.{Gv}
use base.Fml.{Lft, GName, Share, fsep, flft, fobs, fauth, fbor, fobor, flent, fres}
use prog.Wp.{Env, Calls, Loops}
use types.Logic.{Logic, sem}
use sound.WpLaws.{FmC}
use contract.Monad.{fact}
use types.Kit.{Goal, Soaks, Step, step, Item, Post, ‵, raw, ◌⊛◌, some, later, runs, lands, Seq, ◌$◌, use1, use3, await, pick, split}
use types.Kit.{move, drop, fsplit, fjoin, fpick, fpack}
use types.Run.{Opds}
use types.SemTy.{Body}
use types.Tokens.{lft_new, lft_end}
use denote.RattleType.{RattleType}
use denote.Laws.{Is, Tells, Makes, Lawful, Copy, shows}
use denote.Opens.{Opens, Shut}
use denote.Copied.{uint_Copied, sint_Copied}
use denote.Memory.{mem, cell_at, part_at, part_of, hidden_shr}
use denote.Lend.{lends_ref, ref_back}
use denote.Ref.{MutRef}
use denote.Plain.{UInt, uint_Tells, uint_Makes, uint_Lawful, uint_copy}
use denote.Signed.{SInt, sint_Tells, sint_Makes, sint_Lawful, sint_copy}
use denote.Signature.{type_at}
use denote.Steps.{only, looks, shuts, opens, closes, owned, peeks, heard}
use denote.Struct.Steps.{spelt}
use denote.Struct.Struct.{Plains}
use denote.Enum.Enum.{Few, Plainss}
use denote.Triple.Call.{calls_at}
use denote.Triple.Clauses.{Ended, Clauses, AtExit, closing, ensured, at_exit, lasts}
use denote.Triple.Entry.{alive}
use denote.Triple.Spec.{triple_of}
use denote.Triple.Statement.{Contract, Triple}
use denote.Struct.Declared as SD
use denote.Struct.Laws as SL
use denote.Enum.Declared as ED
use denote.Enum.Laws as EL

-- ---- a type of plain data, with its laws
pub record Data : Type 2 where
  pub row : RattleType
  pub val : row.Denot → Val
  pub tells : Tells row (Is row) (λ x. val x ∷ [])
  pub lawful : {M : Type 1} {𝓤 : Ura M} (𝓛 : Logic 𝓤) → Lawful 𝓛 row
  pub makes : {M : Type 1} {𝓤 : Ura M} (𝓛 : Logic 𝓤) → Makes 𝓛 row (Is row)
  pub copy : {M : Type 1} {𝓤 : Ura M} (𝓛 : Logic 𝓤) → Copy 𝓛 row
  -- a share of the value is had of what a `&` to it holds, and that is had twice
  pub opens : {M : Type 1} {𝓤 : Ura M} (𝓛 : Logic 𝓤) → Opens 𝓛 row

-- x has the machine value that it should
abbrev pub Good : (D : Data) → D.row.Denot → Type 0
Good D x = Is D.row x (D.val x ∷ [])

abbrev pub struct : (T : SD.Declared) → SL.Laws T → Plains (SD.fields T) → SL.Copyables T.parts → Data
struct T L pl cp = record {
  row = SD.row T;
  val = SL.val T L;
  tells = SL.tells T L;
  lawful = λ 𝓛. SL.lawful T L 𝓛;
  makes = λ 𝓛. SL.makes T pl 𝓛;
  copy = λ 𝓛. SL.copy T cp 𝓛;
  opens = λ 𝓛. (SL.copied T cp 𝓛).opens;
}

abbrev pub enum : (T : ED.Declared) → EL.Laws T → Few (ED.shape T) → Plainss (ED.variants T) → EL.Copyabless T.parts → Data
enum T L few pl cp = record {
  row = ED.row T;
  val = EL.val T L;
  tells = EL.tells T L;
  lawful = λ 𝓛. EL.lawful T L 𝓛 few;
  makes = λ 𝓛. EL.makes T pl 𝓛;
  copy = λ 𝓛. EL.copy T cp 𝓛;
  opens = λ 𝓛. (EL.copied T cp 𝓛).opens;
}

abbrev pub signed : Width → Data
signed w = record {
  row = SInt w;
  val = λ z. vint w (of_z w z);
  tells = sint_Tells w;
  lawful = λ 𝓛. sint_Lawful 𝓛 w;
  makes = λ 𝓛. sint_Makes 𝓛 w;
  copy = λ 𝓛. sint_copy 𝓛 w;
  opens = λ 𝓛. (sint_Copied 𝓛 w).opens;
}

abbrev pub unsigned : Width → Data
unsigned w = record {
  row = UInt w;
  val = vint w;
  tells = uint_Tells w;
  lawful = λ 𝓛. uint_Lawful 𝓛 w;
  makes = λ 𝓛. uint_Makes 𝓛 w;
  copy = λ 𝓛. uint_copy 𝓛 w;
  opens = λ 𝓛. (uint_Copied 𝓛 w).opens;
}

module _ {M : Type 1} {𝓤 : Ura M} {𝓛 : Logic 𝓤} {K : Type 0} {Γ : List (Item 𝓤)} {G : Goal 𝓤 𝓛.H} where
  pub owned_of : K → (D : Data) (x : D.row.Denot) → Good D x → Step K 𝓛 (‵ (D.row.own_val x (D.val x ∷ [])) ∷ Γ) G Γ G
  owned_of t D x is = owned t D.row (Is D.row) (D.makes 𝓛) x _ is

  -- a share of the cell with what D owns: the machine value is written out, its relation is learned, and what D owns is dropped
  pub written : K → (D : Data) (q : Share) (x : D.row.Denot) (vs : List Val) (b o : ℕ)
      → (Good D x → Seq K 𝓛 (‵ (cell_at q D.row.mir (D.val x ∷ []) b o) ∷ Γ) G)
      → Seq K 𝓛 (‵ (cell_at q D.row.mir vs b o) ∷ ‵ (D.row.own_val x vs) ∷ Γ) G
  written t D q x vs b o k = spelt t D.row (Is D.row) (shows 𝓛 D.row) (λ y. D.val y ∷ []) D.tells q x vs b o $
      move t (1 ∷ []) $ peeks t D.row (Is D.row) (shows 𝓛 D.row) x (D.val x ∷ []) (λ is. drop t $ k is)

module _ {M : Type 1} {𝓤 : Ura M} {𝓛 : Logic 𝓤} {K : Type 0} {Γ : List (Item 𝓤)} {G : Goal 𝓤 𝓛.H} where
  -- ---- a `&D`
  pub looked : K → Soaks G → (D : Data) {κ : Lft} {q : Share} (h : D.row.Denot) (b o : ℕ)
      → ((q' : Share) → Good D h
      → Seq K 𝓛 (‵ (cell_at q' D.row.mir (D.val h ∷ []) b o) ∷ Shut 𝓛 κ q (part_at D.row q' h b o) ∷ ‵
      (hidden_shr D.row κ h b o) ∷ Γ) G)
      → Seq K 𝓛 (‵ (hidden_shr D.row κ h b o) ∷ ‵ (flft κ q) ∷ Γ) G
  looked t z D h b o k =
      looks t z D.row (D.opens 𝓛) h b o (λ q' vs. written t D q' h vs b o (k q'))

  pub shut : K → Soaks G → (D : Data) {κ : Lft} {q : Share} (q' : Share) (h : D.row.Denot) → Good D h → (b o : ℕ)
      → Step K 𝓛 (‵ (flft κ q) ∷ Γ) G (‵ (cell_at q' D.row.mir (D.val h ∷ []) b o) ∷ Shut 𝓛 κ q (part_at D.row q' h b o) ∷ Γ) G
  shut t z D q' h is b o = step (λ s. owned_of t D h is $ move t (1 ∷ 0 ∷ []) $ shuts t z D.row q' h (D.val h ∷ []) b o $ s)

  -- ---- a `&mut D`
  pub opened : K → Soaks G → (D : Data) {κ : Lft} {q : Share} (h : D.row.Denot) {γ : GName} (b o : ℕ)
      → (Good D h → Seq K 𝓛
      (‵ (cell_at full_share D.row.mir (D.val h ∷ []) b o) ∷ ‵ (fobor κ q (Body (mem D.row) b o γ)) ∷ ‵
      (fobs γ (D.row.coded.code h)) ∷ ‵ (fauth γ (D.row.coded.code h)) ∷ Γ) G)
      → Seq K 𝓛 (‵ (fobs γ (D.row.coded.code h)) ∷ ‵ (fbor κ (Body (mem D.row) b o γ)) ∷ ‵ (flft κ q) ∷ Γ) G
  opened t z D h b o k = opens t z D.row {h = h} b o (λ vs. written t D full_share h vs b o k)

  pub closed : K → Soaks G → (D : Data) {κ : Lft} {q : Share} {u v : Gv} (h' : D.row.Denot) → Good D h' → {γ : GName} (b o : ℕ)
      → Step K 𝓛 (‵ (fobs γ (D.row.coded.code h')) ∷ ‵ (fbor κ (Body (mem D.row) b o γ)) ∷ ‵ (flft κ q) ∷ Γ) G
      (‵ (cell_at full_share D.row.mir (D.val h' ∷ []) b o) ∷ ‵ (fobor κ q (Body (mem D.row) b o γ)) ∷ ‵ (fobs γ u) ∷ ‵
      (fauth γ v) ∷ Γ) G
  closed t z D h' is b o = step (λ s. owned_of t D h' is $ move t (1 ∷ 0 ∷ []) $ closes t z D.row h' (D.val h' ∷ []) b o $ s)

  -- ---- a local's cell, lent as a `&mut D`
  pub lent : K → Soaks G → (D : Data) (h : D.row.Denot) → Good D h → (l : ℕ)
      → ((ν : ℕ) (γ : GName)
      → Seq K 𝓛 (‵ (flft (ν ∷ []) full_share) ∷ ‵
      ((MutRef (named 0) (ν ∷ []) D.row).own_val (record { ref_ptr = (l, 0); ghost_name = γ; now = h }) (vptr l 0 ∷ [])) ∷ ‵
      (flent (ν ∷ []) (Body (mem D.row) l 0 γ)) ∷ Γ) G)
      → Seq K 𝓛 (‵ (cell_at full_share D.row.mir (D.val h ∷ []) l 0) ∷ Γ) G
  unfolding part_of
  lent t z D h is l k =
      owned_of t D h is $ move t (1 ∷ 0 ∷ []) $ fjoin t $ fpack t (List Val)
      (λ us. fsep (cell_at full_share D.row.mir us l 0) (D.row.own_val h us)) (D.val h ∷ []) $ lft_new t z (λ ν. move t (1 ∷ []) $
      use1 𝓛 (later (some (λ (γ : GName).
      ‵ ((MutRef (named 0) (ν ∷ []) D.row).own_val (record { ref_ptr = (l, 0); ghost_name = γ; now = h }) (vptr l 0 ∷ [])) ⊛ ‵
      (flent (ν ∷ []) (Body (mem D.row) l 0 γ))))) (lends_ref 𝓛 D.row (named 0) (ν ∷ []) h l 0) $
      await t z $ pick t (λ γ. split t $ move t (2 ∷ 0 ∷ []) $ k ν γ))

  pub back : K → Soaks G → (D : Data) (h : D.row.Denot) {ν : ℕ} {γ : GName} (l : ℕ)
      → (Good D h → Seq K 𝓛 (‵ (cell_at full_share D.row.mir (D.val h ∷ []) l 0) ∷ Γ) G)
      → Seq K 𝓛 (‵ (flft (ν ∷ []) full_share) ∷ ‵ (flent (ν ∷ []) (Body (mem D.row) l 0 γ)) ∷ ‵ (fres γ (D.row.coded.code h)) ∷ Γ) G
  unfolding part_of
  back t z D h {ν} {γ} l k = lft_end t z $ use3 𝓛 (later (‵ (part_at D.row full_share h l 0)))
      (ref_back 𝓛 D.row (ν ∷ []) γ h l 0) $ await t z $ fpick t (λ vs. fsplit t $ written t D full_share h vs l 0 k)

-- ---- a call
module _ {M : Type 1} {𝓤 : Ura M} (𝓛 : Logic 𝓤) (T : Ended) (c : Clauses 𝓤 T) where
  -- the contract, as a triple
  abbrev pub Called : Contract 𝓤
  Called = triple_of 𝓛 T.signature (closing 𝓛 T c)

  module _ (y : Called.Ghost) where
    -- the result's type, the tokens that come back, and what is said of a result
    abbrev pub Result : RattleType
    Result = type_at T.signature.result y.0.0

    abbrev pub Tokens : SProp 𝓤
    Tokens = alive 𝓛 T.signature y.0.0 y.0.1

    abbrev pub Ensured : Result.Denot → SProp 𝓤
    Ensured r = ensured 𝓛 T c y.0.0 y.0.3 y.1 r

    -- each way to read the parameters at exit says φ
    abbrev pub Says : (Result.Denot → Type 0) → Type 1
    Says φ = (r : Result.Denot) (e : AtExit T y.0.0) → ent 𝓤 ((c y.0.0 y.0.3).ensures y.1 r e) (fact 𝓤 (φ r))

    pub said : (φ : Result.Denot → Type 0) → Says φ → (r : Result.Denot) → ent 𝓤 (Ensured r) (fact 𝓤 (φ r))
    said φ says r =
        ex_e 𝓤 _ (λ ws. via 𝓤 _ (snd∗ 𝓤 (sem 𝓛 (lasts T y.0.0 y.0.3 ws)) _) (says r (at_exit T y.0.0 y.0.3 ws)))

module _ {M : Type 1} {𝓤 : Ura M} {𝓛 : Logic 𝓤} {K : Type 0} {Γ : List (Item 𝓤)} {E : Env 𝓤 𝓛.H}
    {C : Calls 𝓤 𝓛.H} {Λ : Loops 𝓤 𝓛.H} {p : Post 𝓤 𝓛.H} where
  open 𝓛 use {H}

  pub calls_plain : K → FmC 𝓤 H 𝓛.laws C → (T : Ended) (c : Clauses 𝓤 T) {f : Callee} → Triple 𝓤 (C f) (Called 𝓛 T c)
      → (y : (Called 𝓛 T c).Ghost)
      → {xs : List Operand} → Opds K 𝓛 (raw ((Called 𝓛 T c).pre y) ∷ Γ) E xs ((Called 𝓛 T c).args y)
      → (val : (Result 𝓛 T c y).Denot → Val) → Tells (Result 𝓛 T c y) (Is (Result 𝓛 T c y)) (λ r. val r ∷ [])
      → (φ : (Result 𝓛 T c y).Denot → Type 0) → Says 𝓛 T c y φ → {d : Place} {rest : Code}
      → ((r : (Result 𝓛 T c y).Denot) → φ r → Is (Result 𝓛 T c y) r (val r ∷ [])
      → Seq K 𝓛 (raw (Tokens 𝓛 T c y) ∷ Γ) (lands C Λ E d (val r) rest p))
      → Seq K 𝓛 (raw ((Called 𝓛 T c).pre y) ∷ Γ) (runs C Λ E (seq (call f xs d) rest) p)
  calls_plain t fm T c known y os val tells φ says {d} {rest} k = calls_at t fm (Called 𝓛 T c) known y os (λ v.
      use1 𝓛 (later (some (λ (r : (Result 𝓛 T c y).Denot). (raw (Tokens 𝓛 T c y) ⊛ ‵ ((Result 𝓛 T c y).own_val r (v ∷ []))) ⊛ raw
      (Ensured 𝓛 T c y r)))) (id⊢ 𝓤 _) $ await t tt $ pick t (λ r.
      split t $ move t (1 ∷ []) $ use1 𝓛 (raw (fact 𝓤 (φ r))) (said 𝓛 T c y φ says r) $ heard t (φ r) (λ e. split t $ move t (1 ∷ []) $
      peeks t (Result 𝓛 T c y) (Is (Result 𝓛 T c y)) (shows 𝓛 (Result 𝓛 T c y)) r (v ∷ []) (λ is. drop t $
      subst (λ (u : Val). Seq K 𝓛 (raw (Tokens 𝓛 T c y) ∷ Γ) (lands C Λ E d u rest p)) (sym (ap only (tells r (v ∷ []) is)))
      (k r e (subst (Is (Result 𝓛 T c y) r) (tells r (v ∷ []) is) is))))))
