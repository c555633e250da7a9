-- The cell of a run record, its fields apart and put together again. Assumes `Logic`.
--
--   cells_of == the fields' cells, the last one first, and what makes the record's cell of them, for any values
--   apart    == the record's cell is its fields' cells
--   whole    == and back, at the values that the fields then have
use mathlib.Core.List.{List, [], ◌∷◌, map}
use Prim.Native.Nat.{ℕ, zero, ◌+◌}
use seplogic.Ra.Ura.{Ura}
use base.Fraction.{full_share}
use lib.IntN.{ℤ}
use mir.Syntax.{Ty, Tys, w8, w16, w64, ty_int, ty_array, ty_struct, tcons, tnil}
use mir.Val.{Val, Vals, vint, vstruct, vcons, vnil, of_z}
use base.Logic.{SProp, ent, sep, wand, all, via, mono_r, all_e, apply∗}
use base.Fml.{Fml, ftrue, fat}
use prog.Model.{fields_at}
use prog.Wp.{Heap}
use types.Logic.{Logic, sem}
use types.Kit.{Goal, Item, ‵, raw, ◌⊛◌, mean, Seq, ◌$◌, cut, use1, split, join, move, drop}
use denote.Array.{array_val}
use denote.Memory.{cell_at}
use denote.Steps.{nothing}
use denote.Struct.Laws as SL
use Rattle.run_record.specs.Record.{run_of}
use Rattle.run_record.specs.declared.Head.{Head}
use Rattle.run_record.specs.declared.Run.{Run}
use Rattle.run_record.specs.declared.Turn.{Turn}
use Rattle.lent_walks.proofs.Thin.{Data, Good, struct, enum, signed, unsigned}
use Rattle.lent_walks.proofs.Arrays.{array_of}
use Rattle.run_record.specs.contracts.Run as R
use Rattle.run_record.proofs.Run.TheLaws as R'
use Rattle.run_record.specs.contracts.Head as N
use Rattle.run_record.proofs.Head.TheLaws as N'
use Rattle.run_record.specs.contracts.Step as S
use Rattle.run_record.proofs.Step.TheLaws as S'
use Rattle.run_record.specs.contracts.Turn as T
use Rattle.run_record.proofs.Turn.TheLaws as T'

abbrev pub RunD : Data
RunD = struct R.the_type R'.the_laws R'.the_plain R'.the_copy

-- the types and the machine values of the fields
abbrev short : Ty
short = ty_array (ty_int w16) 64

abbrev field_types : Tys
field_types =
    tcons (ty_int w64) (tcons (ty_int w64) (tcons (ty_int w8) (tcons (ty_int w64) (tcons (ty_int w64) (tcons (ty_int w64) (tcons short
    (tcons short (tcons short (tcons (ty_int w64) (tcons (ty_array (ty_int w8) 128) tnil))))))))))

abbrev shorts : List ℕ → Val
shorts xs = array_val (map (vint w16) xs)

abbrev bytes : List ℤ → Val
bytes zs = array_val (map (λ z. vint w8 (of_z w8 z)) zs)

abbrev values : Run → Vals
values h =
    vcons (vint w64 h.polynomials) (vcons (vint w64 h.asked) (vcons (vint w8 h.phase) (vcons (vint w64 h.round) (vcons
    (vint w64 h.n) (vcons (vint w64 h.rows) (vcons (shorts h.patterns) (vcons (shorts h.counts)
    (vcons (shorts h.products) (vcons (vint w64 h.answered) (vcons (bytes h.answers) vnil))))))))))

module _ {M : Type 1} (𝓤 : Ura M) (H : Heap 𝓤) (b o : ℕ) where
  abbrev Joins : Vals → SProp 𝓤
  Joins us =
      wand 𝓤 (fields_at 𝓤 H full_share field_types zero b o us) (H.at full_share (ty_struct (R.the_type).name field_types) b o (vstruct us))

  abbrev pub Together : SProp 𝓤
  Together = all 𝓤 Joins

  abbrev field : Ty → ℕ → Val → Item 𝓤
  field τ d v = ‵ (fat full_share τ b (o + d) v)

  abbrev pub cells_of : Run → List (Item 𝓤) → List (Item 𝓤)
  cells_of h Γ =
      field (ty_array (ty_int w8) 128) 440 (bytes h.answers) ∷ field (ty_int w64) 432 (vint w64 h.answered) ∷ field short 304
      (shorts h.products) ∷ field short 176 (shorts h.counts) ∷ field short 48 (shorts h.patterns) ∷ field (ty_int w64) 40
      (vint w64 h.rows) ∷ field (ty_int w64) 32 (vint w64 h.n) ∷ field (ty_int w64) 24 (vint w64 h.round) ∷ field (ty_int w8) 16
      (vint w8 h.phase) ∷ field (ty_int w64) 8 (vint w64 h.asked) ∷ field (ty_int w64) 0 (vint w64 h.polynomials) ∷ raw Together ∷ Γ

  -- the same as one item
  abbrev bundle : Run → Item 𝓤
  bundle h =
      field (ty_int w64) 0 (vint w64 h.polynomials) ⊛ (field (ty_int w64) 8 (vint w64 h.asked) ⊛ (field (ty_int w8) 16
      (vint w8 h.phase) ⊛ (field (ty_int w64) 24 (vint w64 h.round) ⊛ (field (ty_int w64) 32 (vint w64 h.n) ⊛ (field (ty_int w64) 40
      (vint w64 h.rows) ⊛ (field short 48 (shorts h.patterns) ⊛ (field short 176 (shorts h.counts) ⊛ (field short 304
      (shorts h.products) ⊛ (field (ty_int w64) 432 (vint w64 h.answered) ⊛ (field (ty_array (ty_int w8) 128) 440
      (bytes h.answers) ⊛ ‵ ftrue))))))))))

-- the record's cell
abbrev pub Cell : ℕ → ℕ → Run → Fml
Cell b o h = cell_at full_share RunD.row.mir (RunD.val h ∷ []) b o

module _ {M : Type 1} {𝓤 : Ura M} (𝓛 : Logic 𝓤) where
  open 𝓛 use {H}

  together : (h : Run) (b o : ℕ)
      → ent 𝓤 (sep 𝓤 (mean 𝓛 (bundle 𝓤 H b o h)) (Together 𝓤 H b o)) (sem 𝓛 (Cell b o h))
  together h b o =
      via 𝓤 (sep 𝓤 (fields_at 𝓤 H full_share field_types zero b o (values h)) (Joins 𝓤 H b o (values h)))
      (mono_r 𝓤 (fields_at 𝓤 H full_share field_types zero b o (values h)) (all_e 𝓤 (Joins 𝓤 H b o) (values h)))
      (via 𝓤 (H.at full_share R'.mir b o (RunD.val h))
      (apply∗ 𝓤 (fields_at 𝓤 H full_share field_types zero b o (values h)) (H.at full_share R'.mir b o (RunD.val h)))
      (𝓛.laws.at_raw full_share R'.mir b o (RunD.val h)))

module _ {M : Type 1} {𝓤 : Ura M} {𝓛 : Logic 𝓤} {K : Type 0} {Γ : List (Item 𝓤)} {G : Goal 𝓤 𝓛.H} where
  open 𝓛 use {H}

  pub apart : K → (h : Run) (b o : ℕ) → Seq K 𝓛 (cells_of 𝓤 H b o h Γ) G → Seq K 𝓛 (‵ (Cell b o h) ∷ Γ) G
  apart t h b o s =
      use1 𝓛 (‵ (fat full_share R'.mir b o (RunD.val h))) (𝓛.laws.raw_at full_share R'.mir b o (RunD.val h)) $
      use1 𝓛 (bundle 𝓤 H b o h ⊛ raw (Together 𝓤 H b o)) (𝓛.laws.at_fields full_share (R.the_type).name field_types b o (values h)) $
      split t $ split t $ move t (1 ∷ []) $ split t $ move t (1 ∷ []) $ split t $ move t (1 ∷ []) $ split t $ move t (1 ∷ []) $ split t $
      move t (1 ∷ []) $ split t $ move t (1 ∷ []) $ split t $ move t (1 ∷ []) $ split t $ move t (1 ∷ []) $ split t $ move t (1 ∷ []) $
      split t $ move t (1 ∷ []) $ split t $ move t (1 ∷ []) $ drop t $ s

  pub whole : K → (h : Run) (b o : ℕ) → Seq K 𝓛 (‵ (Cell b o h) ∷ Γ) G → Seq K 𝓛 (cells_of 𝓤 H b o h Γ) G
  whole t h b o s =
      nothing t $ move t (1 ∷ 0 ∷ []) $ join t $ move t (1 ∷ 0 ∷ []) $ join t $ move t (1 ∷ 0 ∷ []) $ join t $ move t (1 ∷ 0 ∷ []) $ join
      t $
      move t (1 ∷ 0 ∷ []) $ join t $ move t (1 ∷ 0 ∷ []) $ join t $ move t (1 ∷ 0 ∷ []) $ join t $ move t (1 ∷ 0 ∷ []) $ join t $ move t
      (1 ∷ 0 ∷ []) $ join t $ move t (1 ∷ 0 ∷ []) $ join t $ move t (1 ∷ 0 ∷ []) $ join t $
      cut (bundle 𝓤 H b o h ∷ raw (Together 𝓤 H b o) ∷ []) (‵ (Cell b o h) ∷ []) Γ (together 𝓛 h b o) $ s

-- ---- what owning a record tells of its fields, and the other way round

abbrev pub WordD : Data
WordD = unsigned w64

abbrev pub PhaseD : Data
PhaseD = unsigned w8

abbrev pub ShortD : Data
ShortD = unsigned w16

abbrev pub ByteD : Data
ByteD = signed w8

pub record Known (h : Run) : Type 0 where
  pub polynomials : Good WordD h.polynomials
  pub asked : Good WordD h.asked
  pub phase : Good PhaseD h.phase
  pub round : Good WordD h.round
  pub n : Good WordD h.n
  pub rows : Good WordD h.rows
  pub patterns : Good (array_of ShortD 64) h.patterns
  pub counts : Good (array_of ShortD 64) h.counts
  pub products : Good (array_of ShortD 64) h.products
  pub answered : Good WordD h.answered
  pub answers : Good (array_of ByteD 128) h.answers

pub known : (h : Run) → Good RunD h → Known h
known h is =
    let g = SL.owed R.the_type R'.the_laws h _ is in
    record {
      polynomials = g.0;
      asked = g.1.0;
      phase = g.1.1.0;
      round = g.1.1.1.0;
      n = g.1.1.1.1.0;
      rows = g.1.1.1.1.1.0;
      patterns = g.1.1.1.1.1.1.0;
      counts = g.1.1.1.1.1.1.1.0;
      products = g.1.1.1.1.1.1.1.1.0;
      answered = g.1.1.1.1.1.1.1.1.1.0;
      answers = g.1.1.1.1.1.1.1.1.1.1.0;
    }

pub good : (h : Run) → Known h → Good RunD h
good h k =
    SL.owes R.the_type R'.the_laws h (
      k.polynomials,
      (
        k.asked,
        (
          k.phase,
          (
            k.round,
            (
              k.n,
              (
                k.rows,
                (
                  k.patterns,
                  (
                    k.counts,
                    (
                      k.products,
                      (k.answered, (k.answers, tt)),
                    ),
                  ),
                ),
              ),
            ),
          ),
        ),
      ),
    )

-- ---- the numbers of a record, and those of a turn

abbrev pub HeadD : Data
HeadD = struct N.the_type N'.the_laws N'.the_plain N'.the_copy

abbrev pub StepD : Data
StepD = enum S.the_type S'.the_laws tt S'.the_plain S'.the_copy

abbrev pub TurnD : Data
TurnD = struct T.the_type T'.the_laws T'.the_plain T'.the_copy

abbrev pub head_of : Run → Head
head_of h =
    record {
      polynomials = h.polynomials;
      asked = h.asked;
      phase = h.phase;
      round = h.round;
      n = h.n;
      rows = h.rows;
      answered = h.answered;
    }

-- the numbers of a record, and what is known of those of a turn
pub head_is : (h : Run) → Known h → Good HeadD (head_of h)
head_is h g =
    SL.owes N.the_type N'.the_laws (head_of h)
    (g.polynomials, (g.asked, (g.phase, (g.round, (g.n, (g.rows, (g.answered, tt)))))))

turn_head : (t : Turn) → Good TurnD t → Good HeadD t.head
turn_head t is = (SL.owed T.the_type T'.the_laws t _ is).0

pub turn_step : (t : Turn) → Good TurnD t → Good StepD t.step
turn_step t is = (SL.owed T.the_type T'.the_laws t _ is).1.0

-- the record after the call
abbrev pub after : Turn → List ℕ → List ℕ → List ℕ → List ℤ → Run
after t P C Q A = run_of t.head P C Q A

pub after_known : (t : Turn) (P C Q : List ℕ) (A : List ℤ) → Good TurnD t → Good (array_of ShortD 64) P → Good (array_of ShortD 64) C
    → Good (array_of ShortD 64) Q → Good (array_of ByteD 128) A
    → Known (after t P C Q A)
after_known t P C Q A is p c q a =
    let g = SL.owed N.the_type N'.the_laws t.head _ (turn_head t is) in
    record {
      polynomials = g.0;
      asked = g.1.0;
      phase = g.1.1.0;
      round = g.1.1.1.0;
      n = g.1.1.1.1.0;
      rows = g.1.1.1.1.1.0;
      patterns = p;
      counts = c;
      products = q;
      answered = g.1.1.1.1.1.1.0;
      answers = a;
    }
