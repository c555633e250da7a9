-- The types that the walk of a thin function computes with, written out.
--
--   Lone, row_of         == a type of plain data with one machine value, its row taken apart, and the row
--   apart               == the parts of a row
--   still L             == L as the type of a parameter that is passed by value: it is at exit what it was
--   Known L val         == what a walk asks of L, whose machine value is val: see `Data`
--   Piece, Passed       == such a type; and one that is passed by value
use mathlib.Core.List.{List, [], ◌∷◌}
use mir.Syntax.{Ty, Width, Written}
use mir.Val.{Val, vint, of_z}
use seplogic.Ra.Ura.{Ura}
use base.Stored.{Coded}
use base.Fml.{Lft, Fml}
use types.Logic.{Logic}
use denote.RattleType.{RattleType}
use denote.Laws.{Is, Tells, Makes, Lawful, Copy}
use denote.Opens.{Opens}
use denote.Copied.{uint_Copied, sint_Copied}
use denote.Memory.{lone}
use denote.Plain.{UInt, uint_Tells, uint_Makes, uint_Lawful, uint_copy}
use denote.Signed.{SInt, sint_Tells, sint_Makes, sint_Lawful, sint_copy}
use denote.Struct.Struct.{Plains}
use denote.Enum.Enum.{Few, Plainss}
use denote.Exit.{Kept, Exit, unchanged}
use denote.Struct.Declared as SD
use denote.Struct.Laws as SL
use denote.Enum.Declared as ED
use denote.Enum.Laws as EL
use Prim.Native.Nat.{ℕ}
use Rattle.lent_walks.proofs.Thin.{Data}

pub record Lone : Type 2 where
  pub Denot : Type 0
  pub ty : Ty
  pub written : Written
  pub reaches : List (Written × List Ty)
  pub lives : Lft
  pub own_val : Denot → List Val → Fml
  pub exit : Kept → Exit Denot
  pub coded : Coded Denot
  pub shr_at : Denot → ℕ → ℕ → Lft → Fml

abbrev pub row_of : Lone → RattleType
row_of L = record {
  Denot = L.Denot;
  mir = L.ty ∷ [];
  written = L.written;
  reaches = L.reaches;
  lives = L.lives;
  own_val = L.own_val;
  exit = L.exit;
  coded = L.coded;
  shr_at = L.shr_at;
}

abbrev pub apart : RattleType → Lone
apart R = record {
  Denot = R.Denot;
  ty = lone R.mir;
  written = R.written;
  reaches = R.reaches;
  lives = R.lives;
  own_val = R.own_val;
  exit = R.exit;
  coded = R.coded;
  shr_at = R.shr_at;
}

abbrev pub still : Lone → Lone
still L = record {
  Denot = L.Denot;
  ty = L.ty;
  written = L.written;
  reaches = L.reaches;
  lives = L.lives;
  own_val = L.own_val;
  exit = λ _. unchanged;
  coded = L.coded;
  shr_at = L.shr_at;
}

pub record Known (L : Lone) (val : L.Denot → Val) : Type 2 where
  pub tells : Tells (row_of L) (Is (row_of L)) (λ x. val x ∷ [])
  pub lawful : {M : Type 1} {𝓤 : Ura M} (𝓛 : Logic 𝓤) → Lawful 𝓛 (row_of L)
  pub makes : {M : Type 1} {𝓤 : Ura M} (𝓛 : Logic 𝓤) → Makes 𝓛 (row_of L) (Is (row_of L))
  pub copy : {M : Type 1} {𝓤 : Ura M} (𝓛 : Logic 𝓤) → Copy 𝓛 (row_of L)
  pub opens : {M : Type 1} {𝓤 : Ura M} (𝓛 : Logic 𝓤) → Opens 𝓛 (row_of L)

abbrev pub data_of : (L : Lone) (val : L.Denot → Val) → Known L val → Data
data_of L val k = record { row = row_of L; val = val; tells = k.tells; lawful = k.lawful; makes = k.makes; copy = k.copy; opens = k.opens }

pub record Piece : Type 2 where
  pub lone : Lone
  pub val : lone.Denot → Val
  pub known : Known lone val

pub record Passed : Type 2 where
  pub lone : Lone
  pub val : lone.Denot → Val
  pub known : Known (still lone) val

abbrev pub piece_of : Piece → Data
piece_of p = data_of p.lone p.val p.known

abbrev pub passed_of : Passed → Data
passed_of p = data_of (still p.lone) p.val p.known

-- ---- the declared structs and enums, and the integers

abbrev pub struct_piece : (T : SD.Declared) → SL.Laws T → Plains (SD.fields T) → SL.Copyables T.parts → Piece
struct_piece T L pl cp = record {
  lone = apart (SD.row T);
  val = SL.val T L;
  known = record {
    tells = SL.tells T L;
    lawful = λ 𝓛. SL.lawful T L 𝓛;
    makes = λ 𝓛. SL.makes T pl 𝓛;
    copy = λ 𝓛. SL.copy T cp 𝓛;
    opens = λ 𝓛. (SL.copied T cp 𝓛).opens;
  };
}

abbrev pub enum_piece : (T : ED.Declared) → EL.Laws T → Few (ED.shape T) → Plainss (ED.variants T) → EL.Copyabless T.parts → Piece
enum_piece T L few pl cp = record {
  lone = apart (ED.row T);
  val = EL.val T L;
  known = record {
    tells = EL.tells T L;
    lawful = λ 𝓛. EL.lawful T L 𝓛 few;
    makes = λ 𝓛. EL.makes T pl 𝓛;
    copy = λ 𝓛. EL.copy T cp 𝓛;
    opens = λ 𝓛. (EL.copied T cp 𝓛).opens;
  };
}

abbrev pub unsigned_passed : Width → Passed
unsigned_passed w = record {
  lone = apart (UInt w);
  val = vint w;
  known = record {
    tells = uint_Tells w;
    lawful = λ 𝓛. uint_Lawful 𝓛 w;
    makes = λ 𝓛. uint_Makes 𝓛 w;
    copy = λ 𝓛. uint_copy 𝓛 w;
    opens = λ 𝓛. (uint_Copied 𝓛 w).opens;
  };
}

abbrev pub signed_passed : Width → Passed
signed_passed w = record {
  lone = apart (SInt w);
  val = λ z. vint w (of_z w z);
  known = record {
    tells = sint_Tells w;
    lawful = λ 𝓛. sint_Lawful 𝓛 w;
    makes = λ 𝓛. sint_Makes 𝓛 w;
    copy = λ 𝓛. sint_copy 𝓛 w;
    opens = λ 𝓛. (sint_Copied 𝓛 w).opens;
  };
}
