-- The walk of a function that passes a lent record on, once for every such function. Assumes `Logic`.
--
--   passes_on == `fn(x: &mut D, z: E) -> R { let y = f(x, z); g(y) }` promises ψ of *x before and after, z and the result, where f
--                promises φ of *x before and after, z and its result, g promises χ of its parameter and its result, and ψ follows
--                from the two
use mathlib.Core.Path.{refl, ap, subst}
use mathlib.Core.List.{List, [], ◌∷◌}
use Prim.Native.Nat.{ℕ}
use mir.Syntax.{Fn, Callee, named, erased, mut, ty_ref, local, value_local, place, deref, copy, addr_of, seq, assign, call, return}
use mir.Val.{Val, vptr}
use seplogic.Ra.Ura.{Ura}
use base.Fraction.{full_share}
use base.Logic.{SProp, ent, sep, emp, via, fst∗, comm∗, id⊢}
use base.Fml.{Lft, GName, Share, Fml, ftrue, fsep, fat, flft, fres, fbor}
use prog.Wp.{Calls, Loops, WpFn, Tables}
use types.Logic.{Logic, sem}
use types.SemTy.{Body}
use contract.Monad.{fact, fact_i}
use types.Kit.{‵, raw, ◌⊛◌, ⋆, some, later, ◌$◌, ◌∵◌, !, qed, by, move, keep, drop, use0, use1, use2, split, join, pick, rewrite}
use types.Kit.{fsplit, fjoin, suffices, frame, await, done}
use types.Run.{look, init, forget, stop, hop, from, load, addr, and_then, no_more, assigns, land, returns, enter, alloc1, alloc0, params1}
use types.Run.{pass1, pass0, free1, free0}
use sound.WpLaws.{FmC, fm_of, WpFn-mono}
use denote.RattleType.{owns}
use denote.Laws.{Is, shows}
use denote.Memory.{mem, pointee}
use denote.Ref.{MutBor, MutRef, mut_vals, mut_Tells}
use denote.Signature.{Signature, plain, mut_ref_to}
use denote.Steps.{only, peeks, heard, nothing}
use denote.Triple.Call.{calls_at}
use denote.Triple.Clauses.{Ended, Clauses, at_exit, closing, ensured, lasts}
use denote.Triple.Statement.{Contract, Triple}
use denote.Triple.Entry.{on_entry}
use denote.Triple.Spec.{Meets, triple_of}
use denote.Triple.Walked.{Stays, on_exit, stay_none, gave_ref, walk_of, Goes-none, Goes-gave_ref, ends_at, walked, walk_Meets}
use denote.Exit.{yes}
use Rattle.lent_walks.proofs.Thin.{Data, Good, owned_of, calls_plain}
use Rattle.lent_walks.proofs.Pieces.{Piece, Passed, piece_of, passed_of}

module _ (d : Piece) (e : Passed) (s r : Piece) (f g : Callee)
    (φ : d.lone.Denot → e.lone.Denot → d.lone.Denot → s.lone.Denot → Type 0) (χ : s.lone.Denot → r.lone.Denot → Type 0)
    (ψ : d.lone.Denot → e.lone.Denot → d.lone.Denot → r.lone.Denot → Type 0)
    (follows : (h : d.lone.Denot) (z : e.lone.Denot) (h' : d.lone.Denot) (y : s.lone.Denot) (v : r.lone.Denot) → φ h z h' y → χ
    y v
    → ψ h z h' v) where
  abbrev D : Data
  D = piece_of d

  abbrev E : Data
  E = passed_of e

  abbrev S : Data
  S = piece_of s

  abbrev R : Data
  R = piece_of r

  -- its MIR, its signature and what it promises
  abbrev pub passing : Fn
  passing = record {
    lifetimes = 1;
    outlives = [];
    ty_params = [];
    givens = 0;
    params = 2;
    locals = local r.lone.ty value_local ∷ local (ty_ref (named 0) mut (pointee d.lone.written)) value_local ∷ local e.lone.ty
        value_local ∷ local s.lone.ty value_local ∷ local (ty_ref erased mut (pointee d.lone.written)) value_local ∷ [];
    body = seq (assign (place 4 []) (addr_of (place 1 (deref d.lone.ty ∷ []))))
        (seq (call f (copy (place 4 []) ∷ copy (place 2 []) ∷ []) (place 3 []))
        (seq (call g (copy (place 3 []) ∷ []) (place 0 [])) return));
  }

  abbrev lent_sig : Data → Signature
  lent_sig O = record {
    lifetimes = 1;
    outlives = [];
    params = mut_ref_to (0 ∷ []) tt (plain (λ _. D.row)) ∷ plain (λ _. E.row) ∷ [];
    result = plain (λ _. O.row);
  }

  abbrev ended : Ended
  ended = record { signature = lent_sig R; kept = (yes, (yes, tt)) }

  abbrev clauses : {M : Type 1} (𝓤 : Ura M) → Clauses 𝓤 ended
  clauses 𝓤 κs a = record {
    ghost = Unit {0};
    requires = λ g. emp 𝓤;
    ensures = λ g y ends. fact 𝓤 (ψ a.0.now a.1.0 ends.0.now y);
  }

  -- those of f
  abbrev ended-f : Ended
  ended-f = record { signature = lent_sig S; kept = (yes, (yes, tt)) }

  abbrev clauses_f : {M : Type 1} (𝓤 : Ura M) → Clauses 𝓤 ended-f
  clauses_f 𝓤 κs a = record {
    ghost = Unit {0};
    requires = λ g. emp 𝓤;
    ensures = λ g y ends. fact 𝓤 (φ a.0.now a.1.0 ends.0.now y);
  }

  -- those of g
  abbrev sig_g : Signature
  sig_g = record { lifetimes = 0; outlives = []; params = plain (λ _. S.row) ∷ []; result = plain (λ _. R.row) }

  abbrev ended-g : Ended
  ended-g = record { signature = sig_g; kept = (yes, tt) }

  abbrev clauses_g : {M : Type 1} (𝓤 : Ura M) → Clauses 𝓤 ended-g
  clauses_g 𝓤 κs a = record { ghost = Unit {0}; requires = λ g. emp 𝓤; ensures = λ g v ends. fact 𝓤 (χ a.0 v) }

  abbrev stayed : Stays ended.signature.params ended.kept
  stayed = (gave_ref (0 ∷ []) tt (plain (λ _. D.row)), (stay_none (λ _. E.row) yes, tt))

  abbrev Take : {M : Type 1} {𝓤 : Ura M} (𝓛 : Logic 𝓤) → Contract 𝓤
  Take {𝓤 = 𝓤} 𝓛 = triple_of 𝓛 (lent_sig S) (closing 𝓛 ended-f (clauses_f 𝓤))

  abbrev Show : {M : Type 1} {𝓤 : Ura M} (𝓛 : Logic 𝓤) → Contract 𝓤
  Show {𝓤 = 𝓤} 𝓛 = triple_of 𝓛 sig_g (closing 𝓛 ended-g (clauses_g 𝓤))

  module _ {M : Type 1} {𝓤 : Ura M} (𝓛 : Logic 𝓤) (κ : Lft) (q : Share) (b o : ℕ) (γ : GName)
      (h : d.lone.Denot) (z : e.lone.Denot) (z-is : Good E z) where
    -- the parameters' values, and their machine values
    open 𝓛 use {H, A}

    abbrev x : MutBor d.lone.Denot × (e.lone.Denot × Unit {0})
    x = (record { ref_ptr = (b, o); ghost_name = γ; now = h }, (z, tt))

    abbrev at : List Val × (List Val × Unit {0})
    at = (vptr b o ∷ [], (e.val z ∷ [], tt))

    abbrev Post : Val → SProp 𝓤
    Post = (walk_of 𝓛 ended stayed (clauses 𝓤)).post (((κ, tt), (q, tt), tt, x, at), tt)

    -- what each call passes, and that it may
    abbrev to : (Take 𝓛).Ghost
    to = (((κ, tt), (q, tt), tt, x, at), tt)

    asked : ent 𝓤 (sep 𝓤 (A.lft κ q) (sem 𝓛 ((MutRef (named 0) κ D.row).own_val x.0 (vptr b o ∷ [])))) ((Take 𝓛).pre to)
    asked =
        qed 𝓛 (‵ (flft κ q) ∷ ‵ ((MutRef (named 0) κ D.row).own_val x.0 (vptr b o ∷ [])) ∷ []) ∵ nothing ! $ move ! (1 ∷ 0 ∷ []) $ join ! $
        move ! (1 ∷ []) $ nothing ! $ owned_of ! E z z-is $ fjoin ! $ move ! (1 ∷ 0 ∷ []) $ fjoin ! $ move ! (1 ∷ 0 ∷ []) $ join ! $
        frame ! $
        done !

    abbrev to_g : s.lone.Denot → (Show 𝓛).Ghost
    to_g y = ((tt, tt, tt, (y, tt), (s.val y ∷ [], tt)), tt)

    asked-g : (y : s.lone.Denot) → Good S y → ent 𝓤 (emp 𝓤) ((Show 𝓛).pre (to_g y))
    asked-g y y_is = qed 𝓛 [] ∵ nothing ! $ nothing ! $ owned_of ! S y y_is $ fjoin ! $ nothing ! $ join ! $ frame ! $ done !

    -- what is had of x once it has been passed on: what says its last value, and its borrow, closed
    abbrev Left : d.lone.Denot → Fml
    Left h' = fsep (fres γ (D.row.coded.code h')) (fbor κ (Body (mem D.row) b o γ))

    -- what is promised where x is left at h' and the result is v, and that it follows from what f and g promise
    abbrev Promised : d.lone.Denot → r.lone.Denot → SProp 𝓤
    Promised h' v = (clauses 𝓤 (κ, tt) x).ensures tt v (at_exit ended (κ, tt) x (h', (tt, tt)))

    abbrev Keeps : Type 1
    Keeps = (h' : d.lone.Denot) (y : s.lone.Denot) (v : r.lone.Denot) → φ h z h' y → χ y v → ent 𝓤 (emp 𝓤) (Promised h' v)

    exits : Keeps → (h' : d.lone.Denot) (y : s.lone.Denot) (v : r.lone.Denot) → φ h z h' y → χ y v → Good R v
        → ent 𝓤 (⋆ 𝓛 (‵ (flft κ q) ∷ ‵ (Left h') ∷ [])) (Post (r.val v))
    exits told h' y v i c v_is =
        qed 𝓛 (‵ (flft κ q) ∷ ‵ (Left h') ∷ []) ∵
        suffices ! _ (ends_at 𝓛 ended stayed (clauses 𝓤) (((κ, tt), (q, tt), tt, x, at), tt) (r.val v) v (h', (tt, tt))
        (tt, (tt, tt))) $
        suffices ! _ (comm∗ 𝓤 (Promised h' v) (on_exit 𝓛 ended stayed (κ, tt) (q, tt) at (r.val v) v x (h', (tt, tt)))) $
        use0 𝓛 (raw (Promised h' v)) (told h' y v i c) $ frame ! $ nothing ! $ move ! (1 ∷ 0 ∷ []) $ join ! $ frame ! $ nothing ! $
        owned_of ! E z z-is $ fjoin ! $ move ! (1 ∷ 0 ∷ []) $ fjoin ! $ owned_of ! R v v_is $ move ! (1 ∷ 0 ∷ []) $ done !

    module _ (C : Calls 𝓤 H) (Λ : Loops 𝓤 H) (fm : FmC 𝓤 H 𝓛.laws C) (takes : Triple 𝓤 (C f) (Take 𝓛))
        (shown : Triple 𝓤 (C g) (Show 𝓛)) (told : Keeps) where
      walk : ent 𝓤 (on_entry 𝓛 (lent_sig R) (κ, tt) (q, tt) x at) (WpFn 𝓤 H C Λ passing (vptr b o ∷ e.val z ∷ []) Post)
      walk =
          qed 𝓛 ((‵ (flft κ q) ⊛ ‵ ftrue) ∷ ‵ (owns (MutRef (named 0) κ D.row ∷ E.row ∷ []) x at) ∷ []) ∵ split ! $ move ! (2 ∷ []) $
          fsplit ! $ keep ! (2 ∷ 0 ∷ []) $
          -- [the token; what the reference owns]
          enter ! C Λ passing (vptr b o ∷ e.val z ∷ []) _ $
          alloc1 ! (λ l₀. alloc1 ! (λ l₁. alloc1 ! (λ l₂. alloc1 ! (λ l₃. alloc1 !
          (λ l₄. alloc0 ! $ params1 ! $ pass1 ! (init ! 6 refl (tt, tt)) $ pass1 !
          (init ! 4 refl ((E.lawful 𝓛).typed z _ z-is).0) $ pass0 ! $
          -- _4 = &mut *x
          assigns ! (addr ! (from ! (hop ! (look ! 6 refl) (stop !)))) (from ! (stop !)) (init ! 0 refl (tt, tt)) $
          -- _3 = f(_4, _2)
          move ! (10 ∷ 11 ∷ []) $ use2 𝓛 (raw ((Take 𝓛).pre to)) asked $
          calls_at ! fm (Take 𝓛) takes to (and_then ! (load ! (from ! (stop !)) (look ! 1 refl))
          (and_then ! (load ! (from ! (stop !)) (look ! 5 refl)) (no_more !))) (λ w.
          use1 𝓛 (later (some (λ (y : s.lone.Denot). ((‵ (flft κ q) ⊛ ‵ ftrue) ⊛ ‵ (S.row.own_val y (w ∷ []))) ⊛ raw
          (ensured 𝓛 ended-f (clauses_f 𝓤) (κ, tt) x tt y)))) (id⊢ 𝓤 _) $ await ! tt $ pick ! (λ y.
          split ! $ move ! (1 ∷ []) $ use1 𝓛 (some (λ (ws : d.lone.Denot × (Unit {0} × Unit {0})).
          ‵ (lasts ended-f (κ, tt) x ws) ⊛ raw (fact 𝓤 (φ h z ws.0 y)))) (id⊢ 𝓤 _) $ pick ! (λ ws.
          split ! $ move ! (1 ∷ []) $ heard ! (φ h z ws.0 y) (λ i. fsplit ! $ move ! (1 ∷ []) $ drop ! $ move ! (1 ∷ []) $ split ! $
          split ! $
          -- [the token; true; the result; what says the last value; _4; …; _3; …; _2; …; _1; …; room for _0; …]
          move ! (2 ∷ []) $ peeks ! S.row (Is S.row) (shows 𝓛 S.row) y (w ∷ []) (λ is. drop ! $
          land ! (from ! (stop !)) (init ! 5 refl ((S.lawful 𝓛).typed y _ is).0) $ rewrite ! 5
          (λ (u : Val). ‵ (fat full_share s.lone.ty l₃ 0 u)) (ap only (S.tells y _ is)) refl $
          -- _0 = g(_3)
          use0 𝓛 (raw ((Show 𝓛).pre (to_g y))) (asked-g y (spelled y w is)) $
          calls_plain ! fm ended-g (clauses_g 𝓤) shown (to_g y) (and_then ! (load ! (from ! (stop !)) (look ! 6 refl)) (no_more !)) r.val
          R.tells (χ y) (λ v _. id⊢ 𝓤 _) (λ v c v_is. drop ! $
          land ! (from ! (stop !)) (init ! 11 refl ((R.lawful 𝓛).typed v _ v_is).0) $
          returns ! (look ! 11 refl) $ forget ! 3 refl $ forget ! 5 refl $ forget ! 7 refl $ forget ! 9 refl $ forget ! 11 refl $
          move ! (11 ∷ 12 ∷ []) $ free1 ! $ move ! (9 ∷ 10 ∷ []) $ free1 ! $ move ! (7 ∷ 8 ∷ []) $ free1 ! $ move ! (5 ∷ 6 ∷ []) $ free1 ! $
          move ! (3 ∷ 4 ∷ []) $ free1 ! $ free0 ! $ keep ! (0 ∷ 2 ∷ []) $ by ! (exits told ws.0 y v i c v_is))))))))))))
        where
          spelled : (y : s.lone.Denot) (w : Val) → Is S.row y (w ∷ []) → Good S y
          spelled y w is = subst (Is S.row y) (S.tells y _ is) is

  module _ {M : Type 1} {𝓤 : Ura M} (𝓛 : Logic 𝓤) (𝓣 : Tables 𝓤 𝓛.H) where
    open 𝓛 use {H}

    pub passes_on : Triple 𝓤 (𝓣.C f) (Take 𝓛) → Triple 𝓤 (𝓣.C g) (Show 𝓛)
        → Meets 𝓛 (lent_sig R) (WpFn 𝓤 H 𝓣.C 𝓣.Λ passing) (closing 𝓛 ended (clauses 𝓤))
    passes_on takes shown =
        walk_Meets 𝓛 ended stayed (
          Goes-gave_ref 𝓛 1 0 tt (plain (λ _. D.row)),
          (Goes-none 𝓛 1 (λ _. E.row) yes (λ κs x l. refl), tt),
        ) (clauses 𝓤) (WpFn 𝓤 H 𝓣.C 𝓣.Λ passing)
        (WpFn-mono 𝓤 H 𝓛.laws 𝓣 passing)
        (walked 𝓛 ended stayed (clauses 𝓤) (WpFn 𝓤 H 𝓣.C 𝓣.Λ passing) (λ κs. (mut_vals, ((λ z. e.val z ∷ []), tt)))
        (λ κs. (mut_Tells (named 0) κs.0 D.row, (E.tells, tt)))
        (λ κs qs bounds a _ are. via 𝓤 _ (fst∗ 𝓤 _ (emp 𝓤)) (walk 𝓛 κs.0 qs.0 a.0.ref_ptr.0 a.0.ref_ptr.1 a.0.ghost_name
        a.0.now a.1.0 are.1.0 𝓣.C 𝓣.Λ (fm_of 𝓤 H 𝓛.laws 𝓣) takes shown
        (λ h' y v i c. fact_i 𝓤 _ (emp 𝓤) (follows a.0.now a.1.0 h' y v i c)))))
