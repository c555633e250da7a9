-- The walk of a function that reads a lent record, once for every such function. Assumes `Logic`.
--
--   reads == `fn(x: &D, z: E) -> R { f(*x, z) }` promises of *x and z what f promises of its parameters
use mathlib.Core.Path.{refl}
use mathlib.Core.List.{[], ◌∷◌}
use Prim.Native.Nat.{ℕ}
use mir.Syntax.{Fn, Callee, named, imm, ty_ref, local, value_local, place, deref, copy, rv_opd, seq, assign, call, return}
use mir.Val.{Val, vptr}
use seplogic.Ra.Ura.{Ura}
use base.Logic.{SProp, ent, emp, via, fst∗, id⊢}
use base.Fml.{Lft, Share, Fml, ftrue, flft}
use prog.Wp.{Calls, Loops, WpFn, Tables}
use types.Logic.{Logic}
use contract.Monad.{fact}
use types.Kit.{‵, raw, ◌⊛◌, ⋆, ◌$◌, ◌∵◌, !, qed, by, move, keep, drop, use0, split, join, fsplit, fjoin, suffices}
use types.Kit.{frame, done}
use types.Run.{look, look_raw, init, forget, stop, hop, from, load, of_opd, and_then, no_more, assigns, land, returns, enter, alloc1}
use types.Run.{alloc0, params1, pass1, pass0, free1, free0}
use sound.WpLaws.{FmC, fm_of, WpFn-mono}
use denote.RattleType.{owns}
use denote.Memory.{pointee, shared_of}
use denote.Opens.{twice_dup}
use denote.Ref.{Bor, ShrRef, shr_vals, shr_Tells}
use denote.Signature.{Signature, plain, shr_ref_to}
use denote.Steps.{nothing}
use denote.Triple.Clauses.{Ended, Clauses, closing}
use denote.Triple.Statement.{Contract, Triple}
use denote.Triple.Entry.{Vals, on_entry}
use denote.Triple.Spec.{Meets, triple_of}
use denote.Triple.Walked.{says, Stays, stay_none, stay_none_ref, walk_of, Goes-none, Goes-none_ref, ends_at, walked, walk_Meets}
use denote.Exit.{yes}
use Rattle.lent_walks.proofs.Thin.{Data, Good, owned_of, looked, shut, calls_plain}
use Rattle.lent_walks.proofs.Pieces.{Piece, Passed, piece_of, passed_of}

module _ (d : Piece) (e : Passed) (r : Piece) (f : Callee) (φ : d.lone.Denot → e.lone.Denot → r.lone.Denot → Type 0) where
  abbrev D : Data
  D = piece_of d

  abbrev E : Data
  E = passed_of e

  abbrev R : Data
  R = piece_of r

  -- its MIR, its signature and what it promises
  abbrev pub reading : Fn
  reading = record {
    lifetimes = 1;
    outlives = [];
    ty_params = [];
    givens = 0;
    params = 2;
    locals = local r.lone.ty value_local ∷ local (ty_ref (named 0) imm (pointee d.lone.written)) value_local ∷ local e.lone.ty
        value_local ∷ local d.lone.ty value_local ∷ [];
    body = seq (assign (place 3 []) (rv_opd (copy (place 1 (deref d.lone.ty ∷ [])))))
        (seq (call f (copy (place 3 []) ∷ copy (place 2 []) ∷ []) (place 0 [])) return);
  }

  abbrev sig : Signature
  sig = record {
    lifetimes = 1;
    outlives = [];
    params = shr_ref_to (0 ∷ []) tt (plain (λ _. D.row)) ∷ plain (λ _. E.row) ∷ [];
    result =
        plain (λ _. R.row);
  }

  abbrev ended : Ended
  ended = record { signature = sig; kept = (yes, (yes, tt)) }

  abbrev clauses : {M : Type 1} (𝓤 : Ura M) → Clauses 𝓤 ended
  clauses 𝓤 κs a = record { ghost = Unit {0}; requires = λ g. emp 𝓤; ensures = λ g y ends. fact 𝓤 (φ a.0.now a.1.0 y) }

  -- those of f
  abbrev sig_f : Signature
  sig_f = record { lifetimes = 0; outlives = []; params = plain (λ _. D.row) ∷ plain (λ _. E.row) ∷ []; result = plain (λ _. R.row) }

  abbrev ended-f : Ended
  ended-f = record { signature = sig_f; kept = (yes, (yes, tt)) }

  abbrev clauses_f : {M : Type 1} (𝓤 : Ura M) → Clauses 𝓤 ended-f
  clauses_f 𝓤 κs a = record { ghost = Unit {0}; requires = λ g. emp 𝓤; ensures = λ g y ends. fact 𝓤 (φ a.0 a.1.0 y) }

  abbrev stayed : Stays ended.signature.params ended.kept
  stayed = (stay_none_ref (0 ∷ []) tt (plain (λ _. D.row)) yes, (stay_none (λ _. E.row) yes, tt))

  abbrev Take : {M : Type 1} {𝓤 : Ura M} (𝓛 : Logic 𝓤) → Contract 𝓤
  Take {𝓤 = 𝓤} 𝓛 = triple_of 𝓛 sig_f (closing 𝓛 ended-f (clauses_f 𝓤))

  module _ {M : Type 1} {𝓤 : Ura M} (𝓛 : Logic 𝓤) (κ : Lft) (q : Share) (x : Bor d.lone.Denot)
      (z : e.lone.Denot) (z-is : Good E z) where
    open 𝓛 use {H}

    abbrev h : d.lone.Denot
    h = x.now

    abbrev b : ℕ
    b = x.ref_ptr.0

    abbrev o : ℕ
    o = x.ref_ptr.1

    -- the parameters' machine values, and what the reference owns
    abbrev at : Vals sig (κ, tt)
    at = (vptr b o ∷ [], (e.val z ∷ [], tt))

    abbrev Ref : Fml
    Ref = (ShrRef (named 0) κ D.row).own_val x (vptr b o ∷ [])

    abbrev Post : Val → SProp 𝓤
    Post = (walk_of 𝓛 ended stayed (clauses 𝓤)).post (((κ, tt), (q, tt), tt, (x, (z, tt)), at), tt)

    exits : (y : r.lone.Denot) → φ h z y → Good R y → ent 𝓤 (⋆ 𝓛 (‵ (flft κ q) ∷ ‵ Ref ∷ [])) (Post (r.val y))
    exits y p y_is =
        qed 𝓛 (‵ (flft κ q) ∷ ‵ Ref ∷ []) ∵
        suffices ! _ (ends_at 𝓛 ended stayed (clauses 𝓤) (((κ, tt), (q, tt), tt, (x, (z, tt)), at), tt) (r.val y) y (tt, (tt, tt))
        (tt, (tt, tt))) $ says ! p $
        nothing ! $ move ! (1 ∷ 0 ∷ []) $ join ! $ frame ! $ nothing ! $ owned_of ! E z z-is $ fjoin ! $ move ! (1 ∷ 0 ∷ []) $ fjoin ! $
        frame ! $ owned_of ! R y y_is $ done !

    -- what the call passes, and that it may
    abbrev to : (Take 𝓛).Ghost
    to = ((tt, tt, tt, (h, (z, tt)), (d.val h ∷ [], (e.val z ∷ [], tt))), tt)

    asked : Good D h → ent 𝓤 (emp 𝓤) ((Take 𝓛).pre to)
    asked h-is = qed 𝓛 [] ∵ nothing ! $ nothing ! $ owned_of ! E z z-is $ fjoin ! $ owned_of ! D h h-is $ fjoin ! $ nothing ! $ join ! $
        frame ! $ done !

    module _ (C : Calls 𝓤 H) (Λ : Loops 𝓤 H) (fm : FmC 𝓤 H 𝓛.laws C) (known : Triple 𝓤 (C f) (Take 𝓛)) where
      walk : ent 𝓤 (on_entry 𝓛 sig (κ, tt) (q, tt) (x, (z, tt)) at) (WpFn 𝓤 H C Λ reading (vptr b o ∷ e.val z ∷ []) Post)
      walk =
          qed 𝓛 ((‵ (flft κ q) ⊛ ‵ ftrue) ∷ ‵ (owns (ShrRef (named 0) κ D.row ∷ E.row ∷ []) (x, (z, tt)) at) ∷ []) ∵
          -- a `&` is Copy: what it owns is had twice, one copy is kept whole for the exit, and of the other only what the `&` holds is kept
          split ! $ move ! (2 ∷ []) $ fsplit ! $ fsplit ! $ move ! (1 ∷ []) $ twice_dup ! (shared_of D.row h b o) ((D.opens 𝓛) h b o).1 κ $
          move ! (2 ∷ 1 ∷ []) $ fjoin ! $ keep ! (1 ∷ 3 ∷ 0 ∷ []) $
          -- [what the `&` holds; the token; what the reference owns]
          enter ! C Λ reading (vptr b o ∷ e.val z ∷ []) _ $
          alloc1 ! (λ l₀. alloc1 ! (λ l₁. alloc1 ! (λ l₂. alloc1 ! (λ l₃. alloc0 ! $ params1 ! $ pass1 ! (init ! 4 refl (tt, tt)) $ pass1
          ! (init ! 2 refl ((E.lawful 𝓛).typed z _ z-is).0) $ pass0 ! $
          -- _3 = *x
          move ! (8 ∷ 9 ∷ []) $ looked ! tt D h b o (λ t h-is.
          -- [a share of the cell; what shuts it; what the `&` holds; _3; …; _2; …; _1; …; room for _0; …; what the reference owns]
          assigns ! (of_opd ! (load ! (from ! (hop ! (look ! 7 refl) (stop !))) (look_raw ! 0 refl))) (from ! (stop !))
          (init ! 3 refl ((D.lawful 𝓛).typed h _ h-is).0) $
          shut ! tt D t h h-is b o $
          -- _0 = f(_3, _2)
          use0 𝓛 (raw ((Take 𝓛).pre to)) (asked h-is) $
          calls_plain ! fm ended-f (clauses_f 𝓤) known to (and_then ! (load ! (from ! (stop !)) (look ! 3 refl))
          (and_then ! (load ! (from ! (stop !)) (look ! 5 refl)) (no_more !)))
          r.val R.tells (φ h z) (λ y _. id⊢ 𝓤 _) (λ y p y_is. drop ! $
          -- [the token; what the `&` holds; _3; …; _2; …; _1; …; room for _0; …; what the reference owns]
          land ! (from ! (stop !)) (init ! 8 refl ((R.lawful 𝓛).typed y _ y_is).0) $
          returns ! (look ! 8 refl) $ forget ! 2 refl $ forget ! 4 refl $ forget ! 6 refl $ forget ! 8 refl $
          move ! (8 ∷ 9 ∷ []) $ free1 ! $ move ! (6 ∷ 7 ∷ []) $ free1 ! $ move ! (4 ∷ 5 ∷ []) $ free1 ! $ move ! (2 ∷ 3 ∷ []) $ free1 ! $
          free0 ! $
          keep ! (0 ∷ 2 ∷ []) $ by ! (exits y p y_is)))))))

  module _ {M : Type 1} {𝓤 : Ura M} (𝓛 : Logic 𝓤) (𝓣 : Tables 𝓤 𝓛.H) where
    open 𝓛 use {H}

    pub reads : Triple 𝓤 (𝓣.C f) (Take 𝓛) → Meets 𝓛 sig (WpFn 𝓤 H 𝓣.C 𝓣.Λ reading) (closing 𝓛 ended (clauses 𝓤))
    reads known =
        walk_Meets 𝓛 ended stayed (
          Goes-none_ref 𝓛 1 (0 ∷ []) tt (plain (λ _. D.row)) yes,
          (Goes-none 𝓛 1 (λ _. E.row) yes (λ κs x l. refl), tt),
        ) (clauses 𝓤) (WpFn 𝓤 H 𝓣.C 𝓣.Λ reading)
        (WpFn-mono 𝓤 H 𝓛.laws 𝓣 reading)
        (walked 𝓛 ended stayed (clauses 𝓤) (WpFn 𝓤 H 𝓣.C 𝓣.Λ reading) (λ κs. (shr_vals, ((λ z. e.val z ∷ []), tt)))
        (λ κs. (shr_Tells (named 0) κs.0 D.row, (E.tells, tt)))
        (λ κs qs bounds a g are. via 𝓤 _ (fst∗ 𝓤 _ (emp 𝓤)) (walk 𝓛 κs.0 qs.0 a.0 a.1.0 are.1.0 𝓣.C 𝓣.Λ
        (fm_of 𝓤 H 𝓛.laws 𝓣) known)))
