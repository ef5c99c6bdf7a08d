-- `session` tests the pointer: null lends nothing, and what lies behind another is lent, and the handle follows it.
use mathlib.Core.Path.{◌≡◌, refl, sym, ap}
use Prim.Native.Nat.{ℕ}
use mathlib.Core.List.{List, [], ◌∷◌}
use seplogic.Ra.Ura.{Ura}
use lib.Dec.{lit<}
use mir.Raw.{raw as bare}
use mir.Syntax.{Body, named, place, copy, assign, rv_opd, seq, aggregate, int, w8}
use mir.Val.{Val, vptr, vcons, vnil}
use base.Fraction.{full_share}
use base.Logic.{SProp, ent, sep, emp, via, fst∗}
use base.Fml.{Lft, GName, Share, Fml, ftrue, fsep, flft, fres}
use prog.Memory.{Memory}
use prog.Routine.{Routine}
use prog.Wp.{Env, Calls, Loops, Wp, WpFn, Tables, after_seq, at_return}
use types.Logic.{Logic, sem}
use sound.WpLaws.{WpFn-mono}
use types.Kit.{‵, raw, some, later, ◌⊛◌, at_ret, any_q, ◌$◌, ◌∵◌, !, qed, by, move, keep, drop, use0, use1, split, split3, join, group, pick, await, rewrite, fsplit, fsplit3, fjoin, fpack, suffices, frame, done}
use types.Match.{live}
use types.Part.{whole, sub, look_in, agg}
use types.Run.{stop, fld, load, lit, bin, addr, no_more, and_then, of_opd, first, blocks, branches, exec, returns, enter}
use types.ByLocal.{alloc_all, pass_all, free_all, look_at, get, through, sets, sets_last, is, env}
use contract.Monad.{Fun, fact_i}
use contract.Running.{tables, tables_of}
use denote.Exit.{no}
use denote.Follow.{follows, follows_by, lends_Part}
use denote.MutBor.{gone}
use denote.Memory.{lone, mem, cell_at, part_at, part_of}
use denote.RattleType.{RattleType, owns}
use denote.RawPtr.{Ptr, block_ptr, null_ptr, ptr_val, tests_null}
use denote.Ref.{MutRef, MutBor, mut_vals, mut_Tells}
use denote.Signature.{plain, mut_ref_to, type_at}
use denote.Steps.{nothing, opens, closes}
use denote.Triple.Entry.{on_entry}
use denote.Triple.Spec.{Meets, triple_of}
use denote.Triple.Table.{entered}
use denote.Triple.Walked.{says, Stays, stay_dropped, walk_of, ends_at, walked, walk_Meets, Goes-spent_ref}
use Rattle.std.proofs.option.Made.{Some-of, none_of}
use Rattle.std.specs.declared.option.Option.{Option}
use Rattle.std.specs.declared.option.Option.TheVariants.{None, Some}
use Rattle.std_heap.specs.contracts.Global as Heap
use Rattle.std_heap.specs.contracts.GlobalAllocator.TheImpl.{ghosts}
use Rattle.teco_ffi.proofs.Holding.{either_held}
use Rattle.teco_ffi.proofs.Opens.{shell, seal_out, seal_in}
use Rattle.teco_ffi.specs.Handle.{Kept, holds}
use Rattle.teco_ffi.specs.Lending.{with_session}
use Rattle.teco_ffi.specs.contracts.handle.Teco as Sealed
use Rattle.teco_session.specs.contracts.session.Session as Home
use Rattle.teco_ffi.specs.contracts.handle.Teco.session as F
use Rattle.teco_ffi.specs.contracts.handle.Teco.session.Key.{name as #self}
use Rattle.teco_ffi.proofs.handle.Teco.session.Statement as stated
use Rattle.teco_ffi.proofs.handle.Teco.session.Code as code

abbrev Self : RattleType
Self = Sealed.the_row

abbrev R : RattleType
R = Home.the_row

abbrev stayed : Stays (F.ended).signature.params (F.ended).kept
stayed = (stay_dropped (mut_ref_to (0 ∷ []) tt (plain (λ _. Self))) no, tt)

-- the rest of the branch that found a pointer
abbrev wraps : Body
wraps = seq (assign (place 6 []) (rv_opd (copy (place 7 [])))) (assign (place 5 []) (aggregate (int w8 1 ∷ copy (place 6 []) ∷ [])))

same : (d : Self.Denot) (x : Kept) → d.value ≡ Some x → with_session d x ≡ d
same d x e = ap (λ (k : Option Kept). record d { value = k }) (sym e)

module _ {M : Type 1} {𝓤 : Ura M} (𝓛 : Logic 𝓤) (at_mem : Memory → SProp 𝓤) (run : Routine → Fun 𝓤) where
  open 𝓛 use {H, A}

  module _ (κ : Lft) (q : Share) (rb ro : ℕ) (γ : GName) (d : Self.Denot) where
    abbrev self : MutBor Self.Denot
    self = record { ref_ptr = (rb, ro); ghost_name = γ; now = d }

    abbrev bound : (walk_of 𝓛 F.ended stayed (F.clauses 𝓛 at_mem run)).Ghost
    bound = (((κ, tt), (q, tt), tt, (self, tt), (vptr rb ro ∷ [], tt)), tt)

    abbrev Post : Val → SProp 𝓤
    Post = (walk_of 𝓛 F.ended stayed (F.clauses 𝓛 at_mem run)).post bound

    abbrev Lent : RattleType
    Lent = MutRef (named 0) κ R

    abbrev Out : RattleType
    Out = type_at (F.signature).result (κ, tt)

    -- all of an open handle but its value
    abbrev Rest : ℕ → ℕ → Val → Fml
    Rest b o h = fsep (fsep (ghosts.dealloc_token d.alloc (bare (lone R.mir)) (block_ptr b o)) ((Heap.the_row).own_val d.alloc (h ∷ []))) (cell_at full_share Self.mir (shell (block_ptr b o) h ∷ []) rb ro)

    back : (b o : ℕ) (h : Val) → d.at ≡ block_ptr b o → (w : Kept) → ent 𝓤 (sep 𝓤 (sem 𝓛 ((mem R).own_at w b o)) (sem 𝓛 (Rest b o h))) (sem 𝓛 ((mem Self).own_at (with_session d w) rb ro))
    unfolding part_of
    back b o h e w =
        qed 𝓛 (‵ (part_at R full_share w b o) ∷ ‵ (Rest b o h) ∷ []) ∵ move ! (1 ∷ []) $ fsplit ! $ fsplit ! $ move ! (3 ∷ 0 ∷ []) $ fjoin ! $
        seal_in ! (block_ptr b o) h d.alloc (Some w) $
        rewrite ! 0 (λ (p : Ptr). ‵ (Self.own_val (record { at = p; alloc = d.alloc; value = Some w }) (shell (block_ptr b o) h ∷ []))) (sym e) refl $
        move ! (1 ∷ 0 ∷ []) $ fjoin ! $
        fpack ! (List Val) (λ us. fsep (cell_at full_share Self.mir us rb ro) (Self.own_val (with_session d w) us)) (shell (block_ptr b o) h ∷ []) $ done !

    exits : (v : Val) (r : Option (MutBor Kept)) → ent 𝓤 (sep 𝓤 (sem 𝓛 (Out.own_val r (v ∷ []))) (sep 𝓤 (A.lft κ q) ((F.clauses 𝓛 at_mem run (κ, tt) (self, tt)).ensures tt r (gone self, tt)))) (Post v)
    exits v r =
        qed 𝓛 (‵ (Out.own_val r (v ∷ [])) ∷ ‵ (flft κ q) ∷ raw ((F.clauses 𝓛 at_mem run (κ, tt) (self, tt)).ensures tt r (gone self, tt)) ∷ []) ∵
        suffices ! _ (ends_at 𝓛 F.ended stayed (F.clauses 𝓛 at_mem run) bound v r (tt, tt) (tt, tt)) $
        nothing ! $ nothing ! $ fjoin ! $ join ! $ nothing ! $ move ! (2 ∷ 0 ∷ []) $ join ! $ join ! $ frame ! $ done !

    module _ (C : Calls 𝓤 H) (Λ : Loops 𝓤 H) where
      walk : ent 𝓤 (on_entry 𝓛 F.signature (κ, tt) (q, tt) (self, tt) (vptr rb ro ∷ [], tt)) (WpFn 𝓤 H C Λ code.function (vptr rb ro ∷ []) Post)
      unfolding follows_by
      walk =
          qed 𝓛 ((‵ (flft κ q) ⊛ ‵ ftrue) ∷ ‵ (owns (MutRef (named 0) κ Self ∷ []) (self, tt) (vptr rb ro ∷ [], tt)) ∷ []) ∵
          enter ! C Λ code.function (vptr rb ro ∷ []) _ $
          alloc_all ! (λ l. pass_all ! refl ((tt, tt), tt) $
          let En : Env 𝓤 H = env code.function.locals l in
          let Then = any_q (after_seq 𝓤 H (Wp 𝓤 H C Λ En code.Mir.t-5 (at_return 𝓤 H En Post)) (at_return 𝓤 H En Post)) in
          move ! (1 ∷ []) $ fsplit ! $ fsplit3 ! $ drop ! $ move ! (3 ∷ []) $ split ! $ move ! (2 ∷ 3 ∷ 0 ∷ []) $
          opens ! tt Self {h = d} rb ro (λ vs. move ! (1 ∷ []) $
          seal_out ! d vs (λ h ws fa. rewrite ! 2 (λ (us : List Val). ‵ (cell_at full_share Self.mir us rb ro)) ws refl $
          either_held R ! d.alloc d.at d.value
          (λ gone closed.
          sets ! (is ! (of_opd ! (load ! (through ! refl (fld ! refl (stop !))) (look_in ! 1 (sub ! 0 refl (whole !))))) (ap ptr_val gone)) refl (tt, record { fits = lit< tt }) $
          sets ! (of_opd ! (get ! refl)) refl (tt, record { fits = lit< tt }) $
          sets ! (bin ! (get ! refl) (lit ! tt) tt) refl (tt, tt) $ first ! $ branches ! (get ! refl)
          (λ _. sets_last ! (agg ! (and_then ! (lit ! tt) (no_more !))) refl (tt, (record { fits = lit< tt }, tt)) $ exec ! C Λ En code.Mir.t-5 (at_ret En Post) $
          sets ! (of_opd ! (get ! refl)) refl (tt, (record { fits = lit< tt }, tt)) $
          nothing ! $ fpack ! (d.at ≡ null_ptr) (λ _. ftrue) gone $ rewrite ! 0 (λ (k : Option Kept). ‵ (holds R d.alloc d.at k)) (sym closed) refl $
          seal_in ! d.at h d.alloc d.value $ move ! (1 ∷ 0 ∷ []) $ closes ! tt Self d (shell d.at h ∷ []) rb ro $
          use1 𝓛 (‵ (fres γ (Self.coded.code d))) (𝓛.names.obs-res γ (Self.coded.code d)) $ move ! (1 ∷ []) $ drop ! $
          use0 𝓛 (‵ (Out.own_val None (live 0 vnil ∷ []))) (none_of 𝓛 Lent) $
          returns ! (look_at ! 0 refl) $ free_all ! refl $ keep ! (0 ∷ 2 ∷ 1 ∷ []) $
          suffices ! _ (exits (live 0 vnil) None) $ frame ! $ frame ! $ frame ! $ says ! tt $ by ! (fact_i 𝓤 _ (emp 𝓤) closed))
          (λ wrong. absurd wrong))
          (λ b o x there opened t.
          let at : Val = vptr b o in
          fsplit ! $
          sets ! (is ! (of_opd ! (load ! (through ! refl (fld ! refl (stop !))) (look_in ! 3 (sub ! 0 refl (whole !))))) (ap ptr_val there)) refl (tt, tt) $
          sets ! (of_opd ! (get ! refl)) refl (tt, tt) $
          sets ! (bin ! (get ! refl) (lit ! tt) (tests_null (block_ptr b o) t)) refl (tt, tt) $ first ! $ branches ! (get ! refl) (λ wrong. absurd wrong)
          (λ _. first ! $ blocks ! $ sets ! (of_opd ! (get ! refl)) refl (tt, tt) $ sets ! (of_opd ! (get ! refl)) refl (tt, tt) $
          sets_last ! (addr ! (through ! refl (stop !))) refl (tt, tt) $ exec ! C Λ En wraps Then $
          sets ! (of_opd ! (get ! refl)) refl (tt, tt) $
          sets_last ! (agg ! (and_then ! (lit ! tt) (and_then ! (get ! refl) (no_more !)))) refl (tt, (record { fits = lit< tt }, (tt, tt))) $
          exec ! C Λ En code.Mir.t-5 (at_ret En Post) $
          sets ! (of_opd ! (get ! refl)) refl (tt, (record { fits = lit< tt }, (tt, tt))) $
          rewrite ! 3 (λ (p : Ptr). ‵ (cell_at full_share Self.mir (shell p h ∷ []) rb ro)) there refl $
          move ! (1 ∷ 2 ∷ []) $ fjoin ! $ move ! (0 ∷ 2 ∷ []) $ fjoin ! $ move ! (2 ∷ 3 ∷ 4 ∷ 1 ∷ 0 ∷ []) $ group ! 5 $
          use1 𝓛 (later (some (λ (γ' : GName). ‵ (Lent.own_val (record { ref_ptr = (b, o); ghost_name = γ'; now = x }) (at ∷ [])) ⊛ ‵ (flft κ q) ⊛ ‵ (follows Self R γ γ' (with_session d)))))
          (lends_Part 𝓛 Self R (with_session d) (named 0) κ q rb ro b o γ (sem 𝓛 (Rest b o h)) (back b o h there) (Self.coded.code d) (Self.coded.code d) x) $ await ! tt $ pick ! (λ γ'.
          let r : MutBor Kept = record { ref_ptr = (b, o); ghost_name = γ'; now = x } in
          split3 ! $ use1 𝓛 (‵ (Out.own_val (Some r) (live 1 (vcons at vnil) ∷ []))) (Some-of 𝓛 Lent r at) $
          returns ! (look_at ! 0 refl) $ free_all ! refl $ keep ! (0 ∷ 1 ∷ 2 ∷ []) $
          suffices ! _ (exits (live 1 (vcons at vnil)) (Some r)) $ frame ! $ frame ! $ frame ! $ says ! (same d x opened) $ by ! (fact_i 𝓤 _ (emp 𝓤) opened)))))))

  meets : (𝓣 : Tables 𝓤 H) → Meets 𝓛 F.signature (WpFn 𝓤 H 𝓣.C 𝓣.Λ code.function) (F.spec 𝓛 at_mem run)
  meets 𝓣 =
      walk_Meets 𝓛 F.ended stayed (Goes-spent_ref 𝓛 1 (0 ∷ []) tt (plain (λ _. Self)), tt) (F.clauses 𝓛 at_mem run) (WpFn 𝓤 H 𝓣.C 𝓣.Λ code.function) (WpFn-mono 𝓤 H 𝓛.laws 𝓣 code.function)
      (walked 𝓛 F.ended stayed (F.clauses 𝓛 at_mem run) (WpFn 𝓤 H 𝓣.C 𝓣.Λ code.function) (λ κs. (mut_vals, tt)) (λ κs. (mut_Tells (named 0) κs.0 Self, tt))
      (λ κs qs bounds a g are. via 𝓤 _ (fst∗ 𝓤 _ (emp 𝓤)) (walk κs.0 qs.0 a.0.ref_ptr.0 a.0.ref_ptr.1 a.0.ghost_name a.0.now 𝓣.C 𝓣.Λ)))

pub session_spec : {M : Type 1} → stated.statement M
unfolding tables_of
session_spec 𝓤 𝓛 𝓜 𝓡 wired =
    let 𝓣 : Tables 𝓤 𝓛.H = tables_of 𝓤 𝓛.H 𝓜 (tables 𝓤 𝓛.H 𝓜 𝓡 𝓡.env) in
    entered 𝓤 𝓛.H (triple_of 𝓛 F.signature (F.spec 𝓛 𝓜.mem 𝓡.returns)) 𝓣.C 𝓣.Λ #self code.function (code.unfolded 𝓤 𝓛.H 𝓜 𝓡 wired) (meets 𝓛 𝓜.mem 𝓡.returns 𝓣)
