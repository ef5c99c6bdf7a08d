-- `into_parts` tests the pointer: null is a closed handle, and behind another lies the value of the open one.
use mathlib.Core.Path.{◌≡◌, refl, sym, subst}
use mathlib.Core.List.{List, [], ◌∷◌, ◌++◌}
use lib.Dec.{T, lit<}
use seplogic.Ra.Ura.{Ura}
use mir.Val.{Val, vcons, vnil, has_ty, WT}
use base.Logic.{SProp, ent, emp, id⊢}
use base.Fml.{ftrue, fsep}
use prog.Memory.{Memory}
use prog.Routine.{Routine}
use prog.Wp.{WpFn, Tables}
use types.Logic.{Logic}
use contract.Monad.{Fun}
use contract.Running.{tables, tables_of}
use sound.WpLaws.{WpFn-mono}
use types.Kit.{‵, raw, ◌⊛◌, at_ret, ◌$◌, ◌∵◌, !, qed, move, drop, use0, use1, join, split, fsplit, fjoin, suffices, done}
use types.Match.{live}
use types.Part.{whole, sub, agg}
use types.Run.{stop, fld, lit, bin, no_more, and_then, of_opd, first, branches, exec, returns, enter}
use types.ByLocal.{alloc_all, pass_all, free_all, look_at, get, get_in, sets, sets_last, env}
use denote.Exit.{yes}
use denote.RattleType.{RattleType}
use denote.RawPtr.{Ptr, block_ptr, null_ptr, tests_null}
use denote.Signature.{type_at}
use denote.Steps.{nothing}
use denote.Triple.Spec.{triple_of}
use denote.Triple.Table.{entered}
use denote.Triple.Walked.{says, Stays, stay_dropped, walk_of, ends_at, Goes-dropped, walk_Meets}
use Rattle.std.proofs.alloc.Calls.{α}
use Rattle.std.proofs.option.Made.{Some-of, none_of}
use Rattle.std.specs.declared.option.Option.TheVariants.{None, Some}
use Rattle.std_alloc.proofs.BoxSteps.Form.{D, word, box_typed}
use Rattle.std_alloc.proofs.BoxSteps.Steps.{box_in}
use Rattle.std_alloc.proofs.ResultValues.{and_tt}
use Rattle.std_heap.specs.contracts.Global as Heap
use Rattle.std_heap.specs.contracts.GlobalAllocator.TheImpl.{ghosts}
use Rattle.teco_ffi.proofs.AsFlag.{E, FromSeal as From}
use Rattle.teco_ffi.proofs.Holding.{either_held}
use Rattle.teco_ffi.proofs.OpensFlag.{shell, seal_out}
use Rattle.teco_ffi.specs.contracts.stopper.Stopper as Sealed
use Rattle.teco_ffi.specs.contracts.parts.Parts as Parts
use Rattle.teco_ffi.specs.contracts.flag.Flag as Home
use Rattle.teco_ffi.specs.contracts.stopper.Stopper.into_parts as F
use Rattle.teco_ffi.specs.contracts.stopper.Stopper.into_parts.Key.{name as #self}
use Rattle.teco_ffi.proofs.stopper.Stopper.into_parts.Statement as stated
use Rattle.teco_ffi.proofs.stopper.Stopper.into_parts.Code as code

abbrev Inner : RattleType
Inner = Parts.the_row Home.the_row Heap.the_row ghosts

abbrev stayed : Stays (F.ended).signature.params (F.ended).kept
stayed = (stay_dropped From yes, tt)

module _ {M : Type 1} {𝓤 : Ura M} (𝓛 : Logic 𝓤) (at_mem : Memory → SProp 𝓤) (run : Routine → Fun 𝓤) (𝓣 : Tables 𝓤 𝓛.H) where
  open 𝓛 use {H}

  walk : (z : (walk_of 𝓛 F.ended stayed (F.clauses 𝓛 at_mem run)).Ghost)
      → ent 𝓤 ((walk_of 𝓛 F.ended stayed (F.clauses 𝓛 at_mem run)).pre z) (WpFn 𝓤 H 𝓣.C 𝓣.Λ code.function (z.0.4.0 ++ []) ((walk_of 𝓛 F.ended stayed (F.clauses 𝓛 at_mem run)).post z))
  walk z =
      let Post = (walk_of 𝓛 F.ended stayed (F.clauses 𝓛 at_mem run)).post z in
      let s = z.0.3.0 in let a = s.alloc in
      let Out = type_at (F.signature).result tt in
      let Run : List Val → SProp 𝓤 = λ us. WpFn 𝓤 H 𝓣.C 𝓣.Λ code.function us Post in
      qed 𝓛 ((‵ ftrue ⊛ ‵ (fsep ((Sealed.the_row).own_val s z.0.4.0) ftrue)) ∷ raw (emp 𝓤) ∷ []) ∵ split ! $ drop ! $ fsplit ! $
      seal_out ! s z.0.4.0 (λ h ws fa. either_held Home.the_row ! a s.at s.value
      (λ is no. drop ! $ drop ! $ drop ! $
      let w : Val = shell null_ptr h in let v₀ : Val = live 0 vnil in
      let us : z.0.4.0 ≡ w ∷ [] = subst (λ (p : Ptr). z.0.4.0 ≡ shell p h ∷ []) is ws in
      suffices ! (Run (w ∷ [])) (subst (λ (us : List Val). ent 𝓤 (Run (w ∷ [])) (Run us)) (sym (λ i. us i ++ [])) (id⊢ 𝓤 (Run (w ∷ [])))) $
      enter ! 𝓣.C 𝓣.Λ code.function (w ∷ []) Post $ alloc_all ! (λ ls. pass_all ! refl ((and_tt (has_ty (α (E.al)) h) fa.0, (record { fits = lit< tt }, (fa.1, tt))), tt) $
      sets ! (of_opd ! (get_in ! (fld ! refl (stop !)) (sub ! 0 refl (whole !)))) refl (tt, record { fits = lit< tt }) $ sets ! (of_opd ! (get_in ! (fld ! refl (stop !)) (sub ! 1 refl (whole !)))) refl fa $
      sets ! (bin ! (get ! refl) (lit ! tt) tt) refl (tt, tt) $ first ! $ branches ! (get ! refl)
      (λ _. sets_last ! (agg ! (and_then ! (lit ! tt) (no_more !))) refl (tt, (record { fits = lit< tt }, tt)) $ exec ! 𝓣.C 𝓣.Λ (env code.Mir.locals ls) code.Mir.t-5 (at_ret _ Post) $
      sets ! (of_opd ! (get ! refl)) refl (tt, (record { fits = lit< tt }, tt)) $
      returns ! (look_at ! 0 refl) $ free_all ! refl $ use0 𝓛 (‵ (Out.own_val None (v₀ ∷ []))) (none_of 𝓛 Inner) $
      suffices ! _ (ends_at 𝓛 F.ended stayed (F.clauses 𝓛 at_mem run) z v₀ None (tt, tt) (tt, tt)) $ says ! no $
      nothing ! $ nothing ! $ fjoin ! $ join ! $ nothing ! $ join ! $ done !)
      (λ wrong. absurd wrong)))
      (λ b o x is yes_x t.
      let w : Val = shell (block_ptr b o) h in let made : Val = word E h b o in let v₁ : Val = live 1 (vcons made vnil) in
      let us : z.0.4.0 ≡ w ∷ [] = subst (λ (p : Ptr). z.0.4.0 ≡ shell p h ∷ []) is ws in
      let bx : D E = record { ptr = block_ptr b o; alloc = a; value = x } in
      let d : Inner.Denot = record { ptr = block_ptr b o; alloc = a; value = x } in
      let typed = box_typed E h b o fa in
      let good : T (has_ty (denote.Memory.lone Out.mir) v₁) × WT v₁ = (and_tt _ typed.0, (record { fits = lit< tt }, (typed.1, tt))) in
      fsplit ! $ box_in E ! bx b o x refl refl $ use1 𝓛 (‵ (Inner.own_val d (made ∷ []))) (id⊢ 𝓤 _) $ move ! (1 ∷ 2 ∷ []) $ drop ! $ drop ! $
      suffices ! (Run (w ∷ [])) (subst (λ (us : List Val). ent 𝓤 (Run (w ∷ [])) (Run us)) (sym (λ i. us i ++ [])) (id⊢ 𝓤 (Run (w ∷ [])))) $
      enter ! 𝓣.C 𝓣.Λ code.function (w ∷ []) Post $ alloc_all ! (λ ls. pass_all ! refl (typed, tt) $
      sets ! (of_opd ! (get_in ! (fld ! refl (stop !)) (sub ! 0 refl (whole !)))) refl (tt, tt) $ sets ! (of_opd ! (get_in ! (fld ! refl (stop !)) (sub ! 1 refl (whole !)))) refl fa $
      sets ! (bin ! (get ! refl) (lit ! tt) (tests_null (block_ptr b o) t)) refl (tt, tt) $ first ! $ branches ! (get ! refl) (λ wrong. absurd wrong)
      (λ _. sets ! (of_opd ! (get ! refl)) refl (tt, tt) $ sets ! (agg ! (and_then ! (get ! refl) (and_then ! (get ! refl) (no_more !)))) refl typed $
      sets_last ! (agg ! (and_then ! (lit ! tt) (and_then ! (get ! refl) (no_more !)))) refl good $ exec ! 𝓣.C 𝓣.Λ (env code.Mir.locals ls) code.Mir.t-5 (at_ret _ Post) $
      sets ! (of_opd ! (get ! refl)) refl good $ use1 𝓛 (‵ (Out.own_val (Some d) (v₁ ∷ []))) (Some-of 𝓛 Inner d made) $
      returns ! (look_at ! 0 refl) $ free_all ! refl $
      suffices ! _ (ends_at 𝓛 F.ended stayed (F.clauses 𝓛 at_mem run) z v₁ (Some d) (tt, tt) (tt, tt)) $ says ! yes_x $
      nothing ! $ nothing ! $ fjoin ! $ join ! $ nothing ! $ join ! $ done !))))

pub into_parts_spec : {M : Type 1} → stated.statement M
unfolding tables_of
into_parts_spec 𝓤 𝓛 𝓜 𝓡 wired =
    let 𝓣 : Tables 𝓤 𝓛.H = tables_of 𝓤 𝓛.H 𝓜 (tables 𝓤 𝓛.H 𝓜 𝓡 𝓡.env) in
    entered 𝓤 𝓛.H (triple_of 𝓛 F.signature (F.spec 𝓛 𝓜.mem 𝓡.returns)) 𝓣.C 𝓣.Λ #self code.function (code.unfolded 𝓤 𝓛.H 𝓜 𝓡 wired)
    (walk_Meets 𝓛 F.ended stayed (Goes-dropped 𝓛 0 From yes (λ κs x f. refl), tt) (F.clauses 𝓛 𝓜.mem 𝓡.returns) (WpFn 𝓤 𝓛.H 𝓣.C 𝓣.Λ code.function) (WpFn-mono 𝓤 𝓛.H 𝓛.laws 𝓣 code.function)
    (walk 𝓛 𝓜.mem 𝓡.returns 𝓣))
