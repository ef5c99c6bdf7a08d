-- The two states of a handle. Assumes `Logic`.
--     shell, shell_typed     the machine value of a handle, and its type
--     seal_out, seal_in      a handle by value is [what it holds; the allocator]
use Rattle.std.proofs.Common.{◌≡◌, List, [], ◌∷◌, ◌++◌, refl, subst}
use seplogic.Ra.Ura.{Ura}
use mir.Val.{Val, vstruct, vcons, vnil, of_list}
use types.Logic.{Logic}
use types.Kit.{Item, Goal, Seq, Step, step, ‵, ◌$◌, move, drop, fsplit, fjoin, fpick, fpack, feq_i, feq_l}
use denote.RattleType.{Valss}
use denote.RawPtr.{Ptr, RawPtr, ptr_val}
use denote.Memory.{lone}
use denote.Steps.{nothing}
use denote.Struct.Struct.{within}
use denote.Struct.Owning.{shape}
use Rattle.std.proofs.alloc.Calls.{Fits, handle_tells}
use Rattle.std.specs.declared.option.Option.{Option}
use Rattle.std_heap.specs.declared.Global.{Global}
use Rattle.std_heap.specs.contracts.Global as Heap
use Rattle.teco_ffi.proofs.AsBox.{E}
use Rattle.teco_ffi.specs.Handle.{Kept, holds}
use Rattle.teco_session.specs.contracts.session.Session as Home
use Rattle.teco_ffi.specs.contracts.handle.Teco as Sealed

abbrev pub shell : Ptr → Val → Val
shell p h = vstruct (vcons (ptr_val p) (vcons h vnil))

abbrev pub shell_ty : mir.Syntax.Ty
shell_ty = lone (Sealed.the_row).mir

module _ {M : Type 1} {𝓤 : Ura M} {𝓛 : Logic 𝓤} {K : Type 0} {Γ : List (Item 𝓤)} {G : Goal 𝓤 𝓛.H} where
  pub seal_out : K → (d : (Sealed.the_row).Denot) (vs : List Val)
      → ((h : Val) → vs ≡ shell d.at h ∷ [] → Fits (E.al) h → Seq K 𝓛 (‵ (holds Home.the_row d.alloc d.at d.value) ∷ ‵ ((Heap.the_row).own_val d.alloc (h ∷ [])) ∷ Γ) G)
      → Seq K 𝓛 (‵ ((Sealed.the_row).own_val d vs) ∷ Γ) G
  seal_out t d vs k =
      fsplit t $ fpick t (λ vss. fsplit t $ feq_l t (λ ev. fsplit t $ feq_l t (λ ep. fsplit t $ handle_tells (E.al) t d.alloc vss.1.0 (λ h ea fits. move t (1 ∷ []) $ drop t $ move t (1 ∷ []) $ k h
      (subst (λ (ws : List Val). vs ≡ vstruct (of_list (ptr_val d.at ∷ (ws ++ []))) ∷ []) ea (subst (λ (ps : List Val). vs ≡ vstruct (of_list (ps ++ (vss.1.0 ++ []))) ∷ []) ep ev)) fits))))

  pub seal_in : K → (p : Ptr) (h : Val) (a : Global) (k : Option Kept)
      → Step K 𝓛 (‵ ((Sealed.the_row).own_val (record { at = p; alloc = a; value = k }) (shell p h ∷ [])) ∷ Γ) G (‵ (holds Home.the_row a p k) ∷ ‵ ((Heap.the_row).own_val a (h ∷ [])) ∷ Γ) G
  seal_in t p h a k = step (λ s. let v : Val = shell p h in
      nothing t $ move t (2 ∷ 0 ∷ []) $ fjoin t $ feq_i t (List Val) (ptr_val p ∷ []) (ptr_val p ∷ []) refl $ fjoin t $ feq_i t (List Val) (v ∷ []) (v ∷ []) refl $ fjoin t $
      fpack t (Valss (RawPtr ∷ Heap.the_row ∷ [])) (within (shape Sealed.the_type) (p, (((tt, tt), tt), tt)) (v ∷ [])) (ptr_val p ∷ [], (h ∷ [], tt)) $ fjoin t $ s)
