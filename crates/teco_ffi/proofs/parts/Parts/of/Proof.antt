-- `of` passes the box to `into_raw_with_allocator`, and puts the pair that comes back into the parts.
use mathlib.Core.Path.{◌≡◌, refl, sym, subst, ap, ◌∙◌}
use mathlib.Core.List.{List, [], ◌∷◌, ◌++◌}
use seplogic.Ra.Ura.{Ura}
use mir.Syntax.{Fn, Args, Dict, a_type, dcons, dnil}
use mir.MapTy.{inst_fn}
use mir.Raw.{raw as bare}
use mir.Val.{Val, vstruct, of_list}
use base.Logic.{SProp, ent, id⊢, never, fst∗}
use base.Fml.{Fml, ftrue, fsep, flft}
use contract.BorrowLft.{◌⊑◌}
use prog.Memory.{Memory}
use prog.Routine.{Routine}
use prog.Wp.{WpFn, Tables}
use types.Logic.{Logic, sem}
use contract.Monad.{Fun, fact}
use contract.Running.{tables, tables_of}
use sound.WpLaws.{fm_of, WpFn-mono}
use types.Kit.{Item, ‵, raw, ◌⊛◌, some, later, ◌$◌, ◌∵◌, !, qed, by, move, drop, use1, join, split, split3, pick, rewrite, fsplit, fjoin, fpick, feq_l, suffices, await, done}
use types.Part.{whole, sub, agg}
use types.Run.{stop, fld, no_more, and_then, of_opd, returns, enter}
use types.ByLocal.{alloc_all, pass_all, free_all, look_at, get, get_in, sets, lands_as}
use denote.RattleType.{RattleType}
use denote.Exit.{no}
use denote.Param.{bounded}
use denote.RawPtr.{Ptr, RawPtr, block_ptr, null_ptr, ptr_val, in_a_block}
use denote.Signature.{plain}
use denote.Steps.{heard, nothing, only}
use denote.Struct.Tuple.{Tuple}
use denote.Triple.Call.{calls_at}
use denote.Triple.Clauses.{Ended, Clauses}
use denote.Triple.Spec.{triple_of}
use denote.Triple.Statement.{Triple, Contract}
use denote.Triple.Table.{entered}
use denote.Triple.Walked.{says, Stays, stay_dropped, walk_of, ends_at, walk_Meets}
use Rattle.std.proofs.alloc.Calls.{token, handle_tells, Goes-blank}
use Rattle.std_alloc.specs.Box.Ownership.{box_owns}
use Rattle.std_alloc.proofs.BoxSteps.Form.{Bx, τ, R, P, B, word, box_typed}
use Rattle.std_alloc.proofs.BoxSteps.Steps.{box_out, box_in}
use Rattle.std_alloc.specs.contracts.boxed.Box.into_raw_with_allocator as callee
use Rattle.std_alloc.proofs.boxed.Box.into_raw_with_allocator.Symbol as called
use Rattle.std_alloc.proofs.boxed.Box.into_raw_with_allocator.Met as callee_met
use Rattle.teco_ffi.specs.contracts.parts.Parts as Parts
use Rattle.teco_ffi.specs.contracts.parts.Parts.of as F
use Rattle.teco_ffi.specs.contracts.parts.Parts.of.Key.{name as #self}
use Rattle.teco_ffi.proofs.parts.Parts.of.Statement as stated
use Rattle.teco_ffi.proofs.parts.Parts.of.Code as code

-- a box at this type and allocator, whose value is dropped by this table
module _ (E : Bx) (drops : Dict) where
  abbrev given : Args
  given = bounded (a_type ∷ a_type ∷ []) (E.row, (E.al.row, tt)) (dcons E.al.d (dcons E.al.drops (dcons drops dnil)))

  abbrev instance : Fn
  instance = inst_fn given code.function

  abbrev ended : Ended
  ended = F.ended E.row E.al.row E.al.g E.al.d E.al.drops drops

  abbrev stays : Stays ended.signature.params ended.kept
  stays = (stay_dropped (plain (λ _. B E)) no, tt)

  abbrev Made : RattleType
  Made = Parts.the_row (R E) (P E) E.al.g

  -- the pair that comes back
  abbrev Pair : RattleType
  Pair = Tuple (RawPtr ∷ P E ∷ [])

  module _ {M : Type 1} {𝓤 : Ura M} (𝓛 : Logic 𝓤) (at_mem : Memory → SProp 𝓤) (run : Routine → Fun 𝓤) (𝓣 : Tables 𝓤 𝓛.H) where
    open 𝓛 use {H}

    abbrev clauses : Clauses 𝓤 ended
    clauses = F.clauses E.row E.al.row E.al.g E.al.d E.al.drops drops 𝓛 at_mem run

    abbrev Opens : Contract 𝓤
    Opens = triple_of 𝓛 (callee.signature E.row E.al.row E.al.g E.al.d E.al.drops drops) (callee.spec E.row E.al.row E.al.g E.al.d E.al.drops drops 𝓛 at_mem run)

    walk : Triple 𝓤 (𝓣.C (called.name given)) Opens → (z : (walk_of 𝓛 ended stays clauses).Ghost)
        → ent 𝓤 ((walk_of 𝓛 ended stays clauses).pre z) (WpFn 𝓤 H 𝓣.C 𝓣.Λ instance (z.0.4.0 ++ []) ((walk_of 𝓛 ended stays clauses).post z))
    walk known z =
        let κs = z.0.0 in let qs = z.0.1 in let v = z.0.3.0 in let a = v.alloc in
        let Post = (walk_of 𝓛 ended stays clauses).post z in
        let tokens : Item 𝓤 = ‵ (flft κs.0 qs.0) ⊛ ‵ (flft κs.1.0 qs.1.0) ⊛ ‵ ftrue in
        let alive : Item 𝓤 = raw (fact 𝓤 (κs.0 ⊑ E.row.lives)) ⊛ raw (fact 𝓤 (κs.1.0 ⊑ E.al.row.lives)) ⊛ ‵ ftrue in
        let owned : Ptr → Fml = λ p. box_owns (token E.al a) (R E) p v.value in
        qed 𝓛 ((tokens ⊛ ‵ (fsep ((B E).own_val v z.0.4.0) ftrue)) ∷ alive ∷ []) ∵ split ! $ move ! (1 ∷ []) $ fsplit ! $
        box_out E ! v z.0.4.0 (λ b o handle e passed fits. box_in E ! v b o v.value e refl $
        let w = word E handle b o in
        let y : Opens.Ghost = ((κs, qs, tt, (v, tt), (w ∷ [], tt)), tt) in
        let Γ : List (Item 𝓤) = ‵ ((B E).own_val v (w ∷ [])) ∷ ‵ ftrue ∷ tokens ∷ alive ∷ [] in
        by ! (subst (λ (us : List Val). ent 𝓤 (types.Kit.⋆ 𝓛 Γ) (WpFn 𝓤 H 𝓣.C 𝓣.Λ instance (us ++ []) Post)) (sym passed)
        (qed 𝓛 Γ ∵ enter ! 𝓣.C 𝓣.Λ instance (w ∷ []) _ $ alloc_all ! (λ ls. pass_all ! refl (box_typed E handle b o fits, tt) $
        sets ! (of_opd ! (get ! refl)) refl (box_typed E handle b o fits) $
        -- the call: it takes the box and the tokens, and gives the pair with what the box owned
        fjoin ! $ move ! (1 ∷ 0 ∷ []) $ join ! $ join ! $ use1 𝓛 (raw (Opens.pre y)) (id⊢ 𝓤 _) $
        calls_at ! (fm_of 𝓤 H 𝓛.laws 𝓣) Opens known y (and_then ! (get ! refl) (no_more !)) (λ u.
        use1 𝓛 (later (some (λ (r : Ptr × E.al.row.Denot). (tokens ⊛ ‵ (Pair.own_val r (u ∷ []))) ⊛ some (λ (_ : (Unit {0} × (Unit {0} × Unit {0})) × Unit {0}). ‵ (fsep (fsep ftrue (fsep ftrue ftrue)) ftrue) ⊛ (raw (fact 𝓤 (r.1 ≡ a)) ⊛ ‵ (owned r.0)))))) (id⊢ 𝓤 _) $
        await ! tt $ pick ! (λ r. split ! $ move ! (1 ∷ []) $ pick ! (λ _. split3 ! $ drop ! $ heard ! (r.1 ≡ a) (λ same.
        in_a_block ! r.0 owned (fst∗ 𝓤 (never 𝓤) (sem 𝓛 (token E.al a (bare (τ E)) null_ptr))) (λ b' o' at.
        move ! (1 ∷ []) $ split ! $ move ! (1 ∷ []) $ fpick ! (λ vss. fsplit ! $ feq_l ! (λ pair_is. fsplit ! $ feq_l ! (λ ptr_is. fsplit ! $
        rewrite ! 0 (λ (s : E.al.row.Denot). ‵ (E.al.row.own_val s vss.1.0)) same refl $ handle_tells E.al ! a vss.1.0 (λ handle' handle_is fits'.
        let good = box_typed E handle' b' o' fits' in
        let w' = word E handle' b' o' in
        let made : Made.Denot = record { ptr = block_ptr b' o'; alloc = a; value = v.value } in
        lands_as ! (ap only (pair_is ∙ (λ j. vstruct (of_list ((ptr_is ∙ ap (λ (p : Ptr). ptr_val p ∷ []) at) j ++ (handle_is j ++ []))) ∷ []))) refl good $
        -- the parts
        sets ! (of_opd ! (get_in ! (fld ! refl (stop !)) (sub ! 0 refl (whole !)))) refl (tt, tt) $
        sets ! (of_opd ! (get_in ! (fld ! refl (stop !)) (sub ! 1 refl (whole !)))) refl fits' $
        sets ! (agg ! (and_then ! (get ! refl) (and_then ! (get ! refl) (no_more !)))) refl good $ returns ! (look_at ! 0 refl) $ free_all ! refl $
        move ! (3 ∷ []) $ fsplit ! $ box_in E ! (record { ptr = block_ptr b' o'; alloc = a; value = v.value }) b' o' v.value refl refl $
        use1 𝓛 (‵ (Made.own_val made (w' ∷ []))) (id⊢ 𝓤 _) $ move ! (1 ∷ []) $ drop ! $
        suffices ! _ (ends_at 𝓛 ended stays clauses z w' made ((tt, (tt, tt)), tt) (tt, tt)) $ says ! refl $
        nothing ! $ nothing ! $ fjoin ! $ join ! $ move ! (1 ∷ 0 ∷ []) $ join ! $ done !)))))))))))))

pub of_spec : {M : Type 1} → stated.statement M
unfolding tables_of
of_spec 𝓤 𝓛 𝓜 𝓡 wired T A laws_T laws_A g d drops_A drops_T met_A drops_A_met drops_T_met =
    let E : Bx = record { row = T; laws = laws_T; al = record { row = A; laws = laws_A; g = g; d = d; drops = drops_A } } in
    let 𝓣 : Tables 𝓤 𝓛.H = tables_of 𝓤 𝓛.H 𝓜 (tables 𝓤 𝓛.H 𝓜 𝓡 𝓡.env) in
    let fn = instance E drops_T in
    let known = callee_met.met 𝓤 𝓛 𝓜 𝓡 (code.calls-std_alloc::boxed::Box::into_raw_with_allocator 𝓡.env wired) T A laws_T laws_A g d drops_A drops_T met_A drops_A_met drops_T_met in
    entered 𝓤 𝓛.H (triple_of 𝓛 (ended E drops_T).signature (F.spec T A g d drops_A drops_T 𝓛 𝓜.mem 𝓡.returns)) 𝓣.C 𝓣.Λ (#self (given E drops_T)) fn (code.unfolded 𝓤 𝓛.H 𝓜 𝓡 wired (T, (A, tt)) d drops_A drops_T)
    (walk_Meets 𝓛 (ended E drops_T) (stays E drops_T) (Goes-blank 𝓛 2 (plain (λ _. B E)) no (λ κs x f. tt), tt) (clauses E drops_T 𝓛 𝓜.mem 𝓡.returns 𝓣) (WpFn 𝓤 𝓛.H 𝓣.C 𝓣.Λ fn) (WpFn-mono 𝓤 𝓛.H 𝓛.laws 𝓣 fn)
    (walk E drops_T 𝓛 𝓜.mem 𝓡.returns 𝓣 known))
