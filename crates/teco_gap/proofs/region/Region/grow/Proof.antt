-- `grow` hands the bytes to the allocator, and has them in what comes back. Assumes `Logic`.
use Rattle.std.proofs.Common.{◌≡◌, ◌^◌, ◌<◌, ◌≤◌, ℕ, true, false, List, [], ◌∷◌, ◌++◌, refl, sym, ap, ◌∙◌, arith, w64}
use mir.Syntax.{Fn, Args, a_type, dcons, dnil, place}
use mir.Val.{Val, vbool, vint, vptr}
use mir.MapTy.{inst_fn}
use base.Fraction.{full_share}
use base.Logic.{SProp, ex, never, emp, id⊢}
use base.Fml.{Lft, Share, ftrue, flft}
use prog.Wp.{Env, WpFn}
use contract.BorrowLft.{◌⊑◌, ⊑_trans, ⊑_static}
use contract.Monad.{fact, fact_i}
use contract.Running.{tables}
use types.Kit.{‵, raw, ◌⊛◌, later, prop, settles, at_ret, ◌$◌, ◌∵◌, !, qed, by, move, drop, use0, use1, use2, split, split3, join, rewrite, regoal, fsplit, fsplit3, fjoin, fjoin3, feq_i, await}
use types.Part.{whole, sub, look_in, store_in}
use types.Match.{vrt, in_variant}
use types.Run.{stop, fld, load, true_lit, false_lit, of_opd, no_more, and_then, assigns, first, blocks, switches_on, exec, returns, enter}
use types.ByLocal.{alloc_all, pass_all, free_all, look_at, get, get_in, get_tag, through, sets, sets_last, lands_last, env}
use denote.RattleType.{RattleType, owns}
use denote.Builtin.{u8}
use denote.Memory.{cell_at}
use denote.RawPtr.{Ptr, block_ptr, in_a_block}
use denote.Shadow.{pure_l}
use denote.Param.{param, bounded}
use denote.Param.Laws.{Laws, of_field}
use denote.Param.Shared.{copy_shared}
use denote.Struct.Field.{u8-field}
use denote.Struct.Laws.{u8-laws, u8-copy}
use denote.Signature.{types_at, plain}
use denote.Steps.{nothing, heard, opens, closes}
use denote.Triple.Call.{calls_at_last}
use denote.Triple.Table.{framed}
use denote.Triple.Walked.{Stays, stay_dropped, stay_ref, walk_of, Goes-dropped, Goes-ref}
use Rattle.std.specs.Allocator.{block_with_items}
use Rattle.std.specs.Prelude.{if◌then◌else◌}
use Rattle.std.proofs.alloc.Calls.{Al, seen, Answer-typed}
use Rattle.std.proofs.alloc.Resizes.{Grows, Resizes, at_resizes, left_by, Resizes-goes, Resizes-gives, Flagged, flagged}
use Rattle.std.proofs.alloc.Shapes.{after, head, arm_body}
use Rattle.std.proofs.raw_atomic.Walks.{proved_at, leaves}
use Rattle.teco_gap.proofs.Steps.{slot_at, then_runs, out_of_block}
use Rattle.teco_gap.proofs.Bytes.{region_val, region_own, region_told, region_made, items_made, items_told}
use Rattle.teco_gap.specs.Ownership.{region_owns}
use Rattle.teco_gap.specs.contracts.region.Region as region
use Rattle.teco_gap.specs.contracts.region.Region.grow.{ended, clauses}
use Rattle.teco_gap.specs.contracts.region.Region.grow.Key.{name as #self}
use Rattle.teco_gap.proofs.region.Region.grow.Statement.{statement}
use Rattle.teco_gap.proofs.region.Region.grow.Code as compiled

abbrev byte_laws : Laws u8
byte_laws = of_field u8-field u8-laws refl (copy_shared u8-field u8-copy)

pub grow_spec : {M : Type 1} → statement M
grow_spec 𝓤 𝓛 𝓜 𝓡 wired A L g d dd met md =
    let H = 𝓛.H in
    let En₀ = ended A g d dd in
    let c = clauses A g d dd 𝓛 𝓜.mem 𝓡.returns in
    let args : Args = bounded (a_type ∷ []) (A, tt) (dcons d (dcons dd dnil)) in
    let fn : Fn = inst_fn args compiled.function in
    let Z : RattleType = param 0 A in
    let R : RattleType = region.the_row Z g in
    let hs : Stays En₀.signature.params En₀.kept = (stay_ref (0 ∷ []) tt (plain (λ _. R)), (stay_dropped (slot_at 1 En₀.signature.params) En₀.kept.1.0, (stay_dropped (slot_at 2 En₀.signature.params) En₀.kept.1.1.0, tt))) in
    let C = (tables 𝓤 H 𝓜 𝓡 𝓡.env).C in
    let Λ = (tables 𝓤 H 𝓜 𝓡 𝓡.env).Λ in
    proved_at 𝓛 En₀ hs c 𝓜 𝓡 (Goes-ref 𝓛 3 0 tt (plain (λ _. R)), (Goes-dropped 𝓛 3 (slot_at 1 En₀.signature.params) En₀.kept.1.0 (λ κs x f. refl), (Goes-dropped 𝓛 3 (slot_at 2 En₀.signature.params) En₀.kept.1.1.0 (λ κs x f. refl), tt))) (#self args) fn (compiled.unfolded 𝓤 H 𝓜 𝓡 wired (A, tt) d dd) (λ z are.
    let Post : Val → SProp 𝓤 = (walk_of 𝓛 En₀ hs c).post z in
    let a = z.0.3 in
    let vss = z.0.4 in
    let Y : Al = record { row = A; laws = L; g = g; d = d; drops = dd } in
    let κ : Lft = z.0.0.0 in
    let κ₁ : Lft = z.0.0.1.0 in
    let κ₂ : Lft = z.0.0.1.1.0 in
    let q : Share = z.0.1.0 in
    let q₁ : Share = z.0.1.1.0 in
    let q₂ : Share = z.0.1.1.1.0 in
    let rb = a.0.ref_ptr.0 in
    let ro = a.0.ref_ptr.1 in
    let x = a.0.now in
    let h = a.1.0.now in
    let at = a.1.0.ref_ptr in
    let n = a.1.1.0 in
    let xs : List ℕ = x.bytes in
    let k = x.len in
    let cap = x.cap in
    let Asked : Type 0 = (x.alloc ≡ h) × (cap ≤ n) × (n < 2 ^ 63) in
    qed 𝓛 (((‵ (flft κ q) ⊛ ‵ (flft κ₁ q₁) ⊛ ‵ (flft κ₂ q₂) ⊛ ‵ ftrue) ⊛ ‵ (owns (types_at En₀.signature.params z.0.0) a vss)) ∷ (raw (fact 𝓤 (κ₂ ⊑ A.lives)) ⊛ raw (fact 𝓤 Asked)) ∷ []) ∵
    move ! (1 ∷ []) $ split ! $ heard ! (κ₂ ⊑ A.lives) (λ le. heard ! Asked (λ asked. split ! $ split ! $ move ! (2 ∷ []) $
    -- [what the parameters own; κ's token; the other tokens]
    fsplit ! $ fsplit3 ! $ drop ! $ move ! (2 ∷ []) $ fsplit ! $ fsplit ! $ drop ! $ move ! (1 ∷ []) $ drop ! $ use1 𝓛 (‵ (seen Y κ₁ at h)) (id⊢ 𝓤 _) $
    move ! (4 ∷ []) $ split3 ! $ move ! (2 ∷ []) $ drop ! $ move ! (3 ∷ 4 ∷ 5 ∷ []) $
    -- [self, in two entries; κ's token; κ₁'s; κ₂'s; the `&`]
    regoal ! (λ (us : List Val). prop (WpFn 𝓤 H C Λ fn us Post)) (λ i. are.0.0 i ++ (are.1.0.0 i ++ (are.1.1.0.0 i ++ []))) refl $
    enter ! C Λ fn (vptr rb ro ∷ vptr at.0 at.1 ∷ vint w64 n ∷ []) Post $
    alloc_all ! (λ l. pass_all ! refl ((tt, tt), ((tt, tt), ((tt, record { fits = are.1.1.0.1 }), tt))) $ let En : Env 𝓤 𝓛.H = env fn.locals l in
    opens ! tt R {h = x} rb ro (λ us. move ! (1 ∷ []) $ fsplit ! $ pure_l ! (region_own x.ptr k cap us) (λ sh.
    let told = region_told x.ptr k cap us sh in
    in_a_block ! x.ptr (λ r. region_owns (g.dealloc_token x.alloc) r k cap xs) (id⊢ 𝓤 (never 𝓤)) (λ b o placed.
    let t = g.dealloc_token h in
    let y = at_resizes Y u8 (Grows u8) 𝓛 𝓜.mem 𝓡.returns κ₁ κ₂ q₁ q₂ at h b o k cap n xs in
    let left = left_by Y u8 (Grows u8) 𝓛 𝓜.mem 𝓡.returns κ₁ κ₂ q₁ q₂ at h b o k cap n xs in
    rewrite ! 1 (λ (ws : List Val). ‵ (cell_at full_share R.mir ws rb ro)) (told.0 ∙ ap (λ (r : Ptr). region_val r k cap ∷ []) placed) refl $
    rewrite ! 0 (λ (u : A.Denot). ‵ (region_owns (g.dealloc_token u) (block_ptr b o) k cap xs)) asked.0 refl $
    use1 𝓛 (‵ (block_with_items t (param 1 u8) (block_ptr b o) k cap xs)) (items_made 𝓛 t xs k cap b o x.ok.0) $
    -- [the block; the struct; the open borrow, in three entries; κ₁'s token; κ₂'s; the `&`]
    first ! $ blocks ! $
    sets ! (of_opd ! (load ! (through ! refl (fld ! refl (stop !))) (look_in ! 1 (sub ! 0 refl (whole !))))) refl (tt, tt) $
    sets ! (of_opd ! (load ! (through ! refl (fld ! refl (stop !))) (look_in ! 1 (sub ! 1 refl (whole !))))) refl (tt, record { fits = told.1 }) $
    sets ! (of_opd ! (load ! (through ! refl (fld ! refl (stop !))) (look_in ! 1 (sub ! 2 refl (whole !))))) refl (tt, record { fits = told.2 }) $
    move ! (5 ∷ 6 ∷ []) $ join ! $ move ! (6 ∷ 0 ∷ []) $ join ! $ move ! (1 ∷ 0 ∷ []) $
    use2 𝓛 (raw ((Resizes Y u8 (Grows u8) 𝓛 𝓜.mem 𝓡.returns).pre y)) (Resizes-goes Y u8 (Grows u8) 𝓛 𝓜.mem 𝓡.returns κ₁ κ₂ q₁ q₂ at h b o k cap n xs (⊑_trans κ₁ κ₂ A.lives z.0.2.1.0 le) (⊑_static κ₂) (x.ok.1, asked.1, omega (arith, asked.2)) told.1 told.2 are.1.1.0.1) $
    calls_at_last ! (framed 𝓤 H 𝓜 (tables 𝓤 H 𝓜 𝓡 𝓡.env)) (Resizes Y u8 (Grows u8) 𝓛 𝓜.mem 𝓡.returns) (met.grow dd u8 byte_laws) y (and_then ! (get ! refl) (and_then ! (get ! refl) (and_then ! (get ! refl) (and_then ! (get ! refl) (and_then ! (get ! refl) (no_more !)))))) (λ v.
    use1 𝓛 (later (raw (ex 𝓤 (Flagged 𝓛 left v)) ⊛ ‵ (flft κ₁ q₁) ⊛ ‵ (flft κ₂ q₂))) (Resizes-gives Y u8 (Grows u8) 𝓛 𝓜.mem 𝓡.returns κ₁ κ₂ q₁ q₂ at h b o k cap n xs v) $ await ! tt $ split3 ! $
    -- [the answer's block; κ₁'s token; κ₂'s; the struct; the open borrow]
    flagged ! v left
    (λ b' o' e.
    let new : R.Denot = record { ptr = block_ptr b' o'; len = k; cap = n; marker = x.marker; alloc = x.alloc; bytes = xs; ok = (x.ok.0, omega (arith, x.ok.1, asked.1)); small = asked.2 } in
    regoal ! (λ (u : Val). settles En (place 6 []) u (out_of_block 𝓛 (then_runs 𝓛 C Λ En (after 1 fn.body) (at_ret En Post)))) e refl $ lands_last ! refl (Answer-typed true b' o') $
    exec ! C Λ En (after 1 fn.body) (at_ret En Post) $
    sets ! (of_opd ! (get ! refl)) refl (Answer-typed true b' o') $
    first ! $ switches_on ! (get_tag ! (vrt ! refl (fld ! refl (stop !))) (whole !)) $ exec ! C Λ En (arm_body 0 (head (after 2 fn.body))) (then_runs 𝓛 C Λ En (after 3 fn.body) (at_ret En Post)) $
    sets ! (of_opd ! (get_in ! (vrt ! refl (fld ! refl (stop !))) (in_variant ! 0 0 refl refl (whole !)))) refl (tt, tt) $
    assigns ! (of_opd ! (get ! refl)) (through ! refl (fld ! refl (stop !))) (store_in ! 3 (sub ! 0 refl (whole !)) (tt, tt)) $
    assigns ! (of_opd ! (get ! refl)) (through ! refl (fld ! refl (stop !))) (store_in ! 3 (sub ! 2 refl (whole !)) (tt, record { fits = are.1.1.0.1 })) $
    sets_last ! (of_opd ! (true_lit !)) refl (tt, tt) $
    exec ! C Λ En (after 3 fn.body) (at_ret En Post) $
    sets ! (of_opd ! (get ! refl)) refl (tt, tt) $
    use1 𝓛 (‵ (region_owns t (block_ptr b' o') k n xs)) (items_told 𝓛 t xs k n b' o') $ rewrite ! 0 (λ (u : A.Denot). ‵ (region_owns (g.dealloc_token u) (block_ptr b' o') k n xs)) (sym asked.0) refl $
    use0 𝓛 (‵ (region_own (block_ptr b' o') k n (region_val (block_ptr b' o') k n ∷ []))) (region_made 𝓛 (block_ptr b' o') k n told.1 are.1.1.0.1) $ fjoin ! $
    move ! (3 ∷ 0 ∷ 4 ∷ 5 ∷ 6 ∷ []) $ closes ! tt R new (region_val (block_ptr b' o') k n ∷ []) rb ro $
    returns ! (look_at ! 0 refl) $ free_all ! refl $
    -- [self, in two entries; κ's token; κ₁'s; κ₂'s]
    nothing ! $ move ! (5 ∷ 0 ∷ []) $ join ! $ move ! (4 ∷ 0 ∷ []) $ join ! $ move ! (3 ∷ 0 ∷ []) $ join ! $ move ! (1 ∷ 2 ∷ []) $ feq_i ! (List Val) vss.0 (vptr rb ro ∷ []) are.0.0 $ fjoin3 ! $
    nothing ! $ nothing ! $ fjoin ! $ nothing ! $ fjoin ! $ move ! (1 ∷ 0 ∷ []) $ fjoin ! $ feq_i ! (List Val) (vbool true ∷ []) (vbool true ∷ []) refl $
    use0 𝓛 (raw (fact 𝓤 (n ≡ (if true then n else cap)))) (fact_i 𝓤 (n ≡ (if true then n else cap)) (emp 𝓤) refl) $ use0 𝓛 (raw (fact 𝓤 ((xs ≡ xs) × (x.alloc ≡ x.alloc)))) (fact_i 𝓤 ((xs ≡ xs) × (x.alloc ≡ x.alloc)) (emp 𝓤) (refl, refl)) $ join ! $
    move ! (3 ∷ 2 ∷ 1 ∷ 0 ∷ []) $ by ! (leaves 𝓛 En₀ hs c z (vbool true) true (new, (tt, (tt, tt))) (tt, (tt, (tt, tt)))))
    (λ e.
    regoal ! (λ (u : Val). settles En (place 6 []) u (out_of_block 𝓛 (then_runs 𝓛 C Λ En (after 1 fn.body) (at_ret En Post)))) e refl $ lands_last ! refl (Answer-typed false 0 0) $
    exec ! C Λ En (after 1 fn.body) (at_ret En Post) $
    sets ! (of_opd ! (get ! refl)) refl (Answer-typed false 0 0) $
    first ! $ switches_on ! (get_tag ! (vrt ! refl (fld ! refl (stop !))) (whole !)) $ exec ! C Λ En (arm_body 1 (head (after 2 fn.body))) (then_runs 𝓛 C Λ En (after 3 fn.body) (at_ret En Post)) $
    sets_last ! (of_opd ! (false_lit !)) refl (tt, tt) $
    exec ! C Λ En (after 3 fn.body) (at_ret En Post) $
    sets ! (of_opd ! (get ! refl)) refl (tt, tt) $
    use1 𝓛 (‵ (region_owns t (block_ptr b o) k cap xs)) (items_told 𝓛 t xs k cap b o) $ rewrite ! 0 (λ (u : A.Denot). ‵ (region_owns (g.dealloc_token u) (block_ptr b o) k cap xs)) (sym asked.0) refl $
    rewrite ! 0 (λ (r : Ptr). ‵ (region_owns (g.dealloc_token x.alloc) r k cap xs)) (sym placed) refl $
    use0 𝓛 (‵ (region_own x.ptr k cap (region_val x.ptr k cap ∷ []))) (region_made 𝓛 x.ptr k cap told.1 told.2) $ fjoin ! $
    rewrite ! 3 (λ (r : Ptr). ‵ (cell_at full_share R.mir (region_val r k cap ∷ []) rb ro)) (sym placed) refl $
    move ! (3 ∷ 0 ∷ 4 ∷ 5 ∷ 6 ∷ []) $ closes ! tt R x (region_val x.ptr k cap ∷ []) rb ro $
    returns ! (look_at ! 0 refl) $ free_all ! refl $
    nothing ! $ move ! (5 ∷ 0 ∷ []) $ join ! $ move ! (4 ∷ 0 ∷ []) $ join ! $ move ! (3 ∷ 0 ∷ []) $ join ! $ move ! (1 ∷ 2 ∷ []) $ feq_i ! (List Val) vss.0 (vptr rb ro ∷ []) are.0.0 $ fjoin3 ! $
    nothing ! $ nothing ! $ fjoin ! $ nothing ! $ fjoin ! $ move ! (1 ∷ 0 ∷ []) $ fjoin ! $ feq_i ! (List Val) (vbool false ∷ []) (vbool false ∷ []) refl $
    use0 𝓛 (raw (fact 𝓤 (cap ≡ (if false then n else cap)))) (fact_i 𝓤 (cap ≡ (if false then n else cap)) (emp 𝓤) refl) $ use0 𝓛 (raw (fact 𝓤 ((xs ≡ xs) × (x.alloc ≡ x.alloc)))) (fact_i 𝓤 ((xs ≡ xs) × (x.alloc ≡ x.alloc)) (emp 𝓤) (refl, refl)) $ join ! $
    move ! (3 ∷ 2 ∷ 1 ∷ 0 ∷ []) $ by ! (leaves 𝓛 En₀ hs c z (vbool false) false (x, (tt, (tt, tt))) (tt, (tt, (tt, tt)))))))))))))
