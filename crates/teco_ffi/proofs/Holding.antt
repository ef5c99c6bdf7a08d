-- What a handle holds, whatever lies behind it. Assumes `Logic`.
--     either_held            a closed handle is null, and an open one has a block that may be compared with null
use Rattle.std.proofs.Common.{◌≡◌, ℕ, List, ◌∷◌, refl}
use seplogic.Ra.Ura.{Ura}
use mir.Raw.{raw as bare}
use base.Logic.{ent, guard, never, fst∗, snd∗, via, guard_i}
use base.Fraction.{full_share}
use contract.Monad.{fact_use}
use types.Logic.{Logic, sem}
use types.Kit.{Item, Goal, Seq, ‵, given, ◌$◌, drop, fpick, use1, learn}
use denote.RattleType.{RattleType}
use denote.RawPtr.{Ptr, block_ptr, null_ptr, in_a_block, lies_at, Testable}
use denote.Memory.{lone}
use Rattle.std.specs.declared.option.Option.{Option}
use Rattle.std.specs.declared.option.Option.TheVariants.{None, Some}
use Rattle.std_alloc.specs.Box.Ownership.{box_owns}
use Rattle.std_heap.specs.declared.Global.{Global}
use Rattle.std_heap.specs.contracts.GlobalAllocator.TheImpl.{ghosts}
use Rattle.std_heap.proofs.GlobalToken.{dealloc_token-Testable}
use Rattle.teco_ffi.specs.Handle.{holds}

module _ (R : RattleType) where
  abbrev pub held : Global → Ptr → R.Denot → base.Fml.Fml
  held a p x = box_owns (ghosts.dealloc_token a) R p x

  module _ {M : Type 1} {𝓤 : Ura M} (𝓛 : Logic 𝓤) where
    pub tested : (a : Global) (p : Ptr) (x : R.Denot) → ent 𝓤 (sem 𝓛 (held a p x)) (guard 𝓤 (Testable p) (sem 𝓛 (held a p x)))
    tested a p x = fact_use 𝓤 (Testable p) (via 𝓤 _ (snd∗ 𝓤 (sem 𝓛 (lies_at R full_share p x)) (sem 𝓛 (ghosts.dealloc_token a (bare (lone R.mir)) p)))
        (dealloc_token-Testable 𝓛 a (bare (lone R.mir)) p)) (guard_i 𝓤 (Testable p) (sem 𝓛 (held a p x)))

  module _ {M : Type 1} {𝓤 : Ura M} {𝓛 : Logic 𝓤} {K : Type 0} {Γ : List (Item 𝓤)} {G : Goal 𝓤 𝓛.H} where
    pub either_held : K → (a : Global) (p : Ptr) (k : Option R.Denot) → (p ≡ null_ptr → k ≡ None → Seq K 𝓛 Γ G)
        → ((b o : ℕ) (x : R.Denot) → p ≡ block_ptr b o → k ≡ Some x → Testable (block_ptr b o) → Seq K 𝓛 (‵ (held a (block_ptr b o) x) ∷ Γ) G) → Seq K 𝓛 (‵ (holds R a p k) ∷ Γ) G
    either_held t a p None no_one one = fpick t (λ e. drop t $ no_one e refl)
    either_held t a p (Some x) no_one one = in_a_block t p (λ q. held a q x) (fst∗ 𝓤 (never 𝓤) (sem 𝓛 (ghosts.dealloc_token a (bare (lone R.mir)) null_ptr))) (λ b o e.
        use1 𝓛 (given (Testable (block_ptr b o)) (‵ (held a (block_ptr b o) x))) (tested 𝓛 a (block_ptr b o) x) $ learn t (λ w. one b o x e refl w))
