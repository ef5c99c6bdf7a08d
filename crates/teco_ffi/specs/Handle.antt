-- What a handle owns, of a session or of a flag.
use Rattle.std.specs.Prelude.{◌≡◌, Option}
use Rattle.std.specs.Coded.{Coded, coded_option}
use base.Fml.{Fml, ftrue, fex}
use denote.RattleType.{RattleType}
use denote.RawPtr.{Ptr, null_ptr}
use Rattle.std.specs.declared.option.Option.TheVariants.{None, Some}
use Rattle.std.specs.Box.Ownership.{box_owns}
use Rattle.std.specs.Global.{Global}
use Rattle.std_heap.specs.contracts.GlobalAllocator.TheImpl.{ghosts}
use Rattle.teco_session.specs.contracts.session.Session.{the_row}

-- a session as it is kept
abbrev pub Kept : Type 0
Kept = the_row.Denot

-- Nothing where it is closed, and then it is null; else the same as a box of what lies behind it.
abbrev pub holds : (R : RattleType) → Global → Ptr → Option R.Denot → Fml
holds R alloc p None = fex (p ≡ null_ptr) (λ _. ftrue)
holds R alloc p (Some x) = box_owns (ghosts.dealloc_token alloc) R p x

abbrev pub coded_held : Coded (Option Kept)
coded_held = coded_option the_row.coded

-- An open handle stays open, and its session goes so.
abbrev pub SessionGoes : Option Kept → Option Kept → (Kept → Kept → Type 0) → Type 0
SessionGoes None new way = Unit {0}
SessionGoes (Some old) None way = ⊥
SessionGoes (Some old) (Some new) way = way old new
