-- What a call has told of a handle, from what the handle holds.
use Rattle.std.proofs.Common.{◌≡◌, ◌≤◌, ◌<◌, ℕ, List, Option, Some, None, length, option_map, ap, sym, refl, subst}
use Rattle.std.proofs.lemmas.Option.{slice_get-get_or, slice_get_past}
use Rattle.teco_session.specs.History.{NotedString, note_at}
use Rattle.teco_session.specs.Kept.{history_of, string_at}
use Rattle.teco_ffi.specs.Calls.{StaysClosed}
use Rattle.teco_ffi.specs.Handle.{Kept, SessionGoes}
use Rattle.teco_c.specs.Changes.{changes_of}
use Rattle.teco_c.specs.Looks.{TellsIf, IsTold, CopiesIf, IsCopied, string_of}
use Rattle.teco_ffi.specs.Rooms.{filled}
use Rattle.teco_ffi.specs.declared.answers.TheConstants.{CLOSED, OUTSIDE}

-- The handle is closed.
module _ (held : Option Kept) (closed : held ≡ None) where
  pub TellsIf-closed : {A : Type 0} (nothing : A) (part : Kept → Option A) → TellsIf nothing held CLOSED nothing part
  TellsIf-closed nothing part = subst (λ v. TellsIf nothing v CLOSED nothing part) (sym closed) (refl, refl)

  pub CopiesIf-closed : (room : List ℕ) (part : Kept → Option (List ℕ)) → CopiesIf held room room part
  CopiesIf-closed room part = subst (λ v. CopiesIf v room room part) (sym closed) refl

module _ (held : Option Kept) (kept : Kept) (open_with : held ≡ Some kept) where
  -- It is open, and what is asked about is not there.
  pub TellsIf-outside : {A : Type 0} (nothing : A) (part : Kept → Option A) → part kept ≡ None → TellsIf nothing held OUTSIDE nothing part
  TellsIf-outside nothing part none =
      subst (λ v. TellsIf nothing v OUTSIDE nothing part) (sym open_with)
      (subst (λ p. IsTold nothing p OUTSIDE nothing) (sym none) (refl, refl))

  pub CopiesIf-outside : (room : List ℕ) (part : Kept → Option (List ℕ)) → part kept ≡ None → CopiesIf held room room part
  CopiesIf-outside room part none =
      subst (λ v. CopiesIf v room room part) (sym open_with) (subst (λ p. IsCopied p room room) (sym none) refl)

  -- It is open, and has it.
  pub TellsIf-there : {A : Type 0} (nothing : A) (part : Kept → Option A) (x : A) → part kept ≡ Some x → TellsIf nothing held 0 x part
  TellsIf-there nothing part x some =
      subst (λ v. TellsIf nothing v 0 x part) (sym open_with)
      (subst (λ p. IsTold nothing p 0 x) (sym some) (refl, refl))

  pub CopiesIf-there : (room after bytes : List ℕ) (part : Kept → Option (List ℕ)) → part kept ≡ Some bytes → after ≡ filled room bytes → CopiesIf held room after part
  CopiesIf-there room after bytes part some copied =
      subst (λ v. CopiesIf v room after part) (sym open_with) (subst (λ p. IsCopied p room after) (sym some) copied)

-- A part of a string that the history has, and of one that it has not.
pub string_there : {A : Type 0} (kept : Kept) (i count : ℕ) (part : NotedString → A) → count ≡ length (history_of kept).notes → i < count → option_map part (string_of i kept) ≡ Some (part (note_at (history_of kept) i))
string_there kept i count part is there = ap (option_map part) (slice_get-get_or (history_of kept).notes i _ (subst (λ n. i < n) is there))

pub string_past : {A : Type 0} (kept : Kept) (i count : ℕ) (part : NotedString → A) → count ≡ length (history_of kept).notes → count ≤ i → option_map part (string_of i kept) ≡ None
string_past kept i count part is past = ap (option_map part) (slice_get_past (history_of kept).notes i (subst (λ n. n ≤ i) is past))

-- The changes of a string that is kept, and of one that is not.
pub changes_there : (kept : Kept) (i count : ℕ) → count ≡ length kept.strings → i < count → changes_of i kept ≡ Some (string_at kept i).changes
changes_there kept i count is there = ap (option_map (λ string. string.changes)) (slice_get-get_or kept.strings i _ (subst (λ n. i < n) is there))

pub changes_past : (kept : Kept) (i count : ℕ) → count ≡ length kept.strings → count ≤ i → changes_of i kept ≡ None
changes_past kept i count is past = ap (option_map (λ string. string.changes)) (slice_get_past kept.strings i (subst (λ n. n ≤ i) is past))

-- What a call that runs a session did, where the handle is closed, and where it is open.
pub SessionGoes-closed : (way : Kept → Kept → Type 0) (held new : Option Kept) → held ≡ None → SessionGoes held new way
SessionGoes-closed way held new closed = subst (λ v. SessionGoes v new way) (sym closed) tt

pub StaysClosed-closed : (held : Option Kept) → held ≡ None → StaysClosed held CLOSED held
StaysClosed-closed held closed = subst (λ v. StaysClosed v CLOSED v) (sym closed) (refl, refl)

pub StaysClosed-open : (held new : Option Kept) (old : Kept) (code : ℕ) → held ≡ Some old → StaysClosed held code new
StaysClosed-open held new old code open_with = subst (λ v. StaysClosed v code new) (sym open_with) tt
