-- What contracts see of a list of changes.
use Rattle.std.specs.Prelude.{◌≡◌, ℕ, suc, ◌-◌, ◌^◌, List, [], ◌∷◌, length, map, min, nat_lt, if◌then◌else◌, slice_index_or}
use Rattle.std.specs.Vec.{vec_capacity}
use Rattle.teco_store.specs.ChangeView.{small_turn}
use Rattle.teco_store.specs.Turn.{TakeOff, Note}
use Rattle.teco_store.specs.declared.change.SmallChange.{SmallChange}
use Rattle.teco_store.specs.declared.change.SmallChange.TheVariants.{HeldApart}
use Rattle.teco_undo.specs.Slots.{small_of}
use Rattle.teco_undo.specs.declared.slot.Slot.{Slot}
use Rattle.teco_undo.specs.declared.change_list.ChangeList.TheInside.{Inside}

-- the changes in order, and how many more have room: at all, and of those that are held apart
pub record ChangeListing : Type 0 where
  pub items : List Note
  pub spare : ℕ
  pub apart : ℕ

-- A change is read at its place; past the end it is this one.
abbrev pub no_note : Note
no_note = record { step = 0; turn = TakeOff }

-- what a slot is for: by itself, or the one of those held apart at its place
abbrev pub slot_note : List Note → ℕ → SmallChange → Note
slot_note apart step (HeldApart place) = slice_index_or apart place no_note
slot_note apart step s = record { step = step; turn = small_turn s }

abbrev pub note_of_slot : List Note → Slot → Note
note_of_slot apart s = slot_note apart s.step (small_of s)

-- The next of those that are held apart, where the slot is of such a one, has the number `n`.
abbrev pub IsNextApart : ℕ → SmallChange → Type 0
IsNextApart n (HeldApart place) = place ≡ n
IsNextApart n s = Unit {0}

-- the number of the one after it
abbrev pub next_after : ℕ → SmallChange → ℕ
next_after n (HeldApart place) = suc n
next_after n s = n

-- The places of those that are held apart are n, n + 1 and so on up to `end`, in the order of the slots.
abbrev pub AreInPlace : ℕ → List Slot → ℕ → Type 0
AreInPlace n [] end = n ≡ end
AreInPlace n (s ∷ slots) end = IsNextApart n (small_of s) × AreInPlace (next_after n (small_of s)) slots end

abbrev pub listed_in : Inside → ChangeListing
listed_in c = record {
  items = map (note_of_slot c.apart.items) c.slots.items;
  spare = vec_capacity c.slots - length c.slots.items;
  apart = vec_capacity c.apart - length c.apart.items;
}

abbrev pub IsChangeListing : Inside → Type 0
IsChangeListing c = AreInPlace 0 c.slots.items (length c.apart.items)

-- How many more changes have room after so many steps. From 2 ^ 32 steps on each of them is held apart.
unfoldable pub spare_after : ℕ → ChangeListing → ℕ
spare_after steps c = if nat_lt steps (2 ^ 32) then c.spare else min c.spare c.apart
