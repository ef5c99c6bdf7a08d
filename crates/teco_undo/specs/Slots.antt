-- What lies in a slot of 12 bytes.
use Rattle.std.specs.Prelude.{ℕ, ◌+◌, ◌*◌, ◌<◌, ◌≤◌, ◌^◌, ◌/◌, ◌%◌}
use Rattle.teco_store.specs.declared.change.SmallChange.{SmallChange}
use Rattle.teco_store.specs.declared.change.SmallChange.TheVariants as small
use Rattle.teco_undo.specs.declared.slot.SlotValue.{SlotValue}
use Rattle.teco_undo.specs.declared.slot.SlotValue.TheVariants.{InsertByte, InsertByteAtTop, RemoveByte, Point, Number, Found, Done, Mode, HeldApart}
use Rattle.teco_undo.specs.declared.slot.Slot.{Slot}

-- the place and the pointer that share 16 bits and 32
abbrev pub slot_place : ℕ → ℕ
slot_place word = word % 16777216

abbrev pub slot_pointer : ℕ → ℕ → ℕ
slot_pointer low word = low + 65536 * (word / 16777216)

-- what a value stands for, beside so many steps
abbrev pub slot_value : ℕ → SlotValue → SmallChange
slot_value step (InsertByte byte low word) = small.InsertByte (slot_place word) (slot_pointer low word) byte
slot_value step (InsertByteAtTop byte at) = small.InsertByte at 16777216 byte
slot_value step (RemoveByte low word) = small.RemoveByte (slot_place word) (slot_pointer low word)
slot_value step (Point pointer) = small.Point pointer
slot_value step (Number q number) = small.Number q number
slot_value step (Found found) = small.Found found
slot_value step (Done done) = small.Done done
slot_value step (Mode mode) = small.Mode mode
slot_value step (HeldApart low) = small.HeldApart (low + 4294967296 * step)

abbrev pub small_of : Slot → SmallChange
small_of s = slot_value s.step s.value

-- It has its place in a slot. The byte that an insertion puts in is among the first 2^24 then, and a deletion leaves less.
abbrev pub FitsSlot : SmallChange → Type 0
FitsSlot (small.InsertByte at pointer byte) = (at < 2 ^ 24) × (pointer ≤ 2 ^ 24)
FitsSlot (small.RemoveByte at pointer) = (at < 2 ^ 24) × (pointer < 2 ^ 24)
FitsSlot (small.Pages place end form_feed) = ⊥
FitsSlot (small.HeldApart place) = ⊥
FitsSlot s = Unit {0}

-- It is of a kind that slots have. The places of pages take more, and lie apart.
abbrev pub HasSlot : SmallChange → Type 0
HasSlot (small.Pages place end form_feed) = ⊥
HasSlot (small.HeldApart place) = ⊥
HasSlot s = Unit {0}
