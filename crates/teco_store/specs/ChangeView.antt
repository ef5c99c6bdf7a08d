-- What contracts see of a change.
use Rattle.std.specs.Prelude.{◌+◌, ◌≤◌, [], ◌∷◌, length, option_map}
use Rattle.std.specs.Arc.{arc_value}
use Rattle.std.specs.Vec.{vec_capacity}
use Rattle.teco_core.specs.Contents.{content_of}
use Rattle.teco_store.specs.Turn as turn
use Rattle.teco_store.specs.Turn.{Turn}
use Rattle.teco_store.specs.declared.change.PartValue.{PartValue}
use Rattle.teco_store.specs.declared.change.PartValue.TheVariants.{Small, Splice, Short, Lend, PutIn, TakeOut, Text, Push, TakeOff, PopInto, PutBack, Search}
use Rattle.teco_store.specs.declared.change.SmallChange.{SmallChange}
use Rattle.teco_store.specs.declared.change.SmallChange.TheVariants.{InsertByte, RemoveByte, Point, Number, Pages, Found, Done, Mode, HeldApart}
use Rattle.teco_store.specs.declared.short_text.TheConstants.{SHORT_LIMIT}

-- What lies in the change itself. The place of what is held apart says nothing by itself.
abbrev pub small_turn : SmallChange → Turn
small_turn (InsertByte at pointer byte) = turn.Splice at 0 pointer (byte ∷ [])
small_turn (RemoveByte at pointer) = turn.Splice at 1 pointer []
small_turn (Point pointer) = turn.Point pointer
small_turn (Number q number) = turn.Number q number
small_turn (Pages place end form_feed) = turn.Pages place end form_feed
small_turn (Found found) = turn.Found found
small_turn (Done done) = turn.Done done
small_turn (Mode mode) = turn.Mode mode
small_turn (HeldApart place) = turn.TakeOff

-- Its value lies in it.
abbrev pub IsHere : SmallChange → Type 0
IsHere (HeldApart place) = ⊥
IsHere s = Unit {0}

abbrev pub turn_of : PartValue → Turn
turn_of (Small small) = small_turn small
turn_of (Splice p held) = turn.Splice p.at p.len p.pointer held.items
turn_of (Short p held) = turn.Splice p.at p.len p.pointer held
turn_of (Lend l) = turn.Lend l.from l.len l.old_from l.old_len l.pointer
turn_of (PutIn text pointer) = turn.PutIn (arc_value text).items pointer
turn_of (TakeOut text pointer) = turn.TakeOut (arc_value text).items pointer
turn_of (Text q held) = turn.Text q held.items
turn_of (Push value) = turn.Push (content_of value)
turn_of TakeOff = turn.TakeOff
turn_of (PopInto q) = turn.PopInto q
turn_of (PutBack q value) = turn.PutBack q (content_of value)
turn_of (Search held) = turn.Search (option_map (λ v. v.items) held)

-- The bytes that stand in a place have room beside those that are held for it. A short text has the room that lies in the change.
abbrev pub HasRoom : PartValue → Type 0
HasRoom (Small small) = IsHere small
HasRoom (Splice p held) = p.len + length held.items ≤ vec_capacity held
HasRoom (Short p held) = p.len + length held ≤ SHORT_LIMIT
HasRoom k = Unit {0}
