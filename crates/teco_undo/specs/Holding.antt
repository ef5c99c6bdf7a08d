-- What holds a text that goes, until its change is noted.
use Rattle.std.specs.Prelude.{◌≡◌, ℕ, ◌+◌, [], ◌==◌, if◌then◌else◌, length, Option, Some, None}
use Rattle.std.specs.Vec.{vec_capacity}
use Rattle.teco_store.specs.Page.{IsAsRead}
use Rattle.teco_store.specs.State.{Body}
use Rattle.teco_undo.specs.declared.held.Held.{Held}
use Rattle.teco_undo.specs.declared.held.Held.TheVariants.{Input, Memory}

-- the place in the input of a text that it holds
abbrev pub place_of : Held → Option ℕ
place_of (Input from) = Some from
place_of (Memory v) = None

-- What is to hold so many bytes of a text at a place can hold them, and those that come for them, and no more. The input holds a whole page.
abbrev pub CanHold : Body → ℕ → ℕ → ℕ → Held → Type 0
CanHold b at there came (Input from) = ((at ≡ 0) × (there ≡ length b.text)) × IsAsRead b from
CanHold b at there came (Memory v) = (v.items ≡ []) × (vec_capacity v ≡ there + came)

-- how many of the changes of a splice are held apart, which has so many bytes on both its sides: a single byte lies in the change
abbrev pub held_apart : ℕ → ℕ
held_apart bytes = if bytes == 1 then 0 else 1
