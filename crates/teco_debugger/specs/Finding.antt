-- What changed a part of the state last.
use Rattle.std.specs.Prelude.{◌≡◌, ℕ, ◌≤◌, Bool, true, false, List, [], ◌∷◌, ◌==◌, Option, Some, None, if◌then◌else◌}
use Rattle.teco_core.specs.Register.{content}
use Rattle.teco_store.specs.Kinds.{kind_of}
use Rattle.teco_store.specs.State.{StateOver}
use Rattle.teco_store.specs.Turn.{Note}
use Rattle.teco_store.specs.declared.change_kind.ChangeKind.{ChangeKind}
use Rattle.teco_store.specs.declared.change_kind.ChangeKind.TheVariants.{Splice, Point, Number, Text, Push, Pop, Pages, Search, Found, Done, Mode}
use Rattle.teco_debugger.specs.Walk.{KeptWalk, base, meant, state_there}
use Rattle.teco_debugger.specs.declared.part.Part.{Part}
use Rattle.teco_debugger.specs.declared.part.Part.TheVariants.{Buffer, Register}

-- A change of this kind is for the part: a splice for the text; for a register its number, its text, or both
-- where a value is popped into it.
abbrev pub is_for : Part → ChangeKind → Bool
is_for Buffer (Splice at gone came) = true
is_for (Register q) (Number r) = r == q
is_for (Register q) (Text r) = r == q
is_for (Register q) (Pop r) = r == q
is_for Buffer Point = false
is_for Buffer (Number r) = false
is_for Buffer (Text r) = false
is_for Buffer Push = false
is_for Buffer (Pop r) = false
is_for Buffer Pages = false
is_for Buffer Search = false
is_for Buffer Found = false
is_for Buffer Done = false
is_for Buffer Mode = false
is_for (Register q) (Splice at gone came) = false
is_for (Register q) Point = false
is_for (Register q) Push = false
is_for (Register q) Pages = false
is_for (Register q) Search = false
is_for (Register q) Found = false
is_for (Register q) Done = false
is_for (Register q) Mode = false

-- the steps that were done before a change, if it is for the part
abbrev pub step_before : Part → Note → Option ℕ
step_before part note = if is_for part (kind_of note.turn) then Some note.step else None

abbrev pub or_else : Option ℕ → Option ℕ → Option ℕ
or_else (Some step) other = Some step
or_else None other = other

-- the same of the last of these changes that is for the part; they are in order, the first first
unfoldable pub last_change : Part → List Note → Option ℕ
last_change part [] = None
last_change part (note ∷ notes) = or_else (last_change part notes) (step_before part note)

-- the part is the same in two states: the text of the buffer, or what the register holds
abbrev pub SamePart : {O : Type 0} → Part → StateOver O → StateOver O → Type 0
SamePart Buffer s t = t.text ≡ s.text
SamePart (Register q) s t = content t.registers q ≡ content s.registers q

-- After each step that is done, from so many on, the part is as it is where the walk stands.
abbrev pub IsAsNowFrom : ℕ → Part → KeptWalk → Type 0
IsAsNowFrom n part w = (i : ℕ) → n ≤ i → i ≤ w.steps → SamePart part (meant (base w) w.text i).state (state_there w)
