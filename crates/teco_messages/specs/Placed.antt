-- What is shown of where a run stands.
use Rattle.std.specs.Prelude.{ℕ, ◌+◌, ◌-◌, List, [], ◌∷◌, ◌++◌, codes, Option, Some, None, nat_lt, slice_get, if◌then◌else◌}
use Rattle.teco_core.specs.Register.{Content, content}
use Rattle.teco_exec.specs.declared.place.Call.{Call}
use Rattle.teco_exec.specs.declared.place.Place.{Place}
use Rattle.teco_messages.specs.Shown.{place_shown}
use Prim.Native.Char.{code}

-- the letter or the digit that names a register
abbrev pub register_name : ℕ → ℕ
register_name q = if nat_lt q 26 then code "A" + q else code "0" - 26 + q

abbrev pub text_of_call : Option Call → List Content → List ℕ → List ℕ
text_of_call (Some call) registers string = (content registers call.register).text
text_of_call None registers string = string

-- the text that is under the latest so many of the open calls: what a register holds now, or the string
abbrev pub text_under : Place → ℕ → List Content → List ℕ → List ℕ
text_under place depth registers string = text_of_call (slice_get place.calls.items depth) registers string

abbrev pub name_shown : ℕ → List ℕ
name_shown register = register_name register ∷ codes " "

abbrev pub name_of_call : Option Call → List ℕ
name_of_call (Some call) = name_shown call.register
name_of_call None = []

-- the register whose text is run, if one is called, and the place in the text that is run
abbrev pub standing_shown : Place → List Content → List ℕ → List ℕ
standing_shown place registers string =
    name_of_call (slice_get place.calls.items 0) ++ place_shown (text_under place 0 registers string) place.at

-- the register and the place of an open call of a text
abbrev pub call_in_shown : Call → List ℕ → List ℕ
call_in_shown call text = name_shown call.register ++ codes "is called at " ++ place_shown text call.at

abbrev pub call_of_shown : Option Call → List ℕ → List ℕ
call_of_shown None text = []
call_of_shown (Some call) text = call_in_shown call text

-- an open call, of which k are later
abbrev pub call_shown : Place → ℕ → List Content → List ℕ → List ℕ
call_shown place k registers string =
    call_of_shown (slice_get place.calls.items k) (text_under place (k + 1) registers string)
