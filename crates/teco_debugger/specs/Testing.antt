-- Strings that are tried at a place. Each gives a number there, or none.
use Rattle.std.specs.Prelude.{ℕ, Bool, true, false, ◌&&◌, not, List, ◌++◌, codes, is_none, Option, Some, None}
use Rattle.std.specs.declared.alloc.Global.{Global}
use Rattle.std.specs.declared.vec.Vec.{Vec}
use Prim.Native.Char.{code}
use Rattle.teco_core.specs.Register.{content, register_of}
use Rattle.teco_store.specs.State.{State}
use Rattle.teco_exec.specs.StringMeaning.{StringMeaning, string_meaning}
use Rattle.teco_debugger.specs.Listing.{is_nought}
use Rattle.teco_debugger.specs.Walk.{KeptWalk, base, meant}
use Rattle.teco_debugger.specs.declared.testing.TheConstants.{TEST_STEPS}

-- what a string means over a state with `UZ` behind it, which puts the number that it gives into register Z; under a limit of steps
abbrev pub tried : State → List ℕ → StringMeaning
tried state test = string_meaning state (test ++ codes "UZ") TEST_STEPS

-- a register holds another number than 0
abbrev pub holds_in : Option ℕ → State → Bool
holds_in (Some q) s = not (is_nought (content s.registers q).number)
holds_in None s = false

-- register Z does
abbrev pub holds_number : State → Bool
holds_number s = holds_in (register_of (code "Z")) s

-- It gave a number other than 0: it ended by no code and by no exit, and register Z holds that number.
abbrev pub is_yes : StringMeaning → Bool
is_yes m = is_none m.code && (not m.state.is_done && holds_number m.state)

-- It does so over the state after n steps of the walk's string; or there is no string.
abbrev pub is_met : KeptWalk → ℕ → Option (Vec ℕ Global) → Bool
is_met walk n (Some test) = is_yes (tried (meant (base walk) walk.text n).state test.items)
is_met walk n None = true
