-- How a string is turned: back, forth, or back to the state after its first steps.
use Rattle.std.specs.Prelude.{ℕ, List}
use Rattle.teco_undo.specs.Entry.{FitsBack, FitsForth, body_back, body_forth, since}
use Rattle.teco_undo.specs.Follows.{IsInOrder}
use Rattle.teco_store.specs.State.{Body}
use Rattle.teco_store.specs.Turn.{Note as Change}
use Rattle.teco_session.specs.Strings.{KeptString, string_back, string_cut, string_forth}
use Rattle.teco_session.specs.declared.entry.Turn.{Turn}
use Rattle.teco_session.specs.declared.entry.Turn.TheVariants.{Back, Forth, Cut}

-- These changes can be turned so, in a text with this room and so many bytes of stored output.
abbrev pub FitsTurn : Turn → ℕ → ℕ → List Change → Body → Type 0
FitsTurn Back room stored changes b = FitsBack room changes b
FitsTurn Forth room stored changes b = FitsForth room stored changes b
FitsTurn (Cut n) room stored changes b = FitsBack room changes b × IsInOrder changes

-- the body that they lead to
abbrev pub body_turned : Turn → List Change → Body → Body
body_turned Back changes b = body_back changes b
body_turned Forth changes b = body_forth changes b
body_turned (Cut n) changes b = body_back (since n changes) b

-- and the string with them
abbrev pub string_turned : Turn → KeptString → Body → KeptString
string_turned Back x b = string_back x b
string_turned Forth x b = string_forth x b
string_turned (Cut n) x b = string_cut n x
