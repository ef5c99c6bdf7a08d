-- A reader, as what it has read.
use Rattle.std.specs.Prelude.{◌≡◌, ℕ, List, [], ◌∷◌, ◌++◌, Option, Some, None, Result, Ok, Err, ⊤}
use Rattle.std.specs.declared.alloc.Global.{Global}
use Rattle.std.specs.declared.vec.Vec.{Vec}
use Rattle.teco_source.specs.declared.reader.Reader.{Reader}
use Rattle.teco_source.specs.declared.reader.Marked.{Marked}
use Rattle.teco_source.specs.declared.reader.Marked.TheVariants as caret
use Rattle.teco_source.specs.declared.reader.ReaderFault.{ReaderFault}
use Rattle.teco_source.specs.declared.reader.ReaderFault.TheVariants as fault
use Rattle.teco_source.specs.declared.reader.Mode.TheVariants.{Text}
use Rattle.teco_source.specs.Source.{State}

abbrev pub state_of : Reader → State
state_of r = record { mode = r.mode; bytes = r.bytes.items; blanks = r.blanks.items }

abbrev pub marked_of : Marked → Option (List ℕ)
marked_of (caret.Byte b) = Some (b ∷ [])
marked_of caret.Nothing = Some []
marked_of caret.Wrong = None

-- the blanks are bytes too
abbrev pub kept : State → State
kept s = record { mode = Text; bytes = s.bytes ++ s.blanks; blanks = [] }

-- What was read is what it was to be; or it wasn't read, for want of memory.
abbrev pub IsReadAs : Result (List ℕ) ℕ → Result (Vec ℕ Global) ReaderFault → Type 0
IsReadAs read (Ok v) = read ≡ Ok v.items
IsReadAs read (Err (fault.Caret at)) = read ≡ Err at
IsReadAs read (Err fault.Memory) = ⊤
