-- What the calls for the file of a session do.
use Rattle.std.specs.Prelude.{ℕ, List, Option, Some, None}
use Rattle.teco_session.specs.Kept.{history_of}
use Rattle.teco_ffi.specs.Handle.{Kept}
use Rattle.teco_ffi.specs.Resuming.{IsResumed}
use Rattle.teco_ffi.specs.declared.resuming.Resumed.{Resumed}

-- The handle is open, and its session is the one that these bytes tell.
abbrev pub IsOpenedAgain : List ℕ → Resumed → Option Kept → Type 0
IsOpenedAgain bytes told None = ⊥
IsOpenedAgain bytes told (Some kept) = IsResumed bytes told (history_of kept)
