-- What a call of a sink does to its count of failures, and what a terminal over a sink is over.
use Rattle.std.specs.Prelude.{◌≡◌, ℕ, Option, Some, IfSome, Result, Ok, Err, Bool, true, ◌==◌}
use Rattle.teco_io.specs.Terminal.{count_after}
use Rattle.teco_io.specs.declared.writer_terminal.WriterTerminal.{WriterTerminal}

-- a write that is refused, or that takes no byte
abbrev pub takes_nothing : {E : Type 0} → Result ℕ E → Bool
takes_nothing (Ok n) = n == 0
takes_nothing (Err error) = true

-- A count of failures, where it is told, rose by one if and only if the call failed.
abbrev pub Counts : Option ℕ → Option ℕ → Bool → Type 0
Counts old new failed = IfSome old (λ n. new ≡ Some (count_after failed n))

-- the sink that a terminal writes to
abbrev pub sink_of : {S : Type 0} → WriterTerminal S → S
sink_of terminal = terminal.sink
