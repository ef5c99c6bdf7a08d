-- How the bytes of a string are spelled.
use Rattle.std.specs.Prelude.{ℕ, ◌==◌, if◌then◌else◌}
use Rattle.teco_core.specs.declared.ascii.TheConstants.{ESC}
use Prim.Native.Char.{code}

-- the byte that a byte of a string stands for where a dollar sign is ESC
abbrev pub escaped : ℕ → ℕ
escaped b = if b == code "$" then ESC else b
