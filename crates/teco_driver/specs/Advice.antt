-- What is told besides of a source that may be a file of bytes, which `-b` takes.
use Rattle.std.specs.Prelude.{ℕ, List, [], codes, Bool, ◌==◌, if◌then◌else◌}
use Rattle.std.specs.List.{list_any}
use Rattle.teco_core.specs.declared.ascii.TheConstants.{ESC}
use Rattle.teco_driver.specs.declared.sources.ReadSource.{ReadSource}

-- a source writes a dollar sign for ESC, and a file of bytes has the ESC itself
abbrev pub has_escape : List ℕ → Bool
has_escape source = list_any (λ b. b == ESC) source

abbrev pub bytes_advice : Bool → List ℕ
bytes_advice has = if has then codes "; teco -b takes the bytes of a file as they are" else []

-- one of the sources of a line has it
abbrev pub are_escaped : List ReadSource → Bool
are_escaped parts = list_any (λ part. has_escape part.source.items) parts

abbrev pub advice_of : List ReadSource → List ℕ
advice_of parts = bytes_advice (are_escaped parts)
