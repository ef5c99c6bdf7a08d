-- Typing.
use Rattle.std.specs.Prelude.{ℕ, ℤ, List, [], ◌∷◌, ◌++◌, take, drop, pos, true, ◌==◌, if◌then◌else◌, codes}
use Rattle.std.specs.Fmt.{digits, signed_decimal}
use Rattle.teco_core.specs.declared.code.Code.TheVariants.{Arg, Nae}
use Rattle.teco_core.specs.Refusal.{◌>>=◌}
use Rattle.teco_core.specs.Number.{to_word}
use Rattle.teco_core.specs.Arguments.{Arguments}
use Rattle.teco_scan.specs.declared.command.Modifiers.{Modifiers}
use Rattle.teco_store.specs.State.{State}
use Rattle.teco_step.specs.declared.typing.Base.{Base}
use Rattle.teco_step.specs.declared.typing.Base.TheVariants as base
use Rattle.teco_step.specs.Line.{line}
use Rattle.teco_step.specs.Step.{Made, types, takes_none, takes_one, takes_reach, as_byte, rising, Range}

-- the bytes of the text in a range
abbrev pub part : State → Range → List ℕ
part s r = drop r.low (take r.high s.text)

-- These bytes are typed.
abbrev pub shows : List ℕ → State → Arguments → Made
shows bytes s a = types s bytes

-- nT: types what n lines reach; m,nT: types the range.
abbrev pub type_out : State → Arguments → Made
type_out s a = do
  r ← takes_reach s a
  types s (part s r)

-- what 0T and T reach together: the line that the pointer is in
abbrev pub around : State → Range
around s = record {
  low = (rising s.pointer (line s.text s.pointer (pos 0))).low;
  high = (rising s.pointer (line s.text s.pointer (pos 1))).high;
}

-- V: types the line that the pointer is in.
abbrev pub view : State → Arguments → Made
view s a = do
  none ← takes_none a
  types s (part s (around s))

-- n^T: types the byte n.
abbrev pub type_byte : State → Arguments → Made
type_byte s a = do
  n ← takes_one Arg a
  b ← as_byte n
  types s (b ∷ [])

-- bytes that are a line, and so end with CR LF; with a colon nothing follows them
abbrev pub ended : Modifiers → List ℕ → List ℕ
ended m bytes = if m.colons == 1 then bytes else bytes ++ codes "\r\n"

-- n in decimal, or the 32-bit two's complement of n in octal or in hexadecimal, with capitals
abbrev pub numeral : Base → ℤ → List ℕ
numeral base.Decimal n = signed_decimal n
numeral base.Octal n = digits 8 true (to_word n)
numeral base.Hexadecimal n = digits 16 true (to_word n)

-- n= types n in decimal, n== in octal, and n=== in hexadecimal.
abbrev pub print : Base → Modifiers → State → Arguments → Made
print b m s a = do
  n ← takes_one Nae a
  types s (ended m (numeral b n))

-- ^Atext^A: types its text.
abbrev pub type_text : List ℕ → State → Arguments → Made
type_text text s a = do
  none ← takes_none a
  types s text
