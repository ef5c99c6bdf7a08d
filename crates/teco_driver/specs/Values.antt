-- What a line puts into registers before the first command string.
use Rattle.std.specs.Prelude.{ℕ, zero, suc, List, [], ◌∷◌, Bool, false, ◌&&◌, ◌||◌}
use Rattle.teco_core.specs.Register.{Content, blank_registers, content, with_number, with_text}
use Rattle.teco_check.specs.Checked.{held}
use Rattle.teco_cli.specs.declared.assignment.AssignedValue.{AssignedValue}
use Rattle.teco_cli.specs.declared.assignment.AssignedValue.TheVariants.{Text, Number}
use Rattle.teco_cli.specs.declared.assignment.Assignment.{Assignment}
use Rattle.teco_cli.specs.declared.line.Line.{Line}
use Rattle.teco_store.specs.State.{State}

-- A text is put into a register, whose number stays; or a number, and the text stays.
abbrev pub put_into : List Content → ℕ → AssignedValue → List Content
put_into registers q (Text text) = with_text registers q text.items
put_into registers q (Number number) = with_number registers q number

-- The registers after some values, in order: of several for one register the last one stands.
abbrev pub assigned : List Assignment → List Content → List Content
assigned [] registers = registers
assigned (a ∷ more) registers = assigned more (put_into registers a.register a.value)

-- a state with these values in its registers
abbrev pub with_values : List Assignment → State → State
with_values values s = record s { registers = assigned values s.registers }

-- what the registers hold before the first command string
abbrev pub registers_of : Line → List Content
registers_of line = assigned line.values.items blank_registers

-- One of the first n registers holds code, and its text is wrong in this way.
unfoldable pub holds_wrong : ℕ → (List ℕ → Bool) → List Bool → List Content → Bool
holds_wrong zero wrong code registers = false
holds_wrong (suc q) wrong code registers = holds_wrong q wrong code registers
    || (held code q && wrong (content registers q).text)

-- one of all does
abbrev pub hold_wrong : (List ℕ → Bool) → List Bool → List Content → Bool
hold_wrong wrong code registers = holds_wrong 36 wrong code registers
