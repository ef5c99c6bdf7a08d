-- Registers: 36 of them, A to Z and 0 to 9, each with a number and a text.
use Rattle.std.specs.Prelude.{ℕ, ◌+◌, ◌-◌, List, [], Option, Some, None, ℤ, pos, replicate, slice_index_or, slice_set, if◌then◌else◌}
use Rattle.teco_core.specs.Ascii.{is_digit, is_upper, upper}

-- A to Z are the registers 0 to 25, 0 to 9 the registers 26 to 35
abbrev pub register_named : ℕ → Option ℕ
register_named b = if is_upper b then Some (b - 65) else if is_digit b then Some (b - 48 + 26) else None

-- the register that a byte names, a letter in either case
abbrev pub register_of : ℕ → Option ℕ
register_of b = register_named (upper b)

-- what a register, or a place of the push-down list, holds
pub record Content : Type 0 where
  pub number : ℤ
  pub text : List ℕ

abbrev pub blank : Content
blank = record { number = pos 0; text = [] }

abbrev pub blank_registers : List Content
blank_registers = replicate 36 blank

abbrev pub content : List Content → ℕ → Content
content registers q = slice_index_or registers q blank

abbrev pub with_content : List Content → ℕ → Content → List Content
with_content registers q c = slice_set registers q c

-- with another number, with another text
abbrev pub numbered : ℤ → Content → Content
numbered n c = record c { number = n }

abbrev pub texted : List ℕ → Content → Content
texted text c = record c { text = text }

abbrev pub with_number : List Content → ℕ → ℤ → List Content
with_number registers q n = with_content registers q (numbered n (content registers q))

abbrev pub with_text : List Content → ℕ → List ℕ → List Content
with_text registers q text = with_content registers q (texted text (content registers q))
