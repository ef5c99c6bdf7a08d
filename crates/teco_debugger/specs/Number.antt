-- Numbers in commands.
use Rattle.std.specs.Prelude.{ℕ, List, length, Bool, ◌&&◌, nat_lt, if◌then◌else◌, Result, Ok, Err}
use Rattle.std.specs.List.{list_all}
use Rattle.teco_core.specs.Ascii.{is_digit}
use Rattle.teco_core.specs.Number.{digits_value}
use Rattle.teco_debugger.specs.declared.command.CommandFault.{CommandFault}
use Rattle.teco_debugger.specs.declared.command.CommandFault.TheVariants.{NoNumber}

-- 1 to 18 digits
abbrev pub is_number : List ℕ → Bool
is_number bytes = (nat_lt 0 (length bytes) && nat_lt (length bytes) 19) && list_all is_digit bytes

-- the number that the digits say
abbrev pub number_in : List ℕ → Result ℕ CommandFault
number_in bytes = if is_number bytes then Ok (digits_value 0 bytes) else Err NoNumber
