use Rattle.std.proofs.Common.{◌≡◌, ◌<◌, ◌^◌, drop}
use Rattle.std.specs.List.{list_all}
use Rattle.teco_core.specs.Ascii.{is_digit}
use Rattle.teco_core.specs.Number.{digits_value}
use Rattle.teco_debugger.proofs.number.number_in.Given as goal

-- digits so far, with this value
abbrev pub invariant-loop-byte : goal.invariant-loop-byte
invariant-loop-byte l = record {
  digits : list_all is_digit l.bytes ≡ list_all is_digit (drop l.byte-index l.bytes);
  small : l.number < 10 ^ l.byte-index;
  value : digits_value 0 l.bytes ≡ digits_value l.number (drop l.byte-index l.bytes);
}
