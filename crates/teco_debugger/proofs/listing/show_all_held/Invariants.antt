use Rattle.std.proofs.Common.{◌≡◌, ◌++◌, take}
use Rattle.std.specs.List.{flat_map}
use Rattle.std.specs.String.{string_bytes}
use Rattle.teco_core.specs.Register.{register_of}
use Rattle.teco_debugger.specs.Listing.{if_held_shown}
use Rattle.teco_debugger.proofs.listing.show_all_held.Given as goal

abbrev pub invariant-loop-name : goal.invariant-loop-name
invariant-loop-name l = string_bytes l.out ≡ string_bytes l.fn.out ++ flat_map (λ b. if_held_shown l.registers (register_of b)) (take l.name-index l.names)
