use Rattle.std.proofs.Common.{◌≡◌, take, map}
use Rattle.std.specs.String.{string_bytes}
use Rattle.teco_debugger.proofs.arguments.owned.Given as goal

abbrev pub invariant-loop-text : goal.invariant-loop-text
invariant-loop-text l = map string_bytes l.given.items ≡ map (λ s. s.now) (take l.text-index l.texts)
