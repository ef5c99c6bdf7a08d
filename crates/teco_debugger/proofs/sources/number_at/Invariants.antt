use Rattle.std.proofs.Common.{◌≡◌, nat_le, take}
use Rattle.std.specs.Prelude.{count_by}
use Rattle.teco_debugger.proofs.sources.number_at.Given as goal

abbrev pub invariant-loop-source : goal.invariant-loop-source
invariant-loop-source l = l.begun ≡ count_by (λ source. nat_le source.from l.fn.at) (take l.source-index l.sources)
