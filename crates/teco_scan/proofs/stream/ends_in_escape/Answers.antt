use Rattle.std.proofs.Common.{ap, sym, ◌∙◌}
use Rattle.teco_scan.specs.Stream.{ends_in_escape}
use Rattle.teco_scan.proofs.Streams.{ends-more}
use Rattle.teco_scan.proofs.stream.ends_in_escape.Goals as goal

pub returns-in-Some : goal.returns-in-Some
returns-in-Some c = sym (ends-more c.in-Some.field-0-1.now c.in-Some.last.now) ∙ ap ends_in_escape (sym c.in-Some.ensures.cases.0)
