use Rattle.std.proofs.Common.{ap, ◌∙◌, arith, take_all}
use Rattle.teco_source.specs.Source.{start, run}
use Rattle.teco_source.specs.Listing.{between}
use Rattle.teco_source.proofs.Parts.{at_start}
use Rattle.teco_source.proofs.lines.listing.Goals as goal

pub loop-at-init : goal.loop-at-init
loop-at-init c = (ap (run start) c.new-out.ensures.items ∙ at_start, omega arith)

pub loop-at-preserved : goal.loop-at-preserved
loop-at-preserved c = (c.in_ok-push_part.ensures c.loop-at.invariant.0, c.next_line-line.ensures.1)

pub returns : goal.returns
returns c = c.source_laws.ensures.lines c.loop-at.out.items c.args.text.now (c.loop-at.invariant.0 ∙ ap between (take_all c.loop-at.at c.args.text.now (omega arith)))
