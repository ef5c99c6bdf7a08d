use Rattle.std.proofs.Common.{ap, ◌++◌, drop, sym, take}
use Rattle.teco_core.specs.ArgumentsView.{arguments}
use Rattle.teco_step.specs.Families.{range_of}
use Rattle.teco_step.specs.Step.{goes, goes_on, types}
use Rattle.teco_step.specs.Typing.{part, type_out}
use Rattle.teco_step.proofs.Acting.{then_ok}
use Rattle.teco_step.proofs.Shown.{types_answered}
use Rattle.teco_step.proofs.typing.type_out.Goals as goal

pub returns : goal.returns
returns g c =
    let s = g.D.Desk.state c.args.desk.now in
    let range = range_of c.in_ok-range.range in
    let text = c.halves.result.0.now ++ c.halves.result.1.now in
    types_answered (goes type_out) s (arguments c.args.args.now) _ _ _ (drop range.low (take range.high text)) c.put_range.result c.typed.result
    (ap (goes_on s) (then_ok _ range (λ r. types s (part s r)) _ c.in_ok-range.ensures.value (ap (λ t. types s (drop range.low (take range.high t))) (sym c.halves.ensures.joined))))
    c.put_range.ensures.puts c.put_range.ensures.some c.typed.ensures.ok c.typed.ensures.err
