use Rattle.std.proofs.Common.{ap, ◌∙◌, ◌++◌, drop, sym, take}
use Rattle.teco_core.specs.ArgumentsView.{arguments}
use Rattle.teco_step.specs.Families.{range_of}
use Rattle.teco_step.specs.Step.{goes, goes_on, types}
use Rattle.teco_step.specs.Typing.{around, part, view}
use Rattle.teco_step.proofs.Acting.{then_ok}
use Rattle.teco_step.proofs.Shown.{types_answered}
use Rattle.teco_step.proofs.typing.view.Goals as goal

pub returns : goal.returns
returns g c =
    let s = g.D.Desk.state c.args.desk.now in
    let range = range_of c.line_around-range.result in
    let text = c.halves.result.0.now ++ c.halves.result.1.now in
    types_answered (goes view) s (arguments c.args.args.now) _ _ _ (drop range.low (take range.high text)) c.put_range.result c.typed.result
    (ap (goes_on s) (then_ok _ tt (λ u. types s (part s (around s))) _ c.in_ok-takes_none.ensures
    (ap (λ r. types s (part s r)) (sym c.line_around-range.ensures.value) ∙ ap (λ t. types s (drop range.low (take range.high t))) (sym c.halves.ensures.joined))))
    c.put_range.ensures.puts c.put_range.ensures.some c.typed.ensures.ok c.typed.ensures.err
