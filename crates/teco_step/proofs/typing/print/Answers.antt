use Rattle.std.proofs.Common.{FitsSigned, ap, rules, sym, w32, ℤ}
use Rattle.std.proofs.lemmas.Int.{to_z-of_z}
use mir.Val.{of_z, to_z}
use Rattle.teco_core.specs.ArgumentsView.{arguments}
use Rattle.teco_step.specs.Step.{goes, goes_on, types}
use Rattle.teco_step.specs.Typing.{ended, numeral, print}
use Rattle.teco_step.proofs.Acting.{then_ok}
use Rattle.teco_step.proofs.Shown.{types_answered}
use Rattle.teco_step.proofs.typing.print.Goals as goal

pub returns : goal.returns
returns g c =
    let s = g.D.Desk.state c.args.desk.now in
    let line = λ (n : ℤ). ended c.args.modifiers (numeral c.args.base n) in
    let fits : FitsSigned w32 c.in_ok-n.n = search rules in
    let n = to_z-of_z w32 c.in_ok-n.n fits in
    types_answered (goes (print c.args.base c.args.modifiers)) s (arguments c.args.args.now) _ _ _ (line (to_z w32 (of_z w32 c.in_ok-n.n))) c.put_number.result c.typed.result
    (ap (goes_on s) (then_ok _ c.in_ok-n.n (λ n. types s (line n)) _ c.in_ok-n.ensures (ap (λ n. types s (line n)) (sym n)))) c.put_number.ensures.puts c.put_number.ensures.some
    c.typed.ensures.ok c.typed.ensures.err
