use Rattle.std.proofs.Common.{◌∙◌, List, Result, ℕ, ap, false, refl, subst, sym}
use Rattle.std.specs.String.{string_bytes}
use Rattle.teco_io.specs.Terminal.{IsFrontOf, Shows}
use Rattle.teco_debugger.specs.Commands.{IsAnswerTo, is_leaving, noted}
use Rattle.teco_debugger.specs.declared.command.CommandFault.{CommandFault}
use Rattle.teco_debugger.specs.declared.command.DebuggerCommand.{DebuggerCommand}
use Rattle.teco_debugger.proofs.serving.obey.Goals as goal

pub returns-then-is_leaving : goal.returns-then-is_leaving
returns-then-is_leaving g c = (sym (c.is_leaving.ensures ∙ ap is_leaving c.asked-asked.ensures) ∙ c.if-is_leaving.true, refl, refl)

pub returns-in-Err : goal.returns-in-Err
returns-in-Err g c = (c.in-Err.ensures.same, refl)

pub returns-in-Ok-put : goal.returns-in-Ok-put
returns-in-Ok-put g c =
    let shown = string_bytes c.in-Ok.text in
    let new = c.answer_to.new.self in (
      sym (c.is_leaving.ensures ∙ ap is_leaving c.asked-asked.ensures) ∙ c.if-is_leaving.false,
      (
        shown,
        subst (λ (asked : Result DebuggerCommand CommandFault). IsAnswerTo asked c.args.line.now (noted asked c.args.debugger.now) new shown) c.asked-asked.ensures c.in-Ok.ensures.answers,
        subst (λ (bytes : List ℕ). Shows (g.T.Terminal.screen c.args.term.now) (g.T.Terminal.screen c.put.new.self) bytes false) c.as_bytes.ensures.value c.in-Ok-put.ensures,
      ),
    )

pub returns : goal.returns
returns g c =
    let shown = string_bytes c.in-Ok.text in
    let new = c.answer_to.new.self in
    let put = c.in-Err-put.ensures in (
      shown,
      subst (λ (asked : Result DebuggerCommand CommandFault). IsAnswerTo asked c.args.line.now (noted asked c.args.debugger.now) new shown) c.asked-asked.ensures c.in-Ok.ensures.answers,
      (put.0, subst (λ (bytes : List ℕ). IsFrontOf put.0 bytes) c.as_bytes.ensures.value put.1, put.2),
    )
