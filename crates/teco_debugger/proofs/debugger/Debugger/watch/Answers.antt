use Rattle.std.proofs.Common.{List, ℕ, subst}
use Rattle.std.proofs.lemmas.Result.{on_ok_weaker}
use Rattle.std.specs.String.{string_bytes}
use Rattle.teco_debugger.specs.Commands.{GoesOrSays}
use Rattle.teco_debugger.proofs.debugger.Debugger.watch.Goals as goal

pub returns-clause-watches : goal.returns-clause-watches
returns-clause-watches c =
    on_ok_weaker c.go_or_say.result
    (λ goes. (
      c.in_ok-to.to,
      c.in_ok-to.ensures,
      subst (λ (words : List ℕ). GoesOrSays c.in_ok-to.to words c.args.self.now c.go_or_say.new.self (string_bytes c.go_or_say.new.out)) c.words_without.ensures goes,
    ))
    c.go_or_say.ensures.goes
