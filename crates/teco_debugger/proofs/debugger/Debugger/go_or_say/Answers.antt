use Rattle.std.proofs.Common.{ℕ, Option, subst, sym}
use Rattle.std.specs.Prelude.{OnOk}
use Rattle.std.specs.String.{string_bytes}
use Rattle.teco_debugger.specs.Commands.{GoesOrSays}
use Rattle.teco_debugger.proofs.Answered.{only_shows}
use Rattle.teco_debugger.proofs.debugger.Debugger.go_or_say.Goals as goal

pub returns-in-None-clause-goes : goal.returns-in-None-clause-goes
returns-in-None-clause-goes c =
    subst (λ (to : Option ℕ). OnOk c.show_words.result (GoesOrSays to c.args.words.now c.args.self.now c.args.self.now (string_bytes c.show_words.new.out))) (sym c.in-None.is)
    (only_shows c.show_words.result c.args.self.now _ _ _ c.requires c.show_words.ensures)
