use Rattle.std.proofs.Common.{subst, sym}
use Rattle.std.specs.Prelude.{OnOk}
use Rattle.std.specs.String.{string_bytes}
use Rattle.teco_debugger.specs.Commands.{GoesByFound}
use Rattle.teco_debugger.specs.declared.stops.Found.{Found}
use Rattle.teco_debugger.proofs.Answered.{only_shows}
use Rattle.teco_debugger.proofs.debugger.Debugger.go_by.Goals as goal

pub returns-in-Nowhere-clause-goes : goal.returns-in-Nowhere-clause-goes
returns-in-Nowhere-clause-goes c =
    subst (λ (f : Found). OnOk c.show_words.result (GoesByFound f c.args.self.now c.args.self.now (string_bytes c.show_words.new.out))) (sym c.in-Nowhere.is)
    (only_shows c.show_words.result c.args.self.now _ _ _ c.requires c.show_words.ensures)

pub returns-in-TooFar-clause-goes : goal.returns-in-TooFar-clause-goes
returns-in-TooFar-clause-goes c =
    subst (λ (f : Found). OnOk c.show_far.result (GoesByFound f c.args.self.now c.args.self.now (string_bytes c.show_far.new.out))) (sym c.in-TooFar.is)
    (only_shows c.show_far.result c.args.self.now _ _ _ c.requires c.show_far.ensures)
