use Rattle.std.proofs.Common.{◌∙◌, ℕ, Option, ap, refl, subst}
use Rattle.std.proofs.lemmas.Result.{on_ok_weaker}
use Rattle.std.specs.Prelude.{OnOk}
use Rattle.std.specs.String.{string_bytes}
use Rattle.teco_debugger.specs.Commands.{TakesBack}
use Rattle.teco_debugger.proofs.Answered.{arrives_from, only_shows}
use Rattle.teco_debugger.proofs.debugger.Debugger.take_back.Goals as goal

pub returns-in-Some-clause-back : goal.returns-in-Some-clause-back
returns-in-Some-clause-back c =
    subst (λ (o : Option ℕ). OnOk c.arrive.result (TakesBack c.args.left o c.args.self.now c.arrive.new.self (string_bytes c.arrive.new.out))) c.in-Some.ensures
    (on_ok_weaker c.arrive.result (λ a. (arrives_from c.args.self.now (record c.args.self.now { moves = c.truncate.new.self }) refl refl refl refl refl a, ap (λ m. m.items) c.arrive.ensures.moves ∙ c.truncate.ensures.items)) c.arrive.ensures.arrives)

pub returns-in-None-clause-back : goal.returns-in-None-clause-back
returns-in-None-clause-back c =
    subst (λ (o : Option ℕ). OnOk c.show_words.result (TakesBack c.args.left o c.args.self.now c.args.self.now (string_bytes c.show_words.new.out))) c.in-None.ensures
    (only_shows c.show_words.result c.args.self.now _ _ _ c.requires c.show_words.ensures)
