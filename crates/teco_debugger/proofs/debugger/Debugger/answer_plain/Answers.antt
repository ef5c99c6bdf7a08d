use Rattle.std.proofs.Common.{◌∙◌, ◌++◌, ap, refl, subst, sym}
use Rattle.std.proofs.lemmas.Result.{on_ok_weaker}
use Rattle.std.specs.Prelude.{OnOk}
use Rattle.std.specs.String.{string_bytes}
use Rattle.teco_messages.specs.Spelling.{spelled}
use Rattle.teco_debugger.specs.declared.verb.Plain.{Plain}
use Rattle.teco_debugger.specs.Commands.{AnswersPlain, answer_line}
use Rattle.teco_debugger.specs.Showing.{where_at}
use Rattle.teco_debugger.proofs.Shown.{shown_typed}
use Rattle.teco_debugger.proofs.Answered.{shows_help}
use Rattle.teco_debugger.proofs.debugger.Debugger.answer_plain.Goals as goal

pub returns-in-Help-clause-answers : goal.returns-in-Help-clause-answers
returns-in-Help-clause-answers c =
    subst (λ (k : Plain). OnOk c.show_help.result (AnswersPlain k c.args.self.now c.args.self.now (string_bytes c.show_help.new.out))) (sym c.in-Help.is)
    (shows_help c.show_help.result c.args.self.now _ _ c.verb_rows.result.now c.verb_rows.ensures c.requires c.show_help.ensures)

pub returns-in-Where-clause-answers : goal.returns-in-Where-clause-answers
returns-in-Where-clause-answers c =
    subst (λ (k : Plain). OnOk c.show.result (AnswersPlain k c.args.self.now c.args.self.now (string_bytes c.show.new.out))) (sym c.in-Where.is)
    (on_ok_weaker c.show.result (λ e. (refl, (e.0, e.1, e.2 ∙ ap (λ l. l ++ where_at c.args.self.now.sources.items c.args.self.now.walk e.0) c.requires))) c.show.ensures)

pub returns-in-Typed-clause-answers : goal.returns-in-Typed-clause-answers
returns-in-Typed-clause-answers c =
    subst (λ (k : Plain). OnOk c.show-in-Typed.result (AnswersPlain k c.args.self.now c.args.self.now (string_bytes c.show-in-Typed.new.out))) (sym c.in-Typed.is)
    (on_ok_weaker c.show-in-Typed.result (λ e. (refl, e.2 ∙ ap (λ l. l ++ answer_line (spelled e.0.seen.typed.items)) c.requires ∙ ap (λ t. answer_line (spelled t)) (shown_typed c.args.self.now.sources.items _ _ _ e.1))) c.show-in-Typed.ensures)
