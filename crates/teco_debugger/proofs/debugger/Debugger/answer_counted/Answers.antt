use Rattle.std.proofs.Common.{◌∙◌, ◌+◌, ◌-◌, ◌++◌, ℕ, ap, min, refl, subst, sym}
use Rattle.std.proofs.lemmas.Result.{on_ok_weaker}
use Rattle.std.specs.Prelude.{OnOk}
use Rattle.std.specs.String.{string_bytes}
use Rattle.teco_debugger.specs.declared.verb.Counted.{Counted}
use Rattle.teco_debugger.specs.Around.{around_at}
use Rattle.teco_debugger.specs.Commands.{AnswersCounted}
use Rattle.teco_debugger.specs.Moving.{MovesTo}
use Rattle.teco_debugger.proofs.debugger.Debugger.answer_counted.Goals as goal

pub returns-in-Next-clause-answers : goal.returns-in-Next-clause-answers
returns-in-Next-clause-answers c =
    let to = c.ahead.ensures ∙ ap (λ s. min (s + c.args.n) c.args.self.now.limit) c.steps-steps.ensures in
    subst (λ (k : Counted). OnOk c.go.result (AnswersCounted k c.args.n c.args.self.now c.go.new.self (string_bytes c.go.new.out))) (sym c.in-Next.is)
    (subst (λ (n : ℕ). OnOk c.go.result (MovesTo n c.args.self.now c.go.new.self (string_bytes c.go.new.out))) to c.go.ensures.moves)

pub returns-in-Back-clause-answers : goal.returns-in-Back-clause-answers
returns-in-Back-clause-answers c =
    let to = c.behind.ensures ∙ ap (λ s. s - c.args.n) c.steps-steps.ensures in
    subst (λ (k : Counted). OnOk c.go-in-Back.result (AnswersCounted k c.args.n c.args.self.now c.go-in-Back.new.self (string_bytes c.go-in-Back.new.out))) (sym c.in-Back.is)
    (subst (λ (n : ℕ). OnOk c.go-in-Back.result (MovesTo n c.args.self.now c.go-in-Back.new.self (string_bytes c.go-in-Back.new.out))) to c.go-in-Back.ensures.moves)

pub returns-in-Goto-clause-answers : goal.returns-in-Goto-clause-answers
returns-in-Goto-clause-answers c =
    subst (λ (k : Counted). OnOk c.go-in-Goto.result (AnswersCounted k c.args.n c.args.self.now c.go-in-Goto.new.self (string_bytes c.go-in-Goto.new.out))) (sym c.in-Goto.is)
    (subst (λ (n : ℕ). OnOk c.go-in-Goto.result (MovesTo n c.args.self.now c.go-in-Goto.new.self (string_bytes c.go-in-Goto.new.out))) c.min.ensures c.go-in-Goto.ensures.moves)

pub returns-in-Around-clause-answers : goal.returns-in-Around-clause-answers
returns-in-Around-clause-answers c =
    subst (λ (k : Counted). OnOk c.show.result (AnswersCounted k c.args.n c.args.self.now c.args.self.now (string_bytes c.show.new.out))) (sym c.in-Around.is)
    (on_ok_weaker c.show.result (λ e. (refl, (e.0, e.1, e.2 ∙ ap (λ l. l ++ around_at c.args.self.now.sources.items c.args.self.now.walk e.0 c.args.n) c.requires))) c.show.ensures)
