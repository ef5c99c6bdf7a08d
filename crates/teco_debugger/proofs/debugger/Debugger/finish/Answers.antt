use Rattle.std.proofs.Common.{Bool, subst, sym}
use Rattle.std.proofs.lemmas.Bool.{eq-eqb, ne_eqb}
use Rattle.std.proofs.lemmas.Result.{on_ok_weaker}
use Rattle.std.specs.String.{string_bytes}
use Rattle.teco_debugger.specs.Commands.{FinishesUnless}
use Rattle.teco_debugger.proofs.Answered.{only_shows}
use Rattle.teco_debugger.proofs.debugger.Debugger.finish.Goals as goal

pub returns-then-calls-eq0-clause-finishes : goal.returns-then-calls-eq0-clause-finishes
returns-then-calls-eq0-clause-finishes c =
    let self = c.args.self.now in
    let calls = c.in_ok-calls.calls in
    on_ok_weaker c.show_words.result
    (λ shows. (
      calls,
      c.in_ok-calls.ensures,
      subst (λ (none : Bool). FinishesUnless none calls self self (string_bytes c.show_words.new.out)) (sym (eq-eqb calls 0 c.if-calls-eq0.true)) shows,
    ))
    (only_shows c.show_words.result self _ _ _ c.requires c.show_words.ensures)

pub returns-clause-finishes : goal.returns-clause-finishes
returns-clause-finishes c =
    let calls = c.in_ok-calls.calls in
    on_ok_weaker c.go_by.result
    (λ goes. (
      calls,
      c.in_ok-calls.ensures,
      subst (λ (none : Bool). FinishesUnless none calls c.args.self.now c.go_by.new.self (string_bytes c.go_by.new.out)) (sym (ne_eqb calls 0 c.if-calls-eq0.false))
          (c.in_ok-found.found, c.in_ok-found.ensures, goes),
    ))
    c.go_by.ensures.goes
