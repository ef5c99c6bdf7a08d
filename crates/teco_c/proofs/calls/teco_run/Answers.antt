use Rattle.std.proofs.Common.{Some, ◌∙◌, subst, sym}
use Rattle.std.proofs.lemmas.Option.{none-some}
use Rattle.teco_ffi.specs.Calls.{StaysClosed}
use Rattle.teco_c.proofs.Telling.{SessionGoes-closed, StaysClosed-closed, StaysClosed-open}
use Rattle.teco_c.proofs.calls.teco_run.Goals as goal

pub returns-in_default-clause-open : goal.returns-in_default-clause-open
returns-in_default-clause-open c = SessionGoes-closed _ c.args.t.now.value c.args.t.now.value c.in_default.ensures.value

pub returns-in_default-clause-closed : goal.returns-in_default-clause-closed
returns-in_default-clause-closed c =
    let held = c.args.t.now.value in
    subst (λ code. StaysClosed held code held) (sym c.on_none.ensures.closed) (StaysClosed-closed held c.in_default.ensures.value)

pub returns-clause-closed : goal.returns-clause-closed
returns-clause-closed c = StaysClosed-open c.args.t.now.value (Some c.on.new.session) c.in-Some.session.now c.on.result c.in-Some.ensures.value

pub returns-clause-nothing : goal.returns-clause-nothing
returns-clause-nothing c = λ none. absurd (none-some c.in-Some.session.now (sym none ∙ c.in-Some.ensures.value))
