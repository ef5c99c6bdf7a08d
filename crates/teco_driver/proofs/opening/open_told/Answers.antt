use Rattle.std.proofs.Common.{◌≡◌, refl, sym}
use Rattle.teco_session.specs.Kept.{history_of}
use Rattle.teco_driver.specs.Sessions.{TellsAgain}
use Rattle.teco_driver.proofs.Sessions.{told_opened, told_shut}
use Rattle.teco_driver.proofs.opening.open_told.Goals as goal

pub returns-clause-ok : goal.returns-clause-ok
returns-clause-ok g c = told_opened c.open_session.result (λ opened. record {
  file = opened.file;
  history = history_of opened.session;
  records = opened.records;
  torn = opened.torn;
}) _ _ _ _ _ _ _ _ _ _
    (λ same. rw (c.errors-1.given.1 (rw same refl)) (rw same refl))
    (λ steps it. rw (c.errors-1.given.1 (sym it.0)) it.1)
    c.session_name.ensures c.open_session.ensures.ok

pub returns-clause-told : goal.returns-clause-told
returns-clause-told g c = told_shut c.open_session.result (λ opened. record {
  file = opened.file;
  history = history_of opened.session;
  records = opened.records;
  torn = opened.torn;
}) (c.open_session.new.hearer ≡ _) (_ ≡ c.args.errors.now) _ (TellsAgain g.E.Terminal.screen c.args.line.now c.args.errors.now _) _ _ _ _ _ _
    (λ same. rw (c.errors-1.given.1 (rw same refl)) (rw same refl))
    (λ steps it. rw (c.errors-1.given.1 (sym it.0)) it.1)
    c.session_name.ensures c.open_session.ensures.ok c.open_session.ensures.heard
