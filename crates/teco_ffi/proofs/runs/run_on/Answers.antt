use Rattle.std.proofs.Common.{None, rules, subst, sym}
use Rattle.teco_exec.specs.Watching.{Knows}
use Rattle.teco_session.specs.Answers.{outcome_of}
use Rattle.teco_session.specs.History.{present}
use Rattle.teco_session.specs.Kept.{history_of}
use Rattle.teco_session.proofs.Running.{each_some}
use Rattle.teco_ffi.proofs.runs.run_on.Goals as goal

pub returns-clause-run : goal.returns-clause-run
returns-clause-run g c =
    let ran = c.run_with-answer.ensures.run in
    let step = ran.so.step in
    let same = ran.so.same in
    record { under = ran.under; within = ran.within; stays = ran.stays; heard = ran.heard; so = search rules }

pub returns-clause-place : goal.returns-clause-place
returns-clause-place g c = (
  each_some _ _ (c.into_place.ensures.told (present (history_of c.args.session.now)) c.args.text.now) (outcome_of c.run_with-answer.result.0) (c.run_with-answer.ensures.told c.new-watch.ensures),
  λ unbegun. c.into_place.ensures.none (subst (λ w. Knows w None) (sym (c.run_with-answer.ensures.unbegun unbegun)) c.new-watch.ensures),
)
