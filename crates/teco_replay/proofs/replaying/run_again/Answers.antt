use Rattle.std.proofs.Common.{◌≡◌, Some, sym, ap, ◌∙◌}
use Rattle.teco_session.specs.Kept.{history_of}
use Rattle.teco_replay.specs.declared.replaying.ReplayFault.TheVariants.{Wrong}
use Rattle.teco_replay.proofs.Again.{ran_again, never_wrong}
use Rattle.teco_replay.proofs.replaying.run_again.Goals as goal

pub returns-in-None-clause-told : goal.returns-in-None-clause-told
returns-in-None-clause-told g c =
    let step = c.run-answer.ensures.step in
    ran_again c.meaning_laws.ensures.enough c.meaning_laws.ensures.reached _ (history_of c.args.session.now) (history_of c.run-answer.new.self) c.args.text.now c.args.steps c.run-answer.result step.0 step.1 (sym c.fault_of.ensures ∙ c.in-None.is)

pub returns-in-Some-clause-possible : goal.returns-in-Some-clause-possible
returns-in-Some-clause-possible g c =
    λ happens is.
    let step = c.run-answer.ensures.step in
    let wrong : c.in-Some.fault ≡ Wrong = cc in
    never_wrong (history_of c.args.session.now) (history_of c.run-answer.new.self) c.args.text.now c.args.steps c.run-answer.result step.0 step.1 happens (sym c.fault_of.ensures ∙ c.in-Some.is ∙ ap Some wrong)
