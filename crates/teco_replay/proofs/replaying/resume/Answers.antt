use Rattle.std.proofs.Common.{◌≡◌, List, Err, sym, ap, ◌∙◌, subst}
use Rattle.teco_session.specs.History.{History}
use Rattle.teco_session.specs.Kept.{history_of}
use Rattle.teco_journal.specs.Events.{Event}
use Rattle.teco_replay.specs.Begun.{begun_history}
use Rattle.teco_replay.specs.Told.{AllHappen, after_events}
use Rattle.teco_replay.specs.declared.replaying.ReplayFault.TheVariants.{Wrong}
use Rattle.teco_replay.proofs.replaying.resume.Goals as goal

told_from : (new begun first : History) (events : List Event) → new ≡ after_events begun events → begun ≡ first → new ≡ after_events first events
told_from new begun first events told is = told ∙ ap (λ h. after_events h events) is

lived_again : (new first lived : History) (events journal : List Event) → new ≡ after_events first events → events ≡ journal → lived ≡ after_events first journal → new ≡ lived
lived_again new first lived events journal told are tells = told ∙ ap (after_events first) are ∙ sym tells

happen_again : (begun first : History) (events journal : List Event) → begun ≡ first → events ≡ journal → AllHappen first journal → AllHappen begun events
happen_again begun first events journal is are happen = subst (λ h. AllHappen h events) (sym is) (subst (AllHappen first) (sym are) happen)

pub returns-in-Ok-replay-clause-told : goal.returns-in-Ok-replay-clause-told
returns-in-Ok-replay-clause-told g c = told_from _ _ _ _ c.in-Ok-replay.ensures.told c.in-Ok.ensures.history

pub returns-in-Ok-replay-clause-again : goal.returns-in-Ok-replay-clause-again
returns-in-Ok-replay-clause-again g c =
    λ deeds lived did are. lived_again _ _ lived _ _ (told_from _ _ _ _ c.in-Ok-replay.ensures.told c.in-Ok.ensures.history) are (c.replay_laws.ensures.tell _ lived deeds did)

pub returns-in-Err-clause-only : goal.returns-in-Err-clause-only
returns-in-Err-clause-only g c =
    λ deeds lived did are is.
    let wrong : c.in-Err.fault ≡ Wrong = cc in
    c.in-Err.ensures.possible (happen_again (history_of c.in-Ok.session) (begun_history c.args.profile c.args.lines c.args.depth c.args.input.items) _ _ c.in-Ok.ensures.history are (c.replay_laws.ensures.happen _ lived deeds did)) (ap Err wrong)
