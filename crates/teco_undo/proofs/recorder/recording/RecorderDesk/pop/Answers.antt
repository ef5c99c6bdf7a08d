use Rattle.std.proofs.Common.{ℕ, ◌<◌, subst}
use Rattle.teco_undo.proofs.Fitting.{pop_fits}
use Rattle.teco_undo.proofs.recorder.recording.RecorderDesk.pop.Goals as goal

pub change_apart-requires-clause-fits : goal.change_apart-requires-clause-fits
change_apart-requires-clause-fits c = λ sound.
    pop_fits c.args.self.now.full c.args.q sound (subst (λ (n : ℕ). n < 36) c.index-index.ensures.value c.index-index.ensures.small) c.requires
