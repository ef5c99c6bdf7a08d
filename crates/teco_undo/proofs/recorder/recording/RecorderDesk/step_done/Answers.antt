use Rattle.std.proofs.Common.{◌≤◌, ℕ, ◌∙◌, sym, ap, subst}
use Rattle.teco_undo.specs.Follows.{Recording, HasCome}
use Rattle.teco_store.specs.Trail.{stepped}
use Rattle.teco_undo.proofs.Recordings.{come_stepped}
use Rattle.teco_undo.proofs.recorder.recording.RecorderDesk.step_done.Goals as goal

pub returns-clause-follows : goal.returns-clause-follows
returns-clause-follows c = λ t f few k state load.
    let come = come_stepped c.args.self.now t f few (ap t.states (sym k) ∙ state) (subst (λ (i : ℕ). t.load ≤ t.loads i) k load) in
    let steps : HasCome c.args.self.now.full c.args.self.now.notes c.args.steps (stepped t) =
    subst (λ (i : ℕ). HasCome c.args.self.now.full c.args.self.now.notes i (stepped t)) (sym k) come in
    subst (λ (r : Recording). HasCome r.full r.notes c.args.steps (stepped t)) (sym c.self.view_is) steps
