use Rattle.std.proofs.Common.{◌∙◌, ap, is_some, not, refl, subst, sym}
use Rattle.teco_journal.specs.Entries.{event_in}
use Rattle.teco_serve.specs.Heard.Heard.{Did}
use Rattle.teco_recorder.specs.Recording.{Records, recording}
use Rattle.teco_recorder.proofs.Hearings.{broken_recorded, failed_recorded, written_recorded}
use Rattle.teco_recorder.proofs.Lines.{rests_self}
use Rattle.teco_recorder.proofs.recorder.RecorderListens.did.Goals as goal
use Rattle.teco_recorder.proofs.recorder.RecorderListens.did.Goals.{then-is_none+in-Err, then-is_none+in_default, else-is_none}

pub returns : goal.returns
returns g c = elim c.if-is_none.branch [
  | then-is_none+in-Err w ↦ record {
    told = (
      ap (λ s. s.disk.ghost_name) w.self-is,
      ap (λ s. s.listener.ghost_name) w.self-is,
      subst (λ l. g.L.Listens.hears l c.did.new.self (Did (event_in c.args.entry))) (ap (λ s. s.listener.now) w.self-is) c.did.ensures.told,
      subst (λ s. Records (recording (g.D.Disk.seen c.args.self.now.disk.now) c.args.self.now.file.now (is_some c.args.self.now.broken))
          (recording (g.D.Disk.seen s.disk.now) s.file.now (is_some s.broken)) (event_in c.args.entry)) (sym w.self-is)
          (failed_recorded _ _ _ (c.is_none.ensures ∙ ap not w.if-is_none.true) refl w.add.ensures.name w.in-Err.ensures.err w.add.ensures.moments
          w.add.ensures.streams),
      ap (λ s. s.file.ghost_name) w.self-is,
    );
  }
  | then-is_none+in_default w ↦ record {
    told = (
      ap (λ s. s.disk.ghost_name) w.self-is,
      ap (λ s. s.listener.ghost_name) w.self-is,
      subst (λ l. g.L.Listens.hears l c.did.new.self (Did (event_in c.args.entry))) (ap (λ s. s.listener.now) w.self-is) c.did.ensures.told,
      subst (λ s. Records (recording (g.D.Disk.seen c.args.self.now.disk.now) c.args.self.now.file.now (is_some c.args.self.now.broken))
          (recording (g.D.Disk.seen s.disk.now) s.file.now (is_some s.broken)) (event_in c.args.entry)) (sym w.self-is)
          (written_recorded _ _ _ (c.is_none.ensures ∙ ap not w.if-is_none.true) w.in_default.ensures.check w.in_default.ensures.ok w.add.ensures.moments
          w.add.ensures.streams),
      ap (λ s. s.file.ghost_name) w.self-is,
    );
  }
  | else-is_none w ↦ record {
    told = (
      ap (λ s. s.disk.ghost_name) w.self-is,
      ap (λ s. s.listener.ghost_name) w.self-is,
      subst (λ l. g.L.Listens.hears l c.did.new.self (Did (event_in c.args.entry))) (ap (λ s. s.listener.now) w.self-is) c.did.ensures.told,
      subst (λ s. Records (recording (g.D.Disk.seen c.args.self.now.disk.now) c.args.self.now.file.now (is_some c.args.self.now.broken))
          (recording (g.D.Disk.seen s.disk.now) s.file.now (is_some s.broken)) (event_in c.args.entry)) (sym w.self-is)
          (broken_recorded _ _ _ (c.is_none.ensures ∙ ap not w.if-is_none.false) (rests_self _)),
      ap (λ s. s.file.ghost_name) w.self-is,
    );
  }
]
