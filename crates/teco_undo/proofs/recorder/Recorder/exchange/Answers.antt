use Rattle.std.proofs.Common.{◌∙◌, ap, arith, length, rules, subst, sym}
use Rattle.teco_undo.specs.Follows.{Recording}
use Rattle.teco_store.specs.State.{Full, IsSound}
use Rattle.teco_store.specs.Turn.{Splice, full_after}
use Rattle.teco_undo.proofs.Fitting.{splice_fits_seen}
use Rattle.teco_undo.proofs.Recordings.{goes_noted}
use Rattle.teco_undo.proofs.Rooms.{first_place, one_less_seen}
use Rattle.teco_undo.proofs.recorder.Recorder.exchange.Goals as goal

pub exchange-held-requires-clause-fits : goal.exchange-held-requires-clause-fits
exchange-held-requires-clause-fits c = (splice_fits_seen c.self.inside.editor c.args.self.now.full c.args.at c.args.there c.args.pointer c.args.ins.now (ap (λ (r : Recording). r.full) c.self.view_is)
    c.shown-shown.ensures.sound c.requires.there c.requires.lands c.requires.small c.requires.room).0

pub returns-clause-goes : goal.returns-clause-goes
returns-clause-goes c =
    let fits = (splice_fits_seen c.self.inside.editor c.args.self.now.full c.args.at c.args.there c.args.pointer c.args.ins.now (ap (λ (r : Recording). r.full) c.self.view_is)
    c.shown-shown.ensures.sound c.requires.there c.requires.lands c.requires.small c.requires.room).1 in
    goes_noted c.args.self.now c.self.inside.editor c.exchange-held.new.self c.self.inside.entry.items c.push_apart.new.self.items c.self.inside.done _ _
    (Splice c.args.at c.args.there c.args.pointer c.args.ins.now) c.self.view_is c.exchange-held.ensures.editor (search rules) fits (omega arith)

pub returns-clause-full : goal.returns-clause-full
returns-clause-full c = c.exchange-held.ensures.editor ∙ ap (λ (r : Recording). full_after (Splice c.args.at c.args.there c.args.pointer c.args.ins.now) r.full) c.self.view_is

pub returns-clause-sound : goal.returns-clause-sound
returns-clause-sound c =
    let fits = (splice_fits_seen c.self.inside.editor c.args.self.now.full c.args.at c.args.there c.args.pointer c.args.ins.now (ap (λ (r : Recording). r.full) c.self.view_is)
    c.shown-shown.ensures.sound c.requires.there c.requires.lands c.requires.small c.requires.room).0 in
    subst (λ (x : Full). IsSound x.room (length x.stored) x.body) (sym c.exchange-held.ensures.editor) fits.1

pub push_apart-requires-clause-spare : goal.push_apart-requires-clause-spare
push_apart-requires-clause-spare c = first_place c.self.inside.done c.args.self.now.spare c.self.inside.entry (ap (λ (r : Recording). r.spare) c.self.view_is) c.requires.spare

pub returns-clause-spare : goal.returns-clause-spare
returns-clause-spare c =
    one_less_seen c.self.inside.done c.args.self.now.spare c.self.inside.entry c.push_apart.new.self (ap (λ (r : Recording). r.spare) c.self.view_is) c.push_apart.ensures.spare (λ le. c.push_apart.ensures.apart)
