use Rattle.std.proofs.Common.{ℕ, ◌+◌, ◌∙◌, ap, arith, length, refl, rules, subst, sym}
use Rattle.teco_undo.specs.Follows.{Recording, HasCome, noting}
use Rattle.teco_undo.specs.Holding.{CanHold}
use Rattle.teco_undo.specs.declared.held.Held.TheVariants.{Input}
use Rattle.teco_store.specs.State.{Full, IsSound}
use Rattle.teco_store.specs.Turn.{Splice, full_after, lent}
use Rattle.teco_undo.proofs.Fitting.{input_fits_seen}
use Rattle.teco_store.proofs.Loans.{length-lent}
use Rattle.teco_undo.proofs.Loans.{held_is_lent}
use Rattle.teco_undo.proofs.Recordings.{goes_noted}
use Rattle.teco_undo.proofs.Rooms.{first_place, one_less_seen}
use Rattle.teco_undo.proofs.recorder.Recorder.put_input.Goals as goal

pub exchange_input-held-requires-clause-fits : goal.exchange_input-held-requires-clause-fits
exchange_input-held-requires-clause-fits c = (input_fits_seen c.self.inside.editor c.args.self.now.full c.args.at c.args.there c.args.pointer c.args.from c.args.count (ap (λ (r : Recording). r.full) c.self.view_is)
    c.shown-shown.ensures.sound c.requires.there c.requires.lands c.requires.small c.requires.room).0

pub returns-in-Memory-clause-goes : goal.returns-in-Memory-clause-goes
returns-in-Memory-clause-goes c = λ t f.
    let e : Full = c.self.inside.editor in
    let fits = (input_fits_seen e c.args.self.now.full c.args.at c.args.there c.args.pointer c.args.from c.args.count (ap (λ (r : Recording). r.full) c.self.view_is)
    c.shown-shown.ensures.sound c.requires.there c.requires.lands c.requires.small c.requires.room).1 in
    subst (λ (n : ℕ). HasCome c.exchange_input-held.new.self c.push_apart.new.self.items c.self.inside.done (noting t (c.args.there + n) 1)) (length-lent e.body.input c.args.from c.args.count)
    (goes_noted c.args.self.now e c.exchange_input-held.new.self c.self.inside.entry.items c.push_apart.new.self.items c.self.inside.done _ _
    (Splice c.args.at c.args.there c.args.pointer (lent e.body.input c.args.from c.args.count)) c.self.view_is c.exchange_input-held.ensures.editor (search rules) fits (omega arith) t f)

pub note_apart-requires-clause-fits : goal.note_apart-requires-clause-fits
note_apart-requires-clause-fits c =
    let f = c.args.self.now.full in
    let held : CanHold f.body c.args.at c.args.there c.args.count (Input c.in-Input.there_from) = search rules in
    let sound = subst (λ (x : Full). IsSound x.room (length x.stored) x.body) (ap (λ (r : Recording). r.full) c.self.view_is) c.shown-shown.ensures.sound in
    let front = held.0.0 in
    let there = c.requires.there in
    let fits = (input_fits_seen f f 0 c.args.there c.args.pointer c.args.from c.args.count refl sound (omega (arith, front, there)) c.requires.lands c.requires.small c.requires.room).1 in
    ((held_is_lent f.body c.in-Input.there_from c.args.there held.0.1 held.1, c.requires.within), fits.1)

pub returns-in-Input-clause-full : goal.returns-in-Input-clause-full
returns-in-Input-clause-full c =
    let f = c.args.self.now.full in
    let held : CanHold f.body c.args.at c.args.there c.args.count (Input c.in-Input.there_from) = search rules in
    c.note_apart.ensures.full ∙ ap (λ (k : ℕ). full_after (Splice k c.args.there c.args.pointer (lent f.body.input c.args.from c.args.count)) f) (sym held.0.0)

pub push_apart-requires-clause-spare : goal.push_apart-requires-clause-spare
push_apart-requires-clause-spare c = first_place c.self.inside.done c.args.self.now.spare c.self.inside.entry (ap (λ (r : Recording). r.spare) c.self.view_is) c.requires.spare

pub returns-in-Memory-clause-spare : goal.returns-in-Memory-clause-spare
returns-in-Memory-clause-spare c =
    one_less_seen c.self.inside.done c.args.self.now.spare c.self.inside.entry c.push_apart.new.self (ap (λ (r : Recording). r.spare) c.self.view_is) c.push_apart.ensures.spare (λ le. c.push_apart.ensures.apart)
