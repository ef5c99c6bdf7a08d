use Rattle.std.proofs.Common.{◌≡◌, ◌∙◌, ℕ, List, [], ◌∷◌, ap, arith, get_or, subst, sym}
use Rattle.teco_undo.specs.Follows.{FollowsAfterChanges, Recording}
use Rattle.teco_store.specs.Turn.{Splice, full_after}
use Rattle.teco_undo.proofs.Fitting.{splice_fits_seen}
use Rattle.teco_undo.proofs.OneByte.{no_byte, one_byte}
use Rattle.teco_undo.proofs.recorder.Recorder.exchange_byte.Goals as goal

pub note-requires-clause-fits : goal.note-requires-clause-fits
note-requires-clause-fits c =
    (splice_fits_seen c.self.inside.editor c.args.self.now.full c.args.at 0 c.args.pointer (get_or c.args.ins.now 0 0 ∷ []) (ap (λ (r : Recording). r.full) c.self.view_is)
    c.shown-shown.ensures.sound (omega arith) (omega arith) (omega arith) (omega arith)).1

pub note-requires-else-there-eq0-clause-fits : goal.note-requires-else-there-eq0-clause-fits
note-requires-else-there-eq0-clause-fits c =
    (splice_fits_seen c.self.inside.editor c.args.self.now.full c.args.at 1 c.args.pointer [] (ap (λ (r : Recording). r.full) c.self.view_is)
    c.shown-shown.ensures.sound (omega arith) (omega arith) (omega arith) (omega arith)).1

pub returns-then-there-eq0-clause-full : goal.returns-then-there-eq0-clause-full
returns-then-there-eq0-clause-full c =
    let byte = one_byte c.args.ins.now 0 (omega arith) in
    c.note.ensures.full ∙ ap (λ (xs : List ℕ). full_after (Splice c.args.at 0 c.args.pointer xs) c.args.self.now.full) (sym byte)
    ∙ ap (λ (n : ℕ). full_after (Splice c.args.at n c.args.pointer c.args.ins.now) c.args.self.now.full) (sym c.if-there-eq0.true)

pub returns-then-there-eq0-clause-goes : goal.returns-then-there-eq0-clause-goes
returns-then-there-eq0-clause-goes c = subst (λ (n : ℕ). FollowsAfterChanges n 1 c.args.self.now c.note.new.self) (sym c.requires.one) c.note.ensures.goes

pub returns-else-there-eq0-clause-full : goal.returns-else-there-eq0-clause-full
returns-else-there-eq0-clause-full c =
    let none = no_byte c.args.ins.now (omega arith) in
    let one : c.args.there ≡ 1 = omega arith in
    c.note-else-there-eq0.ensures.full ∙ ap (λ (xs : List ℕ). full_after (Splice c.args.at 1 c.args.pointer xs) c.args.self.now.full) (sym none)
    ∙ ap (λ (n : ℕ). full_after (Splice c.args.at n c.args.pointer c.args.ins.now) c.args.self.now.full) (sym one)

pub returns-else-there-eq0-clause-goes : goal.returns-else-there-eq0-clause-goes
returns-else-there-eq0-clause-goes c =
    subst (λ (n : ℕ). FollowsAfterChanges n 1 c.args.self.now c.note-else-there-eq0.new.self) (sym c.requires.one) c.note-else-there-eq0.ensures.goes
