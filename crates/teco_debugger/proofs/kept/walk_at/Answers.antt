use Rattle.std.proofs.Common.{◌≤◌, ◌∙◌, ap, arith, length, subst, sym}
use Rattle.teco_journal.specs.Events.{events_of}
use Rattle.teco_journal.specs.Heads.{beginning_in}
use Rattle.teco_session.specs.History.{History}
use Rattle.teco_debugger.specs.Kept.{cursor_at}
use Rattle.teco_debugger.proofs.KeptStrings.{told_depth, told_first}
use Rattle.teco_debugger.proofs.kept.walk_at.Goals as goal

pub on_to-requires-clause-within : goal.on_to-requires-clause-within
on_to-requires-clause-within c = subst (λ (h : History). c.args.i ≤ length h.notes) (sym c.back_to.ensures.2) (omega (arith, c.requires.within))

pub on_to-requires-clause-before : goal.on_to-requires-clause-before
on_to-requires-clause-before c = subst (λ (h : History). h.cursor ≤ c.args.i) (sym c.back_to.ensures.2) c.back_to.ensures.1

pub over-requires-clause-first : goal.over-requires-clause-first
over-requires-clause-first c =
    ap (λ (h : History). h.first) (c.on_to.ensures ∙ ap (λ h. cursor_at h c.args.i) c.back_to.ensures.2 ∙ ap (λ h. cursor_at h c.args.i) c.requires.history)
    ∙ told_first (beginning_in c.args.file.now.start) (events_of c.args.file.now.journal.records.items)
    ∙ sym c.in_ok-opening.ensures.first

pub over-requires-clause-depth : goal.over-requires-clause-depth
over-requires-clause-depth c =
    ap (λ (h : History). h.depth) (c.on_to.ensures ∙ ap (λ h. cursor_at h c.args.i) c.back_to.ensures.2 ∙ ap (λ h. cursor_at h c.args.i) c.requires.history)
    ∙ told_depth (beginning_in c.args.file.now.start) (events_of c.args.file.now.journal.records.items)
