use Rattle.std.proofs.Common.{Some, length, option_map, ap, ◌∙◌, sym}
use Rattle.teco_c.proofs.Telling.{TellsIf-closed, TellsIf-outside, TellsIf-there, changes_there, changes_past}
use Rattle.teco_c.specs.Changes.{changes_of}
use Rattle.teco_c.proofs.changes.teco_changes.Goals as goal

pub returns-in_default-clause-told : goal.returns-in_default-clause-told
returns-in_default-clause-told c = TellsIf-closed _ c.in_default.ensures.value 0 (λ kept. option_map length (changes_of c.args.i kept))

pub returns-then-strings-i-clause-told : goal.returns-then-strings-i-clause-told
returns-then-strings-i-clause-told c =
    let past = changes_past c.in-Some.session.now c.args.i c.strings.result c.strings.ensures.value c.if-strings-i.true in
    TellsIf-outside _ _ c.in-Some.ensures.value 0 (λ kept. option_map length (changes_of c.args.i kept)) (ap (option_map length) past)

pub returns-clause-told : goal.returns-clause-told
returns-clause-told c =
    let there = changes_there c.in-Some.session.now c.args.i c.strings.result c.strings.ensures.value c.if-strings-i.false in
    TellsIf-there _ _ c.in-Some.ensures.value 0 (λ kept. option_map length (changes_of c.args.i kept)) c.len.result
    (ap (option_map length) there ∙ ap (λ changes. Some (length changes)) (sym c.entry.ensures.value) ∙ ap Some (sym c.len.ensures))
