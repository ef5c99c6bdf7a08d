use Rattle.std.proofs.Common.{Some, length, option_map, ap, ◌∙◌, sym}
use Rattle.teco_c.proofs.Telling.{TellsIf-closed, TellsIf-outside, TellsIf-there, CopiesIf-closed, CopiesIf-outside, CopiesIf-there, string_there, string_past}
use Rattle.teco_c.specs.Looks.{string_of}
use Rattle.teco_c.proofs.history.teco_string.Goals as goal

pub returns-in_default-clause-length : goal.returns-in_default-clause-length
returns-in_default-clause-length c = TellsIf-closed _ c.in_default.ensures.value 0 (λ kept. option_map (λ note. length note.text) (string_of c.args.i kept))

pub returns-in_default-clause-text : goal.returns-in_default-clause-text
returns-in_default-clause-text c = CopiesIf-closed _ c.in_default.ensures.value c.args.room.now (λ kept. option_map (λ note. note.text) (string_of c.args.i kept))

pub returns-then-strings-i-clause-length : goal.returns-then-strings-i-clause-length
returns-then-strings-i-clause-length c =
    let past = string_past c.in-Some.session.now c.args.i c.strings.result (λ note. length note.text) c.strings.ensures.history c.if-strings-i.true in
    TellsIf-outside _ _ c.in-Some.ensures.value 0 (λ kept. option_map (λ note. length note.text) (string_of c.args.i kept)) past

pub returns-then-strings-i-clause-text : goal.returns-then-strings-i-clause-text
returns-then-strings-i-clause-text c =
    let past = string_past c.in-Some.session.now c.args.i c.strings.result (λ note. note.text) c.strings.ensures.history c.if-strings-i.true in
    CopiesIf-outside _ _ c.in-Some.ensures.value c.args.room.now (λ kept. option_map (λ note. note.text) (string_of c.args.i kept)) past

pub returns-clause-length : goal.returns-clause-length
returns-clause-length c =
    let there = string_there c.in-Some.session.now c.args.i c.strings.result (λ note. length note.text) c.strings.ensures.history c.if-strings-i.false in
    TellsIf-there _ _ c.in-Some.ensures.value 0 (λ kept. option_map (λ note. length note.text) (string_of c.args.i kept)) (length c.string-text.result.now) (there ∙ ap (λ text. Some (length text)) (sym c.string-text.ensures.history))

pub returns-clause-text : goal.returns-clause-text
returns-clause-text c =
    let there = string_there c.in-Some.session.now c.args.i c.strings.result (λ note. note.text) c.strings.ensures.history c.if-strings-i.false in
    CopiesIf-there _ _ c.in-Some.ensures.value c.args.room.now c.copy_front.new.room c.string-text.result.now (λ kept. option_map (λ note. note.text) (string_of c.args.i kept)) (there ∙ ap Some (sym c.string-text.ensures.history)) c.copy_front.ensures
