use Rattle.std.proofs.Common.{Some, option_map, ap, ◌∙◌, sym}
use Rattle.teco_c.proofs.Telling.{TellsIf-closed, TellsIf-outside, TellsIf-there, string_there, string_past}
use Rattle.teco_c.specs.Looks.{string_of}
use Rattle.teco_c.proofs.history.teco_steps.Goals as goal

pub returns-in_default-clause-told : goal.returns-in_default-clause-told
returns-in_default-clause-told c = TellsIf-closed _ c.in_default.ensures.value 0 (λ kept. option_map (λ note. note.steps) (string_of c.args.i kept))

pub returns-then-strings-i-clause-told : goal.returns-then-strings-i-clause-told
returns-then-strings-i-clause-told c =
    let past = string_past c.in-Some.session.now c.args.i c.strings.result (λ note. note.steps) c.strings.ensures.history c.if-strings-i.true in
    TellsIf-outside _ _ c.in-Some.ensures.value 0 (λ kept. option_map (λ note. note.steps) (string_of c.args.i kept)) past

pub returns-clause-told : goal.returns-clause-told
returns-clause-told c =
    let there = string_there c.in-Some.session.now c.args.i c.strings.result (λ note. note.steps) c.strings.ensures.history c.if-strings-i.false in
    TellsIf-there _ _ c.in-Some.ensures.value 0 (λ kept. option_map (λ note. note.steps) (string_of c.args.i kept)) c.steps.result (there ∙ ap Some (sym c.steps.ensures.history))
