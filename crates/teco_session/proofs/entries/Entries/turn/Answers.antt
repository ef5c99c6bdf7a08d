use Rattle.std.proofs.Common.{sym, ◌∙◌, ap, arith}
use Rattle.std.proofs.lemmas.Grind.{common_steps}
use Rattle.std.proofs.lemmas.Option.{get_or_from_slice_get}
use Rattle.teco_store.specs.State.{with_body}
use Rattle.teco_session.specs.Strings.{KeptString}
use Rattle.teco_session.specs.Turns.{body_turned, string_turned}
use Rattle.teco_session.specs.Entries.{strings_of}
use Rattle.teco_session.proofs.Places.{string_read, string_set}
use Rattle.teco_session.proofs.entries.Entries.turn.Goals as goal

pub returns-in-All-clause-editor : goal.returns-in-All-clause-editor
returns-in-All-clause-editor c =
    c.turn.ensures.editor ∙ ap (λ (x : KeptString). with_body c.args.editor.now (body_turned c.args.way x.changes c.args.editor.now.body)) (sym (string_read _ c.in-All.all.items _ c.args.i (ap strings_of c.in-All.is) c.requires.within c.index_mut.ensures.value))

pub returns-in-All-clause-strings : goal.returns-in-All-clause-strings
returns-in-All-clause-strings c =
    string_set (λ x. string_turned c.args.way x c.args.editor.now.body) _ c.in-All.all.items _ _ c.args.i (ap strings_of c.in-All.is) c.requires.within c.index_mut.ensures.value c.turn.ensures.entry

pub returns-in-Some-clause-editor : goal.returns-in-Some-clause-editor
returns-in-Some-clause-editor c =
    let entry = c.in-Some.entry.now in
    let read = get_or_from_slice_get c.in-Last.ring.items c.args.i entry entry (sym c.in-Some.ensures.value) in
    c.turn-in-Some.ensures.editor ∙ ap (λ (x : KeptString). with_body c.args.editor.now (body_turned c.args.way x.changes c.args.editor.now.body)) (sym (string_read _ c.in-Last.ring.items entry c.args.i (ap strings_of c.in-Last.is) c.requires.within (sym read)))

pub returns-in-Some-clause-strings : goal.returns-in-Some-clause-strings
returns-in-Some-clause-strings c =
    let entry = c.in-Some.entry.now in
    let read = get_or_from_slice_get c.in-Last.ring.items c.args.i entry entry (sym c.in-Some.ensures.value) in
    string_set (λ x. string_turned c.args.way x c.args.editor.now.body) _ c.in-Last.ring.items entry _ c.args.i (ap strings_of c.in-Last.is) c.requires.within (sym read) c.turn-in-Some.ensures.entry

pub returns-in-All-clause-depth : goal.returns-in-All-clause-depth
returns-in-All-clause-depth c = grind (arith, common_steps)

pub returns-in-Some-clause-depth : goal.returns-in-Some-clause-depth
returns-in-Some-clause-depth c = grind (arith, common_steps)

pub index_mut-requires : goal.index_mut-requires
index_mut-requires c = grind (arith, common_steps)

pub unreachable-unreachable : goal.unreachable-unreachable
unreachable-unreachable c = grind (arith, common_steps)
