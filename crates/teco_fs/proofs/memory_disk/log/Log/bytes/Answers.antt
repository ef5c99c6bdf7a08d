use Rattle.std.proofs.Common.{◌≡◌, ◌≢◌, ◌∙◌, None, Some, ap, arith, sym}
use Rattle.std.specs.Option.{option_map}
use Rattle.std.proofs.lemmas.List.{at_drop_all}
use Rattle.std.proofs.lemmas.Slice.Eq.{bytes_eq-Decides}
use Rattle.teco_fs.specs.FileLog.{files_of}
use Rattle.teco_fs.proofs.FileLogs.{at_gone, at_name, at_other, log_from}
use Rattle.teco_fs.proofs.memory_disk.log.Log.bytes.Goals as goal

pub returns-in-Some : goal.returns-in-Some
returns-in-Some c =
    let note = c.note-item.result in
    let from = log_from c.deref-note-items.result.now c.loop-note.note-index note c.loop-note-test.true c.note-item.is in
    let named : c.args.name.now ≡ note.name = (bytes_eq-Decides c.args.name.now c.as_str.result.now).0 (sym c.eq.ensures ∙ c.if-eq.true) ∙ c.as_str.ensures.value ∙ ap (λ n. n.name) c.note.view_is in
    let is : Some c.as_slice.result.now ≡ note.bytes = ap (λ bytes. Some bytes) c.as_slice.ensures.value ∙ sym (ap (option_map (λ bytes. bytes.items)) c.in-Some.is) ∙ ap (λ n. n.bytes) c.note.view_is in
    is ∙ sym (at_name note from c.args.name.now named) ∙ c.loop-note.invariant

pub returns-in-None : goal.returns-in-None
returns-in-None c =
    let note = c.note-item.result in
    let from = log_from c.deref-note-items.result.now c.loop-note.note-index note c.loop-note-test.true c.note-item.is in
    let named : c.args.name.now ≡ note.name = (bytes_eq-Decides c.args.name.now c.as_str.result.now).0 (sym c.eq.ensures ∙ c.if-eq.true) ∙ c.as_str.ensures.value ∙ ap (λ n. n.name) c.note.view_is in
    let is : None ≡ note.bytes = sym (ap (option_map (λ bytes. bytes.items)) c.in-None.is) ∙ ap (λ n. n.bytes) c.note.view_is in
    is ∙ sym (at_name note from c.args.name.now named) ∙ c.loop-note.invariant

pub returns-then-eq-2 : goal.returns-then-eq-2
returns-then-eq-2 c =
    let note = c.note-item.result in
    let from = log_from c.deref-note-items.result.now c.loop-note.note-index note c.loop-note-test.true c.note-item.is in
    let here = c.as_str.ensures.value ∙ ap (λ n. n.name) c.note.view_is in
    let apart : c.args.name.now ≢ note.name = λ e. let same = (bytes_eq-Decides c.args.name.now c.as_str.result.now).1 (e ∙ sym here) in let t = sym c.if-eq.false ∙ c.eq.ensures ∙ same in cc in
    let gone : c.args.name.now ≡ note.gone = (bytes_eq-Decides c.args.name.now c.as_str-in-loop-note.result.now).0 (sym c.eq-in-loop-note.ensures ∙ c.if-eq-2.true) ∙ c.as_str-in-loop-note.ensures.value ∙ ap (λ n. n.gone) c.note.view_is in
    sym (at_gone note from c.args.name.now apart gone) ∙ c.loop-note.invariant

pub loop-note-preserved : goal.loop-note-preserved
loop-note-preserved c =
    let note = c.note-item.result in
    let from = log_from c.deref-note-items.result.now c.loop-note.note-index note c.loop-note-test.true c.note-item.is in
    let here = c.as_str.ensures.value ∙ ap (λ n. n.name) c.note.view_is in
    let apart : c.args.name.now ≢ note.name = λ e. let same = (bytes_eq-Decides c.args.name.now c.as_str.result.now).1 (e ∙ sym here) in let t = sym c.if-eq.false ∙ c.eq.ensures ∙ same in cc in
    let there = c.as_str-in-loop-note.ensures.value ∙ ap (λ n. n.gone) c.note.view_is in
    let stays : c.args.name.now ≢ note.gone = λ e. let same = (bytes_eq-Decides c.args.name.now c.as_str-in-loop-note.result.now).1 (e ∙ sym there) in let t = sym c.if-eq-2.false ∙ c.eq-in-loop-note.ensures ∙ same in cc in
    sym (at_other note from c.args.name.now apart stays) ∙ c.loop-note.invariant

pub returns : goal.returns
unfolding files_of
returns c = sym (at_drop_all (λ notes. files_of notes c.args.name.now) c.deref-note-items.result.now c.loop-note.note-index (omega arith)) ∙ c.loop-note.invariant
