use Rattle.std.proofs.Common.{◌≡◌, ◌∙◌, ◌++◌, ap, drop, rules, take}
use Rattle.std.proofs.lemmas.Result.{on_ok_weaker}
use Rattle.std.specs.Prelude.{codes, pos, ◌-ℤ◌}
use Rattle.std.specs.String.{string_bytes}
use Rattle.teco_step.specs.Line.{line}
use Rattle.teco_store.specs.State.{state_of}
use Rattle.teco_debugger.specs.Listing.{lines_shown}
use Rattle.teco_debugger.proofs.Texts.{three_texts}
use Rattle.teco_debugger.proofs.listing.show_lines.Goals as goal

pub returns : goal.returns
returns c =
    let s = state_of c.args.editor.now in
    let at = c.pointer-pointer.result in
    let n = c.args.lines in
    let from_is : c.line_place-from.result ≡ line s.text s.pointer (pos 1 -ℤ pos n) = search rules in
    let to_is : c.line_place-to.result ≡ line s.text s.pointer (pos n) = search rules in
    let old = string_bytes c.args.out.now in
    let one = string_bytes c.show_part.new.out in
    let two = string_bytes c.push_str.new.self in
    let before = lines_shown (drop (line s.text s.pointer (pos 1 -ℤ pos n)) (take s.pointer s.text)) in
    let behind = lines_shown (drop s.pointer (take (line s.text s.pointer (pos n)) s.text)) in
    let before_is =
    c.in_ok-show_part.ensures ∙ ap (λ from. old ++ lines_shown (drop from (take at s.text))) from_is ∙ ap (λ p. old ++ lines_shown (drop (line s.text s.pointer (pos 1 -ℤ pos n)) (take p s.text))) c.pointer-pointer.ensures.value in
    on_ok_weaker c.show_part-2.result
    (λ e. three_texts old one two (string_bytes c.show_part-2.new.out) before (codes "|>") behind before_is c.in_ok-push_str.ensures.bytes
    (e ∙ ap (λ to. two ++ lines_shown (drop at (take to s.text))) to_is ∙ ap (λ p. two ++ lines_shown (drop p (take (line s.text s.pointer (pos n)) s.text))) c.pointer-pointer.ensures.value))
    c.show_part-2.ensures
