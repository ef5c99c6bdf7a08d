use Rattle.std.proofs.Common.{◌≡◌, ◌∙◌, ◌++◌, ◌∷◌, ap, arith}
use Rattle.std.proofs.lemmas.Result.{on_ok_weaker}
use Rattle.std.specs.Prelude.{codes, slice_range}
use Rattle.std.specs.String.{string_bytes}
use Rattle.teco_messages.specs.Spelling.{spelled}
use Rattle.teco_debugger.specs.Showing.{line_end_of, line_shown, line_start_of}
use Rattle.teco_debugger.proofs.Texts.{three_from_right}
use Rattle.teco_messages.proofs.Calls.{put_behind}
use Rattle.teco_debugger.proofs.showing.show_whole_line.Goals as goal

pub returns : goal.returns
unfolding line_shown
returns c =
    let text = c.args.text.now in
    let start = line_start_of text c.args.at in
    let end = line_end_of text c.args.at in
    let start_is : c.line_start-start.result ≡ start = omega (arith, c.line_start-start.ensures.value) in
    let one = string_bytes c.push_str.new.self in
    let two = string_bytes c.spell.new.out in
    let new = string_bytes c.push_str-2.new.self in
    let line_is =
    c.in_ok-spell.ensures ∙ ap (λ s. one ++ spelled (slice_range text s c.line_end-end.result)) start_is ∙ ap (λ e. one ++ spelled (slice_range text start e)) c.line_end-end.ensures.value in
    on_ok_weaker c.push_str-2.result
    (λ e. three_from_right (string_bytes c.args.out.now) one two new (codes "    ") (spelled (slice_range text start end)) (10 ∷ codes "    ") c.in_ok-push_str.ensures.bytes line_is e)
    (put_behind c.push_str-2.result two new (10 ∷ codes "    ") c.push_str-2.ensures.bytes)
