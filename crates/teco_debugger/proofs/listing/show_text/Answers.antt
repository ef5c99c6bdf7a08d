use Rattle.std.proofs.Common.{◌∙◌, ◌++◌, ap, arith}
use Rattle.std.proofs.lemmas.Result.{on_ok_weaker}
use Rattle.std.specs.Prelude.{codes, max}
use Rattle.std.specs.String.{string_bytes}
use Rattle.teco_store.specs.State.{state_of}
use Rattle.teco_debugger.specs.Listing.{lines_each_way, text_shown, with_line_end}
use Rattle.teco_debugger.proofs.LineEnds.{end_after, marked_is_some}
use Rattle.teco_debugger.proofs.listing.show_text.Goals as goal

pub returns : goal.returns
returns c =
    let s = state_of c.args.editor.now in
    let shown = text_shown s.text s.pointer (lines_each_way c.args.n) in
    on_ok_weaker c.end_line.result
    (λ e. e ∙ ap with_line_end (c.in_ok-show_lines.ensures ∙ ap (λ n. string_bytes c.args.out.now ++ text_shown s.text s.pointer n) (c.max.ensures ∙ ap (λ k. max k 1) c.min.ensures)) ∙ end_after (string_bytes c.args.out.now) shown (marked_is_some _ (codes "|>") _ (omega arith)))
    c.end_line.ensures
