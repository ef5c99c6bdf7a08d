use Rattle.std.proofs.Common.{◌∙◌, ◌++◌, ap, length}
use Rattle.std.proofs.lemmas.Result.{on_ok_weaker}
use Rattle.std.specs.String.{string_bytes}
use Rattle.teco_store.specs.State.{state_of}
use Rattle.teco_debugger.proofs.Sizes.{sizes_are}
use Rattle.teco_debugger.proofs.listing.show_sizes.Goals as goal

pub returns : goal.returns
returns c =
    on_ok_weaker c.writeln.result
    (λ e. e ∙ ap (λ t. string_bytes c.args.out.now ++ t) (sizes_are c.pointer-pointer.result c.length_of-len.result c.place-place.result c.len-output.result c.len-pushed.result (state_of c.args.editor.now)
    c.pointer-pointer.ensures.value (c.length_of-len.ensures ∙ ap (λ t. length t) c.halves.ensures.joined) c.place-place.ensures.value (c.len-output.ensures ∙ ap (λ t. length t) c.output.ensures.joined)
    (c.len-pushed.ensures.value ∙ ap (λ t. length t) c.pushed.ensures.value)))
    c.writeln.ensures.bytes
