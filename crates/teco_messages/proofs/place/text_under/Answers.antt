use Rattle.std.proofs.Common.{◌∙◌, ap, sym}
use Rattle.teco_messages.specs.Placed.{text_of_call}
use Rattle.teco_messages.proofs.Calls.{is_none, is_some_call}
use Rattle.teco_messages.proofs.place.text_under.Goals as goal

pub returns-in-None : goal.returns-in-None
returns-in-None c =
    ap (λ o. text_of_call o c.args.registers.now c.args.string.now) (sym (is_none c.args.place.now.calls.items c.deref.result.now c.args.depth c.deref.ensures.value c.in-None.ensures.lookup.0))

pub returns-in-Some : goal.returns-in-Some
returns-in-Some c =
    c.text.ensures
    ∙ ap (λ o. text_of_call o c.args.registers.now c.args.string.now) (sym (is_some_call c.args.place.now.calls.items c.deref.result.now c.args.depth c.in-Some.call.now c.deref.ensures.value c.in-Some.ensures.lookup.0 c.in-Some.ensures.lookup.1))
