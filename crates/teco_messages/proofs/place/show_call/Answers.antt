use Rattle.std.specs.String.{string_bytes}
use Rattle.teco_messages.proofs.Calls.{call_there, is_none, is_some_call, no_call}
use Rattle.teco_messages.proofs.place.show_call.Goals as goal

pub returns-in-None : goal.returns-in-None
returns-in-None c =
    no_call c.args.place.now c.args.k c.args.registers.now c.args.string.now (string_bytes c.args.out.now)
    (is_none c.args.place.now.calls.items c.deref.result.now c.args.k c.deref.ensures.value c.in-None.ensures.lookup.0)

pub returns-in-Some : goal.returns-in-Some
returns-in-Some c =
    call_there c.show_call_in.result c.args.place.now c.args.k c.args.registers.now c.args.string.now (string_bytes c.args.out.now) (string_bytes c.show_call_in.new.out) c.text_under.result.now c.in-Some.call.now
    (is_some_call c.args.place.now.calls.items c.deref.result.now c.args.k c.in-Some.call.now c.deref.ensures.value c.in-Some.ensures.lookup.0 c.in-Some.ensures.lookup.1)
    c.text_under.ensures c.show_call_in.ensures
