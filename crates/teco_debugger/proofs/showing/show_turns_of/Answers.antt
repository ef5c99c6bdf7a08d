use Rattle.std.specs.String.{string_bytes}
use Rattle.teco_debugger.proofs.CallLines.{no_turns, turns_there}
use Rattle.teco_debugger.proofs.showing.show_turns_of.Goals as goal

pub returns-in-None : goal.returns-in-None
returns-in-None c = no_turns c.args.place.now.calls.items c.deref.result.now c.args.k (string_bytes c.args.out.now) c.deref.ensures.value c.in-None.ensures.lookup.0

pub returns-in-Some : goal.returns-in-Some
returns-in-Some c =
    turns_there c.show_turns.result c.args.place.now.calls.items c.deref.result.now c.in-Some.call.now c.as_slice.result.now c.args.k (string_bytes c.args.out.now) (string_bytes c.show_turns.new.out)
    c.deref.ensures.value c.in-Some.ensures.lookup.0 c.in-Some.ensures.lookup.1 c.as_slice.ensures.value c.show_turns.ensures
