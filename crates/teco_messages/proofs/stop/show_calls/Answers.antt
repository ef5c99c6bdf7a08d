use Rattle.std.specs.String.{string_bytes}
use Rattle.teco_messages.proofs.Calls.{more_calls, no_calls}
use Rattle.teco_messages.proofs.stop.show_calls.Goals as goal

pub loop-k-init : goal.loop-k-init
loop-k-init c = no_calls c.args.place.now c.args.registers.now c.args.string.now (string_bytes c.args.out.now)

pub loop-k-preserved : goal.loop-k-preserved
loop-k-preserved c =
    more_calls c.args.place.now c.args.registers.now c.args.string.now c.loop-k.k (string_bytes c.args.out.now) (string_bytes c.loop-k.out) _ (string_bytes c.show_call.new.out) c.loop-k.invariant c.in_ok-push_str.ensures.bytes c.in_ok-show_call.ensures
