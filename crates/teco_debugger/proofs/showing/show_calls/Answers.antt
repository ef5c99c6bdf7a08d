use Rattle.std.specs.String.{string_bytes}
use Rattle.teco_debugger.proofs.CallLines.{more_lines, no_lines}
use Rattle.teco_debugger.proofs.showing.show_calls.Goals as goal

pub loop-k-init : goal.loop-k-init
loop-k-init c = no_lines c.args.walk.now c.args.string.now c.args.place.now (string_bytes c.args.out.now)

pub loop-k-preserved : goal.loop-k-preserved
loop-k-preserved c =
    more_lines c.args.walk.now c.args.string.now c.args.place.now c.loop-k.k (string_bytes c.args.out.now) (string_bytes c.loop-k.out) (string_bytes c.show_call_line.new.out) c.loop-k.invariant c.in_ok-show_call_line.ensures
