use Rattle.std.specs.String.{string_bytes}
use Rattle.teco_debugger.proofs.StopLines.{more_stops, no_stops}
use Rattle.teco_debugger.proofs.breaks.show_stop_lines.Goals as goal

pub loop-k-init : goal.loop-k-init
loop-k-init c = no_stops c.args.sources.now c.args.stops.now (string_bytes c.args.out.now)

pub loop-k-preserved : goal.loop-k-preserved
loop-k-preserved c =
    more_stops c.args.sources.now c.args.stops.now c.loop-k.k (string_bytes c.args.out.now) (string_bytes c.loop-k.out) (string_bytes c.show_stop_line.new.out) c.loop-k.invariant c.in_ok-show_stop_line.ensures
