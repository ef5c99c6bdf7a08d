use Rattle.std.proofs.Common.{◌≡◌, ◌≤◌, ◌-◌}
use Rattle.teco_session.specs.Kept.{history_of}
use Rattle.teco_debugger.specs.Kept.{cursor_at}
use Rattle.teco_debugger.proofs.kept.on_to.Given as goal

abbrev pub invariant-loop-done : goal.invariant-loop-done
invariant-loop-done l = record {
  within : l.done ≤ l.i;
  at : history_of l.session ≡ cursor_at (history_of l.initial.session) l.done;
}

abbrev pub decreases-loop-done : goal.decreases-loop-done
decreases-loop-done l = l.i - l.done
