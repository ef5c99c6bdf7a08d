use Rattle.std.proofs.Common.{◌≡◌, None, true, ◌-◌, ◌+◌, ◌*◌, List, length}
use Rattle.teco_core.specs.ArgumentsView.{arguments}
use Rattle.teco_exec.specs.Machine.{Caller}
use Rattle.teco_scan.specs.Lists.{nodes}
use Rattle.teco_exec.specs.Quiet.{IsQuiet, takes_no_memory}
use Rattle.teco_exec.specs.View.{cursor}
use Rattle.teco_exec.specs.Running.{ReachesContinuation, RunGoesOn, Origin, at_beginning, at_cursor, host}
use Rattle.teco_exec.specs.Following.{KeepsWatch}
use Rattle.teco_exec.specs.Tokens.{CountsSteps}
use Rattle.teco_exec.proofs.texts.+run_text.Given as goal

abbrev pub decreases-run_text : goal.decreases-run_text
decreases-run_text g l = 5 * (32 - l.running.now.depth) + 4

abbrev pub decreases-run_apart : goal.decreases-run_apart
decreases-run_apart g l = 5 * (32 - l.running.now.depth) + 3

abbrev pub decreases-run_in : goal.decreases-run_in
decreases-run_in g l = 5 * (32 - l.running.now.depth) + 2

abbrev pub decreases-run_called : goal.decreases-run_called
decreases-run_called g l = 5 * (32 - l.running.now.depth) + 1

abbrev pub decreases-run_copy : goal.decreases-run_copy
decreases-run_copy g l = 5 * (32 - l.running.now.depth)

abbrev pub invariant-run_in-running : goal.invariant-run_in-running
invariant-run_in-running g l = record {
  text : l.cursor.text ≡ l.text;
  counts : CountsSteps (g.S.Stop.answered l.fn.stop) (g.S.Stop.answered l.stop) ⊥ l.fn.running.steps l.running.steps;
  watch : g.W.Watch.knows l.fn.running.watch None → g.W.Watch.knows l.running.watch None;
  visits : KeepsWatch l.text.profile g.D.Desk g.T.Terminal g.W.Watch.follows l.fn.running.depth (l.fn.desk, l.fn.term, l.fn.running.steps)
      (at_beginning l.text.profile (arguments l.fn.args) l.text.bytes.now) l.fn.running.watch l.running.watch l.running.steps.done;
  depth : l.running.depth ≡ l.fn.running.depth;
  quiet : takes_no_memory (nodes l.text.profile l.text.bytes.now) ≡ true → IsQuiet l.cursor.text.profile (cursor l.cursor);
  going : (o : Origin) (callers : List Caller) → length callers ≡ l.fn.running.depth
      → RunGoesOn o (host g.D.Desk g.T.Terminal (l.fn.desk, l.fn.term, l.fn.running.steps)) (at_beginning l.text.profile (arguments l.fn.args) l.text.bytes.now callers)
      → ReachesContinuation o (host g.D.Desk g.T.Terminal (l.fn.desk, l.fn.term, l.fn.running.steps))
      (host g.D.Desk g.T.Terminal (l.desk, l.term, l.running.steps)) (at_cursor l.cursor callers);
}

abbrev pub decreases-run_in-running : goal.decreases-run_in-running
decreases-run_in-running g l = (l.running.steps.limit - l.running.steps.done) * (length l.text.bytes.now + 1) + length (cursor l.cursor).left
