use Rattle.std.proofs.Common.{◌≡◌, ◌-◌, ◌<◌, ◌≤◌, ℕ, None, true, List}
use Rattle.teco_step.specs.Stepping.{takes_nothing_in}
use Rattle.teco_exec.specs.Machine.{Caller}
use Rattle.teco_exec.specs.Quiet.{IsQuiet}
use Rattle.teco_exec.specs.Running.{HasStoodBefore, ReachesContinuation, RunGoesOn, Origin, at_token, host}
use Rattle.teco_exec.specs.Tokens.{CountsSteps}
use Rattle.teco_exec.specs.View.{Stays, cursor}
use Rattle.teco_exec.proofs.stepping.token_steps.Given as goal

abbrev pub invariant-stepping : goal.invariant-stepping
invariant-stepping g l = record {
  text : l.cursor.text ≡ l.fn.cursor.text;
  stays : Stays l.fn.cursor l.cursor;
  counts : CountsSteps (g.S.Stop.answered l.fn.stop) (g.S.Stop.answered l.stop) ⊥ l.fn.steps l.steps;
  quiet : IsQuiet l.fn.cursor.text.profile (cursor l.fn.cursor) → takes_nothing_in l.fn.cursor.text.bytes.now l.token ≡ true → IsQuiet l.cursor.text.profile (cursor l.cursor);
  going : (o : Origin) (callers : List Caller)
      → RunGoesOn o (host g.D.Desk g.T.Terminal (l.fn.desk, l.fn.term, l.fn.steps)) (at_token l.fn.cursor l.token None callers)
      → ReachesContinuation o (host g.D.Desk g.T.Terminal (l.fn.desk, l.fn.term, l.fn.steps))
      (host g.D.Desk g.T.Terminal (l.desk, l.term, l.steps)) (at_token l.cursor l.token l.work callers);
  visited : (k : ℕ) → l.fn.steps.done ≤ k → k < l.steps.done
      → HasStoodBefore g.D.Desk g.T.Terminal (l.fn.desk, l.fn.term, l.fn.steps) l.fn.cursor l.token k;
}

abbrev pub decreases-stepping : goal.decreases-stepping
decreases-stepping g l = l.steps.limit - l.steps.done
