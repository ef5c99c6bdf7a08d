use Rattle.std.proofs.Common.{refl, suc, inl, inr}
use Rattle.teco_debugger.specs.Serving.{stage}
use Rattle.teco_debugger.proofs.Served.{answered_more}
use Rattle.teco_debugger.proofs.serving.serve.Goals as goal

pub loop-i-init : goal.loop-i-init
loop-i-init g c = (0, refl)

pub returns-in-Some : goal.returns-in-Some
returns-in-Some g c =
    let inv = c.loop-i.invariant in
    record {
      lines = inv.0;
      after = stage (g.C.Read.remaining c.loop-i.commands) c.loop-i.debugger (g.T.Terminal.screen c.loop-i.term);
      answered = inv.1;
      ends = inl c.in-Some.ensures;
    }

pub loop-i-preserved : goal.loop-i-preserved
loop-i-preserved g c =
    let inv = c.loop-i.invariant in
    (suc inv.0, answered_more c.args.prompts inv.0 _ _ _ inv.1 c.in_default.ensures)

pub returns : goal.returns
returns g c =
    let inv = c.loop-i.invariant in
    record {
      lines = inv.0;
      after = stage (g.C.Read.remaining c.loop-i.commands) c.loop-i.debugger (g.T.Terminal.screen c.loop-i.term);
      answered = inv.1;
      ends = inr (refl, refl);
    }
