use Rattle.std.proofs.Common.{ℕ}
use Rattle.teco_debugger.specs.Serving.{AnswersLines, stage}
use Rattle.teco_debugger.proofs.serving.serve.Given as goal

abbrev pub invariant-loop-i : goal.invariant-loop-i
invariant-loop-i g l = (lines : ℕ) × AnswersLines l.prompts lines (stage (g.C.Read.remaining l.fn.commands) l.fn.debugger (g.T.Terminal.screen l.fn.term))
    (stage (g.C.Read.remaining l.commands) l.debugger (g.T.Terminal.screen l.term))
