use Rattle.std.specs.Prelude.{IfSome}
use Rattle.std.proofs.lemmas.Result.{IfErr-weaker}
use Rattle.clap.specs.Words.{found_of, rows_of}
use Rattle.teco_cli.specs.CommandLine.{IsDepth, IsStepLimit, IsPageLength, IsTime}
use Rattle.teco_cli.specs.Options.{HasLine}
use Rattle.teco_cli.proofs.CommandLines.{misfit_is, same_line}
use Rattle.teco_cli.proofs.line.fitting_line_in.Goals as goal

pub returns-clause-line : goal.returns-clause-line
returns-clause-line c = same_line (HasLine (rows_of (found_of c.args.matches.now))) c.fitting.result c.in_ok-line.line c.fitting.ensures.same c.in_ok-line.ensures.line

pub returns-clause-range : goal.returns-clause-range
returns-clause-range c = same_line (λ line. IfSome line.limit IsStepLimit × IfSome line.undo IsDepth) c.fitting.result c.in_ok-line.line c.fitting.ensures.same c.in_ok-line.ensures.range

pub returns-clause-page_lines : goal.returns-clause-page_lines
returns-clause-page_lines c = same_line (λ line. IfSome line.page_lines IsPageLength) c.fitting.result c.in_ok-line.line c.fitting.ensures.same c.in_ok-line.ensures.page_lines

pub returns-clause-seconds : goal.returns-clause-seconds
returns-clause-seconds c = same_line (λ line. IfSome line.seconds IsTime) c.fitting.result c.in_ok-line.line c.fitting.ensures.same c.in_ok-line.ensures.seconds

pub returns-clause-refused : goal.returns-clause-refused
returns-clause-refused c =
    IfErr-weaker c.fitting.result _ _ (misfit_is (rows_of (found_of c.args.matches.now)) c.in_ok-line.line c.in_ok-line.ensures.line) c.fitting.ensures.refused
