use Rattle.std.proofs.Common.{codes, map}
use Rattle.std.specs.String.{string_bytes}
use Rattle.teco_cli.specs.Parsing.{app_by}
use Rattle.teco_cli.proofs.Parses.{app_is}
use Rattle.teco_debugger.specs.CommandLine.{debug_rules}
use Rattle.teco_debugger.proofs.CommandLines.{line_is, refused_is, unparsed_is}
use Rattle.teco_debugger.proofs.line.line_of.Goals as goal

pub returns-in-Ok-clause-line : goal.returns-in-Ok-clause-line
returns-in-Ok-clause-line c =
    let is = app_is c.program.result.now c.arguments.result.now (codes "teco-debug") debug_rules c.program.ensures c.arguments.ensures in
    line_is (app_by c.program.result.now c.arguments.result.now) is c.in-Ok.matches (map (λ x. string_bytes x) c.args.words.now) c.in-Ok.ensures.matches c.in-Ok.ensures.taken
    c.line_in.result c.line_in.ensures.line

pub returns-in-Ok-clause-refused : goal.returns-in-Ok-clause-refused
returns-in-Ok-clause-refused c =
    let is = app_is c.program.result.now c.arguments.result.now (codes "teco-debug") debug_rules c.program.ensures c.arguments.ensures in
    refused_is (app_by c.program.result.now c.arguments.result.now) is c.in-Ok.matches (map (λ x. string_bytes x) c.args.words.now) c.in-Ok.ensures.matches c.in-Ok.ensures.taken
    c.line_in.result c.line_in.ensures.refused

pub returns-in-Err-clause-refused : goal.returns-in-Err-clause-refused
returns-in-Err-clause-refused c =
    let is = app_is c.program.result.now c.arguments.result.now (codes "teco-debug") debug_rules c.program.ensures c.arguments.ensures in
    unparsed_is (app_by c.program.result.now c.arguments.result.now) is (map (λ x. string_bytes x) c.args.words.now) c.in-Err.fault c.in-Err.ensures.refused
