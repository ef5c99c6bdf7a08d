use Rattle.std.proofs.Common.{map}
use Rattle.std.specs.String.{string_bytes}
use Rattle.std.proofs.lemmas.Result.{IfErr-weaker}
use Rattle.teco_cli.proofs.CommandLines.{fault_is, given_is, line_is, read_fault_is}
use Rattle.teco_cli.proofs.line.line_by.Goals as goal

-- what every parse gives
pub fitting_line_in-requires : goal.fitting_line_in-requires
fitting_line_in-requires c = record { given = given_is c.args.command c.requires.command c.in-Ok.matches c.in-Ok.ensures.parsed }

pub returns-in-Ok-clause-line : goal.returns-in-Ok-clause-line
returns-in-Ok-clause-line c =
    let parse = c.in-Ok.ensures in
    line_is c.args.command c.in-Ok.matches (map (λ x. string_bytes x) c.args.words.now) c.requires.command parse.matches parse.kinds
    c.fitting_line_in.result c.fitting_line_in.ensures.line c.fitting_line_in.ensures.fits

pub returns-in-Ok-clause-refused : goal.returns-in-Ok-clause-refused
returns-in-Ok-clause-refused c =
    let parse = c.in-Ok.ensures in
    IfErr-weaker c.fitting_line_in.result _ _ (read_fault_is c.args.command c.in-Ok.matches (map (λ x. string_bytes x) c.args.words.now) c.requires.command parse.matches parse.kinds)
    c.fitting_line_in.ensures.refused

-- the parser's error is told as what it is
pub returns-in-Err-clause-refused : goal.returns-in-Err-clause-refused
returns-in-Err-clause-refused c =
    fault_is c.args.command (map (λ x. string_bytes x) c.args.words.now) c.in-Err.error c.refusal_of.result c.requires.command c.in-Err.ensures.passes c.in-Err.ensures.kinds
    c.refusal_of.ensures
