use Rattle.std.proofs.Common.{map}
use Rattle.std.specs.String.{string_bytes}
use Rattle.teco_cli.specs.Parsing.{app_by}
use Rattle.teco_cli.proofs.Parses.{matches_by, taken_by, unparsed_by}
use Rattle.teco_cli.proofs.parsing.parsed.Goals as goal

pub returns-in-Ok-clause-matches : goal.returns-in-Ok-clause-matches
returns-in-Ok-clause-matches c =
    matches_by c.in_ok-command_of.field-0 (app_by c.args.program.now c.args.rows.now) c.in_ok-command_of.ensures (map (λ x. string_bytes x) c.args.words.now)
    c.in-Ok.matches c.in-Ok.ensures.matches

pub returns-in-Ok-clause-taken : goal.returns-in-Ok-clause-taken
returns-in-Ok-clause-taken c =
    taken_by c.in_ok-command_of.field-0 (app_by c.args.program.now c.args.rows.now) c.in_ok-command_of.ensures (map (λ x. string_bytes x) c.args.words.now)
    c.in-Ok.ensures.kinds

-- the parser's error is told as what it is
pub returns-in-Err-clause-refused : goal.returns-in-Err-clause-refused
returns-in-Err-clause-refused c =
    unparsed_by c.in_ok-command_of.field-0 (app_by c.args.program.now c.args.rows.now) c.in_ok-command_of.ensures (map (λ x. string_bytes x) c.args.words.now)
    c.in-Err.error c.refusal_of.result c.in-Err.ensures.passes c.in-Err.ensures.kinds c.refusal_of.ensures
