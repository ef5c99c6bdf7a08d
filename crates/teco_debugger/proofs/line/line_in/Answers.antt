use Rattle.clap.specs.Words.{found_of, rows_of}
use Rattle.teco_debugger.specs.CommandLine.{HasTexts}
use Rattle.teco_debugger.proofs.CommandLines.{has_line, read_fault}
use Rattle.teco_debugger.proofs.line.line_in.Goals as goal

pub returns-in-Ok-clause-line : goal.returns-in-Ok-clause-line
returns-in-Ok-clause-line c =
    let given = c.in-Ok.ensures in
    let texts : HasTexts (rows_of (found_of c.args.matches.now)) c.in-Ok.texts =
    record { word = given.word; files = given.files; bytes = given.bytes; session = given.session; input = given.input } in
    has_line (rows_of (found_of c.args.matches.now)) c.line_with.result c.profile_at-profile.result c.in-Ok.texts c.number_in.result c.limit_at.result c.profile_at-profile.ensures texts
    c.number_in.ensures c.limit_at.ensures.limit c.line_with.ensures.limit c.line_with.ensures.profile c.line_with.ensures.fits c.line_with.ensures.origin c.line_with.ensures.input

pub returns-in-Ok-clause-refused : goal.returns-in-Ok-clause-refused
returns-in-Ok-clause-refused c =
    let given = c.in-Ok.ensures in
    let texts : HasTexts (rows_of (found_of c.args.matches.now)) c.in-Ok.texts =
    record { word = given.word; files = given.files; bytes = given.bytes; session = given.session; input = given.input } in
    read_fault (rows_of (found_of c.args.matches.now)) c.line_with.result c.profile_at-profile.result c.in-Ok.texts c.number_in.result c.profile_at-profile.ensures texts c.number_in.ensures c.line_with.ensures.refused
