use Rattle.std.proofs.Common.{rules}
use Rattle.teco_cli.specs.Values.{text_behind, texts_behind}
use Rattle.teco_cli.proofs.CommandLines.{said_many}
use Rattle.teco_cli.proofs.line.commands_of.Goals as goal

pub returns-in_default-clause-fault : goal.returns-in_default-clause-fault
returns-in_default-clause-fault c = said_many (text_behind c.args.word) (texts_behind c.args.files) (text_behind c.args.pages) (text_behind c.args.bytes) _ c.faulty_line.result (search rules) c.faulty_line.ensures
