use Rattle.std.proofs.Common.{◌∙◌, [], length, rules, sym}
use Rattle.std.specs.List.{All}
use Rattle.teco_store.specs.Output.{text_in}
use Rattle.teco_store.specs.Parts.{EndsWithin}
use Rattle.teco_store.proofs.Outputs.{joined_front}
use Rattle.teco_store.proofs.output.Output.forget_shared.Goals as goal

pub returns-then-end_within-clause-bytes : goal.returns-then-end_within-clause-bytes
returns-then-end_within-clause-bytes c =
    let o = c.args.self.now in
    let input = c.args.input.now in
    let ordered = c.requires.part.0.ordered in
    let ends : All (EndsWithin (length input)) o.parts.items = search rules in
    joined_front o.own.items input [] o.parts.items ordered ends ∙ sym (joined_front o.own.items input (text_in o.shared) o.parts.items ordered ends)
