use Rattle.std.proofs.Common.{◌≡◌, [], sym, ◌∙◌, rules}
use Rattle.teco_source.specs.Listing.{spelled}
use Rattle.teco_source.specs.declared.reader.Mode.TheVariants.{First}
use Rattle.teco_journal.proofs.EventWords.{empty_spelled}
use Rattle.teco_journal.proofs.words.push_text.Goals as goal

pub returns-then-is_empty : goal.returns-then-is_empty
returns-then-is_empty c =
    let none : spelled First c.args.text.now ≡ [] = empty_spelled c.args.text.now (sym c.is_empty.ensures ∙ c.if-is_empty.true) in
    rw none (search rules)
