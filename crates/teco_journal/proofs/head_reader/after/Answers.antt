use Rattle.std.proofs.Common.{◌≡◌, true, Some, None}
use Rattle.std.proofs.lemmas.Bool.Decides.{Decides-eqb}
use Rattle.std.proofs.lemmas.Slice.Eq.{strip_prefix_is, starts_is}
use Rattle.teco_journal.proofs.Cuts.{cut_from, differs_from}
use Rattle.teco_journal.proofs.head_reader.after.Goals as goal

pub returns-in-Some : goal.returns-in-Some
returns-in-Some c = strip_prefix_is Decides-eqb c.args.bytes.now c.args.word.now (Some c.in-Some.rest) c.in-Some.ensures.cases

pub returns-then-starts_with : goal.returns-then-starts_with
returns-then-starts_with c =
    cut_from c.args.word.now c.args.bytes.now (strip_prefix_is Decides-eqb c.args.bytes.now c.args.word.now None c.in_default.ensures.cases)
    ((starts_is Decides-eqb c.args.word.now c.args.bytes.now c.starts_with.result c.starts_with.ensures.value).0 c.if-starts_with.true)

pub returns-else-starts_with : goal.returns-else-starts_with
returns-else-starts_with c =
    differs_from c.args.word.now c.args.bytes.now (strip_prefix_is Decides-eqb c.args.bytes.now c.args.word.now None c.in_default.ensures.cases)
    (λ rest is.
    (let yes : c.starts_with.result ≡ true = (starts_is Decides-eqb c.args.word.now c.args.bytes.now c.starts_with.result c.starts_with.ensures.value).1 rest is in cc))
