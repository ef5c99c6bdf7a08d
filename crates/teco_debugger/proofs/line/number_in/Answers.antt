use Rattle.std.proofs.Common.{◌∙◌, codes}
use Rattle.std.specs.Str.Parse.{ParsesUnsigned, ExplainsUnsignedError, HasUnsignedDigitsIfOk}
use Rattle.clap.proofs.WalkLemmas.{one_text-rows}
use Rattle.clap.specs.Words.{found_of, one_of, rows_of}
use Rattle.teco_debugger.proofs.CommandLines.{number_read}
use Rattle.teco_debugger.proofs.line.number_in.Goals as goal

pub returns : goal.returns
returns c =
    let text = one_of (codes "string") (rows_of (found_of c.args.matches.now)) in
    let same = one_text-rows (found_of c.args.matches.now) (codes "string") in
    number_read (λ bs r. ParsesUnsigned 64 10 bs r × ExplainsUnsignedError 10 bs r × HasUnsignedDigitsIfOk bs r) (λ u x g. g.0) text c.get_one.result
    (λ e. c.get_one.ensures.none (same ∙ e)) (λ t e. c.get_one.ensures.value t (same ∙ e))
