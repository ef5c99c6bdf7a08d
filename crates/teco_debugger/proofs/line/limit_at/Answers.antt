use Rattle.std.proofs.Common.{◌∙◌, ap, codes, min, subst, sym}
use Rattle.std.specs.Str.Parse.{ParsesUnsigned, ExplainsUnsignedError, HasUnsignedDigitsIfOk}
use Rattle.clap.proofs.WalkLemmas.{one_text-rows}
use Rattle.clap.specs.Words.{found_of, one_of, rows_of}
use Rattle.teco_debugger.specs.CommandLine.{IsLimit}
use Rattle.teco_debugger.proofs.CommandLines.{limit_read}
use Rattle.teco_debugger.proofs.line.limit_at.Goals as goal

pub returns-clause-limit : goal.returns-clause-limit
returns-clause-limit c =
    let text = one_of (codes "limit") (rows_of (found_of c.args.matches.now)) in
    let same = one_text-rows (found_of c.args.matches.now) (codes "limit") in
    let is = c.min.ensures ∙ ap (λ n. min n 1000000000000) c.unwrap_or.ensures in
    subst (IsLimit text) (sym is)
    (limit_read (λ bs r. ParsesUnsigned 64 10 bs r × ExplainsUnsignedError 10 bs r × HasUnsignedDigitsIfOk bs r) (λ u x g. g.0) text c.get_one.result
    (λ e. c.get_one.ensures.none (same ∙ e)) (λ t e. c.get_one.ensures.value t (same ∙ e)))
