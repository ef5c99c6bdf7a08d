use Rattle.std.proofs.Common.{sym, ◌∙◌}
use Rattle.std.proofs.lemmas.Result.{IfOk-weaker}
use Rattle.clap.proofs.WalkLemmas.{first_value-rows}
use Rattle.clap.specs.Words.{found_of}
use Rattle.teco_cli.proofs.values.text_at.Goals as goal

pub returns : goal.returns
returns c =
    let same = first_value-rows (found_of c.args.matches.now) c.args.id.now in
    IfOk-weaker c.text_given.result _ _ (λ given h. sym same ∙ (sym c.get_str.ensures ∙ sym h)) c.text_given.ensures
