use Rattle.std.proofs.Common.{◌∙◌, sym, ap, [], unwrap_or}
use Rattle.std.proofs.lemmas.Result.{IfOk-weaker}
use Rattle.clap.proofs.WalkLemmas.{raw_values-rows}
use Rattle.clap.specs.Words.{found_of}
use Rattle.teco_debugger.proofs.arguments.texts_at.Goals as goal

pub returns : goal.returns
returns c =
    let has = c.get_strs.ensures ∙ raw_values-rows (found_of c.args.matches.now) c.args.id.now in
    IfOk-weaker c.texts_given.result _ _ (λ given h. ap (λ o. unwrap_or o []) (sym has) ∙ sym h) c.texts_given.ensures
