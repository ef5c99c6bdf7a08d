use Rattle.std.proofs.Common.{◌∙◌, ap, [], length, unwrap_or}
use Rattle.std.specs.Prelude.{nat_lt}
use Rattle.clap.proofs.WalkLemmas.{raw_values-rows}
use Rattle.clap.specs.Words.{found_of}
use Rattle.teco_cli.proofs.line.repeating.is_repeated.Goals as goal

pub returns : goal.returns
returns c =
    let texts = ap (λ o. unwrap_or o []) (c.get_strs.ensures ∙ raw_values-rows (found_of c.args.matches.now) c.args.id.now) in
    c.are_many.ensures ∙ ap (λ ts. nat_lt 1 (length ts)) texts
