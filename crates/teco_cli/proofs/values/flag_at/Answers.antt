use Rattle.std.proofs.Common.{◌∙◌}
use Rattle.std.specs.Str.Parse.{ParsesBool}
use Rattle.clap.proofs.WalkLemmas.{one_text-rows}
use Rattle.clap.specs.Words.{found_of, one_of, rows_of}
use Rattle.teco_cli.proofs.Parses.{flag_read}
use Rattle.teco_cli.proofs.values.flag_at.Goals as goal

pub returns : goal.returns
returns c =
    let same = one_text-rows (found_of c.args.matches.now) c.args.id.now in
    let flag = flag_read ParsesBool (λ u x g. g) (one_of c.args.id.now (rows_of (found_of c.args.matches.now))) c.get_one.result
    (λ e. c.get_one.ensures.none (same ∙ e)) (λ t e. c.get_one.ensures.value t (same ∙ e)) in
    rw c.unwrap_or.ensures flag
