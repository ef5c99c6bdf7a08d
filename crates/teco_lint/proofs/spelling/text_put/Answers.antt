use Rattle.std.proofs.Common.{refl, arith}
use Rattle.std.proofs.lemmas.List.{drop_all}
use Rattle.teco_scan.specs.Scan.{after_fillers, scan}
use Rattle.teco_lint.proofs.spelling.text_put.Goals as goal

pub returns-then-at-text : goal.returns-then-at-text
unfolding scan after_fillers
returns-then-at-text c = rw (drop_all c.args.at c.args.text.now (omega (arith, c.if-at-text.true))) refl
