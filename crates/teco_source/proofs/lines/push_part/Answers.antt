use Rattle.std.proofs.Common.{◌≡◌, ℕ, List, OnOk, subst, take, arith}
use Rattle.teco_source.specs.Source.{start, run}
use Rattle.teco_source.specs.Listing.{between}
use Rattle.teco_source.proofs.Parts.{joined}
use Rattle.teco_source.proofs.lines.push_part.Goals as goal

pub returns : goal.returns
returns c before =
    subst (λ (xs : List ℕ). OnOk c.push_line.result (run start c.push_line.new.out.items ≡ between xs))
    (joined c.args.at c.args.line.to c.args.text.now (omega arith))
    (c.push_line.ensures.says (take c.args.at c.args.text.now) c.line_mode-mode.ensures before)
