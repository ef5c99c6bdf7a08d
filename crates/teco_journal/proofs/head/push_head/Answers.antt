use Rattle.std.proofs.Common.{◌++◌, ℕ, List, ap, ◌∙◌}
use Rattle.teco_journal.specs.Heads.{beginning_in}
use Rattle.teco_journal.proofs.WholeHeads.{head_put}
use Rattle.teco_journal.proofs.head.push_head.Goals as goal

pub returns : goal.returns
returns c =
    head_put c.push_start_lines.result c.args.out.now.items c.extend_from_slice.new.self.items c.push_start_lines.new.out.items (beginning_in c.args.start)
    (c.in_ok-extend_from_slice.ensures.items ∙ ap (λ (l : List ℕ). c.args.out.now.items ++ l) c.version_line.ensures) c.push_start_lines.ensures
