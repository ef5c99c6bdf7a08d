use Rattle.std.proofs.Common.{ap, length}
use Rattle.std.proofs.lemmas.Bool.{le-ltb}
use Rattle.std.proofs.lemmas.Result.{on_ok_weaker}
use Rattle.std.specs.String.{string_bytes}
use Rattle.teco_debugger.proofs.NumberedLines.{around_is}
use Rattle.teco_debugger.proofs.around.show_lines_around.Goals as goal

pub returns : goal.returns
returns c =
    on_ok_weaker c.show_numbered_lines-2.result
    (λ e. around_is c.args.profile c.args.text.now c.args.at c.args.n c.spot_of-number.result.line c.saturating_sub.result c.min.result
    (string_bytes c.args.out.now) (string_bytes c.show_numbered_lines.new.out) (string_bytes c.show_marked.new.out) (string_bytes c.show_numbered_lines-2.new.out)
    (ap (λ s. s.line) c.spot_of-number.ensures) (le-ltb (length c.args.text.now) c.args.at c.if-at-text.false) c.saturating_sub.ensures c.min.ensures
    c.in_ok-show_numbered_lines.ensures c.in_ok-show_marked.ensures e)
    c.show_numbered_lines-2.ensures
