use Rattle.std.proofs.Common.{◌≡◌, ◌+◌, suc, ap, arith, ◌∙◌}
use Rattle.std.specs.String.{string_bytes}
use Rattle.teco_debugger.specs.Around.{after_lines}
use Rattle.teco_debugger.proofs.NumberedLines.{more_after, more_numbered, no_numbered}
use Rattle.teco_debugger.proofs.around.show_numbered_lines.Goals as goal

pub loop-k-init : goal.loop-k-init
loop-k-init c =
    let same : c.args.from ≡ c.args.from + 0 = omega arith in
    record {
      rest = c.after_lines-rest.ensures ∙ ap (after_lines c.args.text.now) same;
      shown = no_numbered c.args.text.now c.args.from (string_bytes c.args.out.now);
    }

pub loop-k-preserved : goal.loop-k-preserved
loop-k-preserved c =
    let next : c.args.from + (c.loop-k.k + 1) ≡ suc (c.args.from + c.loop-k.k) = omega arith in
    record {
      rest = more_after c.args.text.now (c.args.from + c.loop-k.k) (c.args.from + (c.loop-k.k + 1)) c.loop-k.rest.now c.after_line-rest.result.now next c.loop-k.invariant.rest c.after_line-rest.ensures;
      shown =
          more_numbered c.args.text.now c.args.from c.loop-k.k c.loop-k.rest.now (string_bytes c.args.out.now) (string_bytes c.loop-k.out) (string_bytes c.show_first.new.out)
          c.loop-k.invariant.rest c.loop-k.invariant.shown c.in_ok-show_first.ensures;
    }
