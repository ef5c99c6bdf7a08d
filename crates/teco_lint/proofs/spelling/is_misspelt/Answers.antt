use Rattle.std.proofs.Common.{◌+◌, ◌-◌, length, take, drop, sym, ap, ◌∙◌, arith}
use Rattle.teco_lint.specs.Strings.{strings_of}
use Rattle.teco_lint.specs.Spelling.{is_misspelt_string}
use Rattle.teco_lint.proofs.Cuts.{one_more, last_one, whole_held}
use Rattle.teco_lint.proofs.spelling.is_misspelt.Goals as goal

pub loop-end-preserved : goal.loop-end-preserved
loop-end-preserved c =
    let commands = c.args.commands.now in
    record {
      inside = omega (arith, c.in-Some.ensures.inside.1);
      so_far = c.loop-end.invariant.so_far
          ∙ one_more (is_misspelt_string c.args.profile c.args.code.now) c.loop-end.misspelt c.is_misspelt_string-misspelt.result
          (take (c.in-Some.end - c.loop-end.start) (drop c.loop-end.start commands)) (strings_of (drop (c.in-Some.end + 1) commands))
          (strings_of (drop c.loop-end.start commands)) c.in-Some.ensures.cuts c.is_misspelt_string-misspelt.ensures;
    }

pub returns : goal.returns
returns c =
    let commands = c.args.commands.now in
    sym (c.loop-end.invariant.so_far
    ∙ last_one (is_misspelt_string c.args.profile c.args.code.now) c.loop-end.misspelt c.is_misspelt_string.result
    (drop c.loop-end.start commands) (strings_of (drop c.loop-end.start commands)) c.in_default.ensures.last
    (c.is_misspelt_string.ensures ∙ ap (is_misspelt_string c.args.profile c.args.code.now) (whole_held c.loop-end.start (length commands) commands (omega arith))))
