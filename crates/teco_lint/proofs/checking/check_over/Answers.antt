use Rattle.std.proofs.Common.{◌+◌, ◌-◌, [], length, take, drop, sym, ap, subst, ◌∙◌, arith}
use Rattle.std.proofs.lemmas.Bool.{or_parts}
use Rattle.teco_lint.specs.Faults.{is_faulty_string}
use Rattle.teco_lint.specs.Right.{IsRightString}
use Rattle.teco_lint.specs.Strings.{is_unclean_string, strings_of}
use Rattle.teco_lint.specs.Told.{IsTold, tells_fault}
use Rattle.teco_lint.proofs.Cuts.{one_more, last_one, whole_held}
use Rattle.teco_lint.proofs.FirstFaults.{either_is}
use Rattle.teco_lint.proofs.Rights.{are_right, one_right}
use Rattle.teco_lint.proofs.Told.{told_later, one_told, last_told}
use Rattle.teco_lint.proofs.checking.check_over.Goals as goal

pub loop-end-preserved : goal.loop-end-preserved
loop-end-preserved c =
    let p = c.args.profile in
    let commands = c.args.commands.now in
    let code = c.registers_in-uses.result.called in
    let start = c.loop-end.start in
    let string = take (c.in-Some.end - start) (drop start commands) in
    let later = drop (c.in-Some.end + 1) commands in
    let flaws = c.in_ok-flaws.flaws in
    record {
      inside = omega (arith, c.in-Some.ensures.inside.1);
      faulty = c.loop-end.invariant.faulty
          ∙ one_more (is_faulty_string p code) c.loop-end.is_faulty flaws.is_faulty string (strings_of later) (strings_of (drop start commands)) c.in-Some.ensures.cuts c.in_ok-flaws.ensures.found;
      unclean = c.loop-end.invariant.unclean
          ∙ one_more (is_unclean_string p code) c.loop-end.is_unclean flaws.is_unclean string (strings_of later) (strings_of (drop start commands)) c.in-Some.ensures.cuts c.in_ok-flaws.ensures.clean;
      right = λ none rest.
          let parts = or_parts c.loop-end.is_unclean flaws.is_unclean none in
          c.loop-end.invariant.right parts.0
          (one_right p code string (strings_of later) (strings_of (drop start commands)) c.in-Some.ensures.cuts (c.in_ok-flaws.ensures.right parts.1) rest);
      told = λ later_ones keeps rest.
          c.loop-end.invariant.told later_ones (λ test was. keeps test (c.in_ok-flaws.ensures.kept test was))
          (one_told p code later_ones commands start c.in-Some.end (strings_of later) (strings_of (drop start commands))
          c.in-Some.ensures.inside.0 (omega (arith, c.in-Some.ensures.inside.1)) c.in-Some.ensures.cuts
          (told_later p code c.check_string.new.remarks.items later_ones start string keeps c.in_ok-flaws.ensures.told) rest);
      tells = λ h. either_is c.loop-end.is_faulty flaws.is_faulty (IsTold tells_fault c.check_string.new.remarks.items)
          (λ was. c.in_ok-flaws.ensures.kept tells_fault (c.loop-end.invariant.tells was)) c.in_ok-flaws.ensures.tells h;
    }

pub returns-clause-found : goal.returns-clause-found
returns-clause-found c =
    let commands = c.args.commands.now in
    let test = is_faulty_string c.args.profile c.registers_in-uses.result.called in
    let start = c.loop-end.start in
    sym (c.loop-end.invariant.faulty
    ∙ last_one test c.loop-end.is_faulty c.in_ok-flaws-2.flaws.is_faulty (drop start commands) (strings_of (drop start commands)) c.in_default.ensures.last
    (c.in_ok-flaws-2.ensures.found ∙ ap test (whole_held start (length commands) commands (omega arith))))

pub returns-clause-clean : goal.returns-clause-clean
returns-clause-clean c =
    let commands = c.args.commands.now in
    let test = is_unclean_string c.args.profile c.registers_in-uses.result.called in
    let start = c.loop-end.start in
    sym (c.loop-end.invariant.unclean
    ∙ last_one test c.loop-end.is_unclean c.in_ok-flaws-2.flaws.is_unclean (drop start commands) (strings_of (drop start commands)) c.in_default.ensures.last
    (c.in_ok-flaws-2.ensures.clean ∙ ap test (whole_held start (length commands) commands (omega arith))))

pub returns-clause-right : goal.returns-clause-right
returns-clause-right c = λ none.
    let p = c.args.profile in
    let commands = c.args.commands.now in
    let code = c.registers_in-uses.result.called in
    let start = c.loop-end.start in
    let parts = or_parts c.loop-end.is_unclean c.in_ok-flaws-2.flaws.is_unclean none in
    let rest : IsRightString p code (drop start commands) =
    subst (IsRightString p code) (whole_held start (length commands) commands (omega arith)) (c.in_ok-flaws-2.ensures.right parts.1) in
    are_right p code commands (c.loop-end.invariant.right parts.0
    (one_right p code (drop start commands) [] (strings_of (drop start commands)) c.in_default.ensures.last rest tt))

pub returns-clause-told : goal.returns-clause-told
returns-clause-told c =
    let p = c.args.profile in
    let commands = c.args.commands.now in
    let code = c.registers_in-uses.result.called in
    let start = c.loop-end.start in
    let later = c.push_last_hints.new.remarks.items in
    let string = take (length commands - start) (drop start commands) in
    c.loop-end.invariant.told later (λ test was. c.in_ok-push_last_hints.ensures.kept test (c.in_ok-flaws-2.ensures.kept test was))
    (last_told p code later start (drop start commands) string (strings_of (drop start commands)) c.in_default.ensures.last
    (whole_held start (length commands) commands (omega arith))
    (told_later p code c.check_string-2.new.remarks.items later start string (λ test was. c.in_ok-push_last_hints.ensures.kept test was) c.in_ok-flaws-2.ensures.told))

pub returns-clause-tells : goal.returns-clause-tells
returns-clause-tells c = λ h.
    c.in_ok-push_last_hints.ensures.kept tells_fault
    (either_is c.loop-end.is_faulty c.in_ok-flaws-2.flaws.is_faulty (IsTold tells_fault c.check_string-2.new.remarks.items)
    (λ was. c.in_ok-flaws-2.ensures.kept tells_fault (c.loop-end.invariant.tells was)) c.in_ok-flaws-2.ensures.tells h)
