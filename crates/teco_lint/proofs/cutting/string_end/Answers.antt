use Rattle.std.proofs.Common.{◌<◌, ℕ, List, length, drop, arith, subst, length-drop}
use Rattle.std.proofs.lemmas.Grind.{common_steps}
use Rattle.std.proofs.lemmas.List.{take_rest}
use Rattle.teco_lint.proofs.Cuts.{none_cut-from, one_cut-from}
use Rattle.teco_lint.proofs.cutting.string_end.Goals as goal

pub overflow_add-result : goal.overflow_add-result
overflow_add-result c =
    let inside : c.in-Some.at < length (drop c.args.from c.args.commands.now) =
    subst (λ (rest : List ℕ). c.in-Some.at < length rest) (take_rest c.args.commands.now c.args.from) c.in-Some.ensures.0 in
    grind (arith, common_steps)

pub returns-in-Some : goal.returns-in-Some
returns-in-Some c =
    let commands = c.args.commands.now in
    let from = c.args.from in
    let inside : c.in-Some.at < length (drop from commands) = subst (λ (rest : List ℕ). c.in-Some.at < length rest) (take_rest commands from) c.in-Some.ensures.0 in
    record {
      inside = (omega arith, omega (arith, inside, length-drop from commands));
      cuts = one_cut-from commands from c.in-Some.at c.in-Some.ensures;
      last = tt;
    }

pub returns-in-None : goal.returns-in-None
returns-in-None c = record { inside = tt; cuts = tt; last = none_cut-from c.args.commands.now c.args.from c.in-None.ensures }
