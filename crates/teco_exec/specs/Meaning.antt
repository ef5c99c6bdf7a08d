-- What a list of nodes means.
use Rattle.std.specs.Prelude.{if◌then◌else◌, ℕ, zero, suc, ◌+◌, List, Option, Some, None, Bool, true, false, ◌==◌, ℤ, pos, negsuc, Result, Ok, Err}
use Rattle.teco_core.specs.declared.code.Code.{Code}
use Rattle.teco_core.specs.declared.code.Code.TheVariants as code
use Rattle.teco_core.specs.declared.arguments.Taken.{Taken}
use Rattle.teco_core.specs.declared.arguments.Taken.TheVariants as taken
use Rattle.teco_core.specs.Arguments.{taken_from}
use Rattle.teco_core.specs.declared.limits.TheConstants.{CALL_LIMIT}
use Rattle.teco_scan.specs.declared.command.Test.{Test}
use Rattle.teco_scan.specs.declared.command.Modifiers.{Modifiers}
use Rattle.teco_scan.specs.declared.command.Bare.TheVariants as bare_command
use Rattle.teco_scan.specs.declared.command.Command.TheVariants as command
use Rattle.teco_scan.specs.Scan.{Item, bare}
use Rattle.teco_scan.specs.Tree.{Nodes, done, item, escape, iter, cond, tag, faulty, after_tag}
use Rattle.teco_step.specs.declared.next.Setting.{Setting}
use Rattle.teco_step.specs.Step.{Step, End, on, leave, go, call, again, stop, takes_one}
use Rattle.teco_step.specs.Effect.{effect}
use Rattle.teco_scan.specs.Lists.{nodes}
use Rattle.teco_exec.specs.Test.{holds}
use Rattle.teco_exec.specs.World.{World, WorldAndEnd, and_then, without_arguments, world_after, pay}

-- the meaning of a list from a place in it; of the turns of an iteration that are left (none: without end);
-- and of a further step
pub record Meaning : Type 0 where
  pub list : Nodes → Nodes → World → ℕ → Bool → WorldAndEnd
  pub turns : Option ℕ → Nodes → World → ℕ → WorldAndEnd
  pub further : Item → Setting → World → ℕ → WorldAndEnd

-- Below, m is the meaning itself; it is used only with less fuel.

-- A jump goes on after the first such tag directly in the list, and otherwise ends the list.
abbrev pub run_after_tag : Meaning → Nodes → World → ℕ → Bool → List ℕ → Option Nodes → WorldAndEnd
run_after_tag m whole w depth inside name (Some rest) = m.list whole rest w depth inside
run_after_tag m whole w depth inside name None = (w, go name)

-- what a list does after a node of it
abbrev pub then_rest : Meaning → Nodes → Nodes → ℕ → Bool → World → End → WorldAndEnd
then_rest m whole rest depth inside w on = m.list whole rest w depth inside
then_rest m whole rest depth inside w (go name) =
    run_after_tag m whole w depth inside name (after_tag name whole)
then_rest m whole rest depth inside w e = (w, e)

-- A macro's text is run with the same arguments, inside no iteration; at most CALL_LIMIT calls are open; its
-- jump to nowhere is TAG.
abbrev pub after_call : World → End → WorldAndEnd
after_call w (go name) = (w, stop code.Tag)
after_call w e = (w, e)

abbrev pub run_call : Meaning → List ℕ → World → ℕ → WorldAndEnd
run_call m text w depth =
    if depth == CALL_LIMIT
    then (w, stop code.Pdo)
    else and_then (m.list (nodes w.profile text) (nodes w.profile text) w (depth + 1) false) after_call

-- what a token does after a step of it: a call runs its text, and a further step has fuel of its own
abbrev pub run_after_step : Meaning → Item → Setting → ℕ → World → End → WorldAndEnd
run_after_step m i setting depth w (call text) = run_call m text w depth
run_after_step m i setting depth w (again work) = m.further i (record setting { work = Some work }) w depth
run_after_step m i setting depth w e = (w, e)

abbrev pub run_step : Meaning → Item → Setting → World → ℕ → WorldAndEnd
run_step m i setting w depth =
    let d : Step = effect i setting w.state w.arguments in
    run_after_step m i setting depth (world_after w d) d.end

-- the arguments that an iteration takes: n turns, not at all where n is at most 0, without end where n is
-- missing
abbrev pub turns_of : ℤ → ℕ
turns_of (pos n) = n
turns_of (negsuc n) = 0

abbrev pub run_iteration : Meaning → Nodes → World → ℕ → Result Taken Code → WorldAndEnd
run_iteration m body w depth (Ok taken.None) = m.turns None body (without_arguments w) depth
run_iteration m body w depth (Ok (taken.One n)) = m.turns (Some (turns_of n)) body (without_arguments w) depth
run_iteration m body w depth (Ok (taken.Two p n)) = (w, stop code.Arg)
run_iteration m body w depth (Err c) = (w, stop c)

-- A conditional runs the one part or the other, and drops the arguments.
abbrev pub after_part : World → End → WorldAndEnd
after_part w on = (without_arguments w, on)
after_part w e = (w, e)

abbrev pub run_part : Meaning → Nodes → World → ℕ → Bool → WorldAndEnd
run_part m nodes w depth inside = and_then (m.list nodes nodes w depth inside) after_part

abbrev pub run_conditional : Meaning → Test → Nodes → Nodes → World → ℕ → Bool → Result ℤ Code → WorldAndEnd
run_conditional m t first second w depth inside (Ok n) =
    run_part m (if holds t n then first else second) (without_arguments w) depth inside
run_conditional m t first second w depth inside (Err c) = (w, stop c)

-- whether the next node is `;` without modifiers
abbrev pub is_plain_leave : Modifiers → Item → Bool
is_plain_leave m (bare (bare_command.Command command.Leave)) = if m.at then false else m.colons == 0
is_plain_leave m i = false

abbrev pub leave_comes : Nodes → Bool
leave_comes (item m i rest) = is_plain_leave m i
leave_comes nodes = false

abbrev pub first_setting : Modifiers → Bool → Bool → Setting
first_setting m inside before = record { modifiers = m; work = None; inside = inside; before = before }

-- A list, by its nodes. A tag, a fault and an escape, which drops the arguments, use no step.
unfoldable pub list_by : Meaning → Nodes → Nodes → World → ℕ → Bool → WorldAndEnd
list_by m whole done w depth inside = (w, on)
list_by m whole (faulty c) w depth inside = (w, stop c)
list_by m whole (tag name rest) w depth inside = list_by m whole rest w depth inside
list_by m whole (escape rest) w depth inside = list_by m whole rest (without_arguments w) depth inside
list_by m whole (item marks i rest) w depth inside =
    pay w (λ v. and_then (run_step m i (first_setting marks inside (leave_comes rest)) v depth)
    (then_rest m whole rest depth inside))
list_by m whole (iter body rest) w depth inside =
    pay w (λ v. and_then (run_iteration m body v depth (taken_from v.arguments))
    (then_rest m whole rest depth inside))
list_by m whole (cond t first second rest) w depth inside =
    pay w (λ v. and_then (run_conditional m t first second v depth inside (takes_one code.Naq v.arguments))
    (then_rest m whole rest depth inside))

-- The end of each turn uses a step and drops the arguments; leaving ends the iteration.
abbrev pub after_turn : Meaning → Option ℕ → Nodes → ℕ → World → End → WorldAndEnd
after_turn m left body depth w on = pay w (λ v. m.turns left body (without_arguments v) depth)
after_turn m left body depth w leave = (w, on)
after_turn m left body depth w e = (w, e)

abbrev pub run_turn : Meaning → Option ℕ → Nodes → World → ℕ → WorldAndEnd
run_turn m left body w depth = and_then (list_by m body body w depth true) (after_turn m left body depth)

unfoldable pub turns_by : Meaning → Option ℕ → Nodes → World → ℕ → WorldAndEnd
turns_by m None body w depth = run_turn m None body w depth
turns_by m (Some zero) body w depth = (w, on)
turns_by m (Some (suc n)) body w depth = run_turn m (Some n) body w depth

unfoldable pub further_by : Meaning → Item → Setting → World → ℕ → WorldAndEnd
further_by m i setting w depth = pay w (λ v. run_step m i setting v depth)

abbrev pub layer : Meaning → Meaning
layer m = record { list = list_by m; turns = turns_by m; further = further_by m }

-- as many layers as there is fuel
unfoldable pub layers : ℕ → Meaning
layers zero = record {
  list = λ whole rest w depth inside. (w, stop code.Lim);
  turns = λ left body w depth. (w, stop code.Lim);
  further = λ i setting w depth. (w, stop code.Lim);
}
layers (suc n) = layer (layers n)

unfoldable pub meaning : Meaning
meaning = record {
  list = λ whole rest w depth inside. (layers (suc w.fuel)).list whole rest w depth inside;
  turns = λ left body w depth. (layers (suc w.fuel)).turns left body w depth;
  further = λ i setting w depth. (layers (suc w.fuel)).further i setting w depth;
}
