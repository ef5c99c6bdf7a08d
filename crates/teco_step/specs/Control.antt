-- What leaves an iteration, jumps, or runs a text.
use Rattle.std.specs.Prelude.{ℕ, List, Bool, Err, ℤ, pos, int_le, not, ◌==◌, if◌then◌else◌}
use Rattle.teco_core.specs.declared.code.Code.TheVariants.{Sni}
use Rattle.teco_core.specs.Refusal.{◌>>=◌}
use Rattle.teco_core.specs.Number.{truth}
use Rattle.teco_core.specs.Arguments.{Arguments, no_arguments}
use Rattle.teco_core.specs.Register.{content}
use Rattle.teco_scan.specs.declared.command.Modifiers.{Modifiers}
use Rattle.teco_store.specs.State.{State}
use Rattle.teco_step.specs.Step.{Attempt, on, leave, go, call, ends, takes_none, takes_one_or}

-- Whether an iteration is left by n: where it is at least 0, and with a colon where it is below 0.
abbrev pub is_left : Modifiers → ℤ → Bool
is_left m n = if m.colons == 1 then not (int_le (pos 0) n) else int_le (pos 0) n

-- n;: leaves the innermost iteration by n, and without n by the last search result. Outside iterations it is SNI.
abbrev pub leave_or_not : Modifiers → Bool → State → Arguments → Attempt
leave_or_not m inside s a = do
  n ← takes_one_or (truth s.last_found) a
  if inside then ends s no_arguments (if is_left m n then leave else on) else Err Sni

-- Oname$: the string goes on after the tag of this name.
abbrev pub jump_to : List ℕ → State → Arguments → Attempt
jump_to name s a = do
  none ← takes_none a
  ends s no_arguments (go name)

-- Mq: the text of q is run. The arguments stay.
abbrev pub run_register : ℕ → State → Arguments → Attempt
run_register q s a = ends s a (call (content s.registers q).text)
