-- How a step ends, by what it leads to.
use Rattle.std.specs.Prelude.{ℕ, List, Bool, true, false}
use Rattle.teco_core.specs.declared.code.Code.{Code}
use Rattle.teco_core.specs.declared.code.Code.TheVariants.{Mem, Tty}
use Rattle.teco_core.specs.Register.{content}
use Rattle.teco_store.specs.State.{State}
use Rattle.teco_step.specs.Step.{End, on, leave, go, call, out, again, stop}
use Rattle.teco_step.specs.declared.next.Next.{Next}
use Rattle.teco_step.specs.declared.next.Next.TheVariants as next

-- how a step that left this state ends, as what it leads to says; a jump's name is the token's, and a call's text the register's
abbrev pub end_of : State → List ℕ → Next → End
end_of s name next.On = on
end_of s name next.Leave = leave
end_of s name next.Go = go name
end_of s name (next.Call q) = call (content s.registers q).text
end_of s name next.Out = out
end_of s name (next.Again work) = again work
end_of s name (next.Error c) = stop c

-- the code says that a step was begun and not done
abbrev pub is_unfinished_code : Code → Bool
is_unfinished_code Mem = true
is_unfinished_code Tty = true
is_unfinished_code c = false

abbrev pub is_unfinished : Next → Bool
is_unfinished (next.Error c) = is_unfinished_code c
is_unfinished n = false
