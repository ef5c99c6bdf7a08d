-- Whether a string that is run again did what its record tells.
use Rattle.std.specs.Prelude.{ℕ, Bool, true, false, Option, Some, None, ◌==◌}
use Rattle.teco_core.specs.declared.code.Code.{Code}
use Rattle.teco_core.specs.declared.code.Code.TheVariants.{Mem, Tty}
use Rattle.teco_session.specs.declared.request.Answer.{Answer}
use Rattle.teco_session.specs.declared.request.Answer.TheVariants.{Ended, NotBegun}
use Rattle.teco_replay.specs.declared.replaying.ReplayFault.{ReplayFault}
use Rattle.teco_replay.specs.declared.replaying.ReplayFault.TheVariants as fault

abbrev pub fault_unless : Bool → Option ReplayFault
fault_unless true = None
fault_unless false = Some fault.Wrong

abbrev pub fault_of_end : Option Code → Bool → Option ReplayFault
fault_of_end (Some Mem) same = Some fault.Memory
fault_of_end (Some Tty) same = Some fault.Terminal
fault_of_end code same = fault_unless same

abbrev pub fault_of : ℕ → Answer → Option ReplayFault
fault_of steps (Ended outcome) = fault_of_end outcome.code (outcome.steps == steps)
fault_of steps NotBegun = Some fault.Memory
fault_of steps answer = Some fault.Wrong
