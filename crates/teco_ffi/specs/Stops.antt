-- What a stopper may answer a run.
use Rattle.std.specs.Prelude.{◌≡◌, ℕ, Option, Some, None}
use Rattle.teco_exec.specs.Runs.{Answers}
use Rattle.teco_ffi.specs.declared.answers.TheConstants.{CLOSED}

-- what is seen of a flag, of which no contract tells: it may answer anything
abbrev pub flag_answers : Answers
flag_answers = record { span = 0; said = λ k b. Unit {0} }

-- An open one takes what it is told, and a closed one answers its number.
abbrev pub Hears : {A : Type 0} → Option A → ℕ → Type 0
Hears None code = code ≡ CLOSED
Hears (Some flag) code = code ≡ 0
