-- The case mode of searches.
use Rattle.std.specs.Prelude.{zero, Result, Ok, Err, ℤ, pos, negsuc}
use Rattle.teco_core.specs.declared.case_mode.CaseMode.{CaseMode}
use Rattle.teco_core.specs.declared.case_mode.CaseMode.TheVariants.{Exact, Either}
use Rattle.teco_core.specs.declared.code.Code.{Code}
use Rattle.teco_core.specs.declared.code.Code.TheVariants.{Arg}
use Rattle.teco_core.specs.Refusal.{◌>>=◌}
use Rattle.teco_core.specs.Arguments.{Arguments}
use Rattle.teco_store.specs.State.{State, with_case}
use Rattle.teco_step.specs.Step.{Made, changes, takes_one}

-- -1 is exact case, 0 either case
abbrev pub mode_of : ℤ → Result CaseMode Code
mode_of (negsuc zero) = Ok Exact
mode_of (pos zero) = Ok Either
mode_of n = Err Arg

-- n^X: searches tell the cases of a letter apart, or not.
abbrev pub set_case : State → Arguments → Made
set_case s a = do
  n ← takes_one Arg a
  mode ← mode_of n
  changes (with_case s mode) 0
