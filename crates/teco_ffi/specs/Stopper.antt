-- A flag as it lies behind the handle of a stopper.
use Rattle.std.specs.Prelude.{Option}
use Rattle.std.specs.Coded.{Coded, coded_option}
use Rattle.teco_ffi.specs.contracts.flag.Flag.{the_row}

-- a flag as a clause sees it
abbrev pub SeenFlag : Type 0
SeenFlag = the_row.Denot

abbrev pub coded_flag : Coded (Option SeenFlag)
coded_flag = coded_option the_row.coded
