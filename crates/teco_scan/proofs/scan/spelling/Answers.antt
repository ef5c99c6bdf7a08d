use Rattle.std.proofs.Common.{◌≡◌, true, refl}
use Rattle.teco_scan.specs.declared.table.TheConstants.{ROWS}
use Rattle.teco_scan.specs.Table.{is_table}
use Rattle.teco_scan.proofs.IsSpelled.{spelled}
use Rattle.teco_scan.proofs.IsLongest.{longest}
use Rattle.teco_scan.proofs.Faults.{four, register_exactly, test_exactly}
use Rattle.teco_scan.proofs.CutAndIll.{cut_exactly, ill_exactly, passes_fillers}
use Rattle.teco_scan.proofs.Determined.{determined}
use Rattle.teco_scan.proofs.Written as written
use Rattle.teco_scan.proofs.scan.spelling.Goals as goal

-- all that the laws need of the commands
rows_are_table : is_table ROWS ≡ true
rows_are_table = refl

pub returns-clause-table : goal.returns-clause-table
returns-clause-table c = rows_are_table

pub returns-clause-spelled : goal.returns-clause-spelled
returns-clause-spelled c = spelled

pub returns-clause-longest : goal.returns-clause-longest
returns-clause-longest c = longest

pub returns-clause-cut : goal.returns-clause-cut
returns-clause-cut c = cut_exactly

pub returns-clause-no_register : goal.returns-clause-no_register
returns-clause-no_register c = register_exactly

pub returns-clause-no_test : goal.returns-clause-no_test
returns-clause-no_test c = test_exactly

pub returns-clause-ill : goal.returns-clause-ill
returns-clause-ill c = ill_exactly

pub returns-clause-faults : goal.returns-clause-faults
returns-clause-faults c = four

pub returns-clause-fillers : goal.returns-clause-fillers
returns-clause-fillers c = passes_fillers

pub returns-clause-determined : goal.returns-clause-determined
returns-clause-determined c = determined

pub returns-clause-numbers : goal.returns-clause-numbers
returns-clause-numbers c = written.numbers

pub returns-clause-plain_commands : goal.returns-clause-plain_commands
returns-clause-plain_commands c = written.plain_commands

pub returns-clause-register_commands : goal.returns-clause-register_commands
returns-clause-register_commands c = written.register_commands

pub returns-clause-text_commands : goal.returns-clause-text_commands
returns-clause-text_commands c = written.text_commands

pub returns-clause-marks : goal.returns-clause-marks
returns-clause-marks c = written.marks

pub returns-clause-modifiers : goal.returns-clause-modifiers
returns-clause-modifiers c = written.modifiers
