use Rattle.std.proofs.Common.{◌≡◌, true, refl}
use Rattle.teco_scan.specs.declared.table.TheConstants.{WIDE_ROWS}
use Rattle.teco_scan.specs.Table.{is_table}
use Rattle.teco_scan.proofs.Written as written
use Rattle.teco_scan.proofs.Wider.{wide_keeps}
use Rattle.teco_scan.proofs.WideAdds.{wide_adds}
use Rattle.teco_scan.proofs.scan.profile_laws.Goals as goal

wide_rows_are_table : is_table WIDE_ROWS ≡ true
wide_rows_are_table = refl

pub returns-clause-wide_table : goal.returns-clause-wide_table
returns-clause-wide_table c = wide_rows_are_table

pub returns-clause-wide_keeps : goal.returns-clause-wide_keeps
returns-clause-wide_keeps c = wide_keeps

pub returns-clause-wide_adds : goal.returns-clause-wide_adds
returns-clause-wide_adds c = wide_adds

pub returns-clause-wide_spellings : goal.returns-clause-wide_spellings
returns-clause-wide_spellings c = written.wide_spellings
