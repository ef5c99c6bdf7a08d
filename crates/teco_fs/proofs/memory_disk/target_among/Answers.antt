use Rattle.std.proofs.Common.{rules}
use Rattle.teco_fs.proofs.memory_disk.target_among.Goals as goal

pub returns-in-Some : goal.returns-in-Some
returns-in-Some c = search rules

pub returns-in_ok-from_str-in-None : goal.returns-in_ok-from_str-in-None
returns-in_ok-from_str-in-None c = search rules
