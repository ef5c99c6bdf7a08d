use Rattle.std.proofs.Common.{List, ℕ, subst}
use Rattle.teco_fs.specs.Seen.{disk_seen}
use Rattle.teco_debugger.specs.Reading.{IsNotRead}
use Rattle.teco_debugger.proofs.running.input_of.Goals as goal

-- no input is given there
pub returns-in-Err-clause-input : goal.returns-in-Err-clause-input
returns-in-Err-clause-input g c = tt

pub returns-in-Err-clause-lacks : goal.returns-in-Err-clause-lacks
returns-in-Err-clause-lacks g c =
    let seen = disk_seen g.D.Disk g.D.Input.Source in
    (c.in-Some.name, c.in-Some.is, subst (λ (n : List ℕ). IsNotRead (g.D.Disk.seen c.args.disk.now).files (seen c.read_file.new.disk) n c.in-Err.fault) c.as_str.ensures.value c.in-Err.ensures.fault)
