use Rattle.std.proofs.Common.{List, ℕ, rules, subst, sym}
use Rattle.std.specs.String.{string_bytes}
use Rattle.teco_cli.specs.StreamNames.{is_standard_output}
use Rattle.teco_fs.specs.Seen.{disk_seen}
use Rattle.tecol_driver.specs.Keeping.{output_of}
use Rattle.tecol_driver.specs.Made.{IsMade}
use Rattle.tecol_driver.proofs.Outputs.{Chosen, fails, fails_by, puts}
use Rattle.tecol_driver.proofs.running.make_and_put.Goals.{in-Ok-Fine, in-Ok-Unchecked, in-Ok-Faulty}
use Rattle.tecol_driver.proofs.running.make_and_put.Goals as goal

pub returns-in-Ok : goal.returns-in-Ok
returns-in-Ok g c =
    let seen = disk_seen g.D.Disk g.D.Input.Source in
    let output = output_of g.T.Terminal.screen c.args.line.now (seen c.args.disk.now) (seen c.put.new.disk) c.args.term.now c.put.new.term in
    let is_made = IsMade c.args.line.now c.args.input.now in
    let made = c.match-make-2.bytes in
    let chosen : Chosen is_made made = elim c.match-make-2.branch [
      | in-Ok-Fine w ↦ subst (Chosen is_made) (sym w.bytes-is) (search rules)
      | in-Ok-Unchecked w ↦ subst (Chosen is_made) (sym w.bytes-is) (search rules)
      | in-Ok-Faulty w ↦ subst (Chosen is_made) (sym w.bytes-is) (search rules)
    ] in
    rw c.fate_put.ensures (puts is_made c.args.input.now output made.0 made.1 c.in-Ok.unkept chosen (subst (λ (bytes : List ℕ). output.writes bytes × output.unkept c.in-Ok.unkept) c.deref.ensures.value c.in-Ok.ensures))

pub returns : goal.returns
returns g c =
    let seen = disk_seen g.D.Disk g.D.Input.Source in
    let output = output_of g.T.Terminal.screen c.args.line.now (seen c.args.disk.now) (seen c.put.new.disk) c.args.term.now c.put.new.term in
    let name = string_bytes c.args.line.now.output in
    let is_made = IsMade c.args.line.now c.args.input.now in
    let made = c.match-make-2.bytes in
    let chosen : Chosen is_made made = elim c.match-make-2.branch [
      | in-Ok-Fine w ↦ subst (Chosen is_made) (sym w.bytes-is) (search rules)
      | in-Ok-Unchecked w ↦ subst (Chosen is_made) (sym w.bytes-is) (search rules)
      | in-Ok-Faulty w ↦ subst (Chosen is_made) (sym w.bytes-is) (search rules)
    ] in
    fails is_made c.args.input.now output made.0 made.1 c.in-Err-put.failed chosen (subst (λ (bytes : List ℕ). output.fails bytes c.in-Err-put.failed) c.deref.ensures.value c.in-Err-put.ensures)
    (fails_by (is_standard_output name) g.T.Terminal.screen name c.deref.result.now (seen c.args.disk.now) (seen c.put.new.disk) c.args.term.now c.put.new.term c.in-Err-put.failed c.in-Err-put.ensures)

pub returns-in-Ok-Unreadable : goal.returns-in-Ok-Unreadable
returns-in-Ok-Unreadable g c = search rules
