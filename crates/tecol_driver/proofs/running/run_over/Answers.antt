use Rattle.std.proofs.Common.{List, ℕ, ap, sym, subst, ◌∙◌}
use Rattle.teco_cli.specs.StreamNames.{is_standard_input}
use Rattle.teco_fs.specs.Seen.{disk_seen}
use Rattle.tecol_driver.specs.Keeping.{EndsAfter, MakesAndPuts, ReadsInput, output_of}
use Rattle.tecol_driver.specs.Made.{IsMade}
use Rattle.tecol_driver.proofs.running.run_over.Goals as goal

pub returns-in-Ok : goal.returns-in-Ok
returns-in-Ok g c =
    let seen = disk_seen g.D.Disk g.D.Input.Source in
    let stream = g.S.Source in
    let output = output_of g.T.Terminal.screen c.args.line.now (seen c.input_of.new.disk) (seen c.make_and_put.new.disk) c.args.term.now c.make_and_put.new.term in
    let named = c.as_str.ensures.value in
    record {
      mid = c.input_of.new.disk;
      idle = c.input_of.ensures.keeps;
      still = λ apart. c.input_of.ensures.still (ap is_standard_input named ∙ apart);
      input = c.input_of.result;
      reads = subst (λ (n : List ℕ). ReadsInput (is_standard_input n) stream n (seen c.args.disk.now) (seen c.input_of.new.disk) c.args.stream.now c.input_of.new.stream c.input_of.result) named c.input_of.ensures.reads;
      ends = subst (λ input. EndsAfter c.args.line.now input output c.make_and_put.result) (sym c.in-Ok.is)
          (subst (λ (input : List ℕ). MakesAndPuts (IsMade c.args.line.now input) input output c.make_and_put.result) c.deref.ensures.value c.make_and_put.ensures);
    }
