use Rattle.std.proofs.Common.{◌≡◌, ℕ, List, arith, false, inl, inr, refl, rules, subst}
use Rattle.std.proofs.lemmas.Grind.{common_steps}
use Rattle.teco_serve.specs.Exchange.{HasRung}
use Rattle.teco_driver.specs.Runs.{RunsIfSpelt, RunsInOrder, inputs_of}
use Rattle.teco_driver.specs.Checks.{MayRun}
use Rattle.teco_fs.specs.Seen.{disk_seen}
use Rattle.teco_driver.specs.Given.{host_view, is_streamed}
use Rattle.teco_driver.specs.declared.host.Host.{Host}
use Rattle.teco_driver.proofs.several.edit_all.Goals as goal

-- a host once commands were read
abbrev left : {S A T D : Type 0} → Host S A T D → S → D → Host S A T D
left host commands disk = record { commands = commands; alarm = host.alarm; terminal = host.terminal; disk = disk; process = host.process }

pub returns-in-Err-clause-run : goal.returns-in-Err-clause-run
returns-in-Err-clause-run g c =
    let whole : is_streamed c.args.line.now ≡ false = first_of (search rules, cc, grind (arith, common_steps)) in
    inr (record {
      whole = whole;
      mid = left c.args.host.now c.commands_given-given.new.stream c.commands_given-given.new.disk;
      idle = (refl, c.commands_given-given.ensures.keeps);
      runs = inl (c.in-Err.fault, refl, c.in-Err.ensures.lacks, c.decline.ensures);
    })

pub returns-in-Some-clause-run : goal.returns-in-Some-clause-run
returns-in-Some-clause-run g c =
    let whole : is_streamed c.args.line.now ≡ false = first_of (search rules, cc, grind (arith, common_steps)) in
    let view = host_view (disk_seen g.D.Disk g.D.Input.Source) g.S.Source g.T.Terminal.screen (HasRung g.A.Stop.answered) in
    let mid = left c.args.host.now c.commands_given-given.new.stream c.commands_given-given.new.disk in
    let old : Host g.row.S.Denot g.row.A.Denot g.row.T.Denot g.row.D.Denot × g.row.E.Denot = (mid, c.args.errors.now) in
    let new : Host g.row.S.Denot g.row.A.Denot g.row.T.Denot g.row.D.Denot × g.row.E.Denot = (mid, c.status_if_misspelt.new.errors) in
    inr (record {
      whole = whole;
      mid = mid;
      idle = (refl, c.commands_given-given.ensures.keeps);
      runs = inr (
        c.in-Ok.bytes.items,
        c.in-Ok.ensures.given,
        subst (λ (bytes : List ℕ). RunsIfSpelt view g.E.Terminal.screen c.args.line.now bytes old new c.in-Some.status) c.as_slice-bytes.ensures.value
            (inl (refl, c.in-Some.ensures.rejected)),
      );
    })

pub returns-clause-run : goal.returns-clause-run
returns-clause-run g c =
    let whole : is_streamed c.args.line.now ≡ false = first_of (search rules, cc, grind (arith, common_steps)) in
    let view = host_view (disk_seen g.D.Disk g.D.Input.Source) g.S.Source g.T.Terminal.screen (HasRung g.A.Stop.answered) in
    let line = c.args.line.now in
    let mid = left c.args.host.now c.commands_given-given.new.stream c.commands_given-given.new.disk in
    let old : Host g.row.S.Denot g.row.A.Denot g.row.T.Denot g.row.D.Denot × g.row.E.Denot = (mid, c.args.errors.now) in
    let new : Host g.row.S.Denot g.row.A.Denot g.row.T.Denot g.row.D.Denot × g.row.E.Denot = (c.edit_whole.new.host, c.edit_whole.new.errors) in
    let silent : c.status_if_misspelt.new.errors ≡ c.args.errors.now = first_of (search rules, cc, grind (arith, common_steps)) in
    let may : MayRun line c.as_slice-bytes.result.now = first_of (search rules, grind (arith, common_steps)) in
    let runs : RunsInOrder view g.E.Terminal.screen line c.as_slice-bytes.result.now (inputs_of line) old new c.edit_whole.result =
    subst (λ (told : g.row.E.Denot). let from : Host g.row.S.Denot g.row.A.Denot g.row.T.Denot g.row.D.Denot × g.row.E.Denot = (mid, told) in
    RunsInOrder view g.E.Terminal.screen line c.as_slice-bytes.result.now (inputs_of line) from new c.edit_whole.result) silent c.edit_whole.ensures.run in
    inr (record {
      whole = whole;
      mid = mid;
      idle = (refl, c.commands_given-given.ensures.keeps);
      runs = inr (
        c.in-Ok.bytes.items,
        c.in-Ok.ensures.given,
        subst (λ (bytes : List ℕ). RunsIfSpelt view g.E.Terminal.screen line bytes old new c.edit_whole.result) c.as_slice-bytes.ensures.value (inr (may, runs)),
      );
    })
