use Rattle.std.proofs.Common.{◌≡◌, ◌∙◌, ◌+◌, ◌-◌, ap, arith, length, sym}
use Rattle.std.proofs.lemmas.List.{length-map}
use Rattle.teco_journal.specs.Events.{event_of, events_of}
use Rattle.teco_journal.specs.Heads.{beginning_in}
use Rattle.teco_debugger.proofs.KeptStrings.{has_lines_to}
use Rattle.teco_debugger.proofs.kept.file_in.Goals as goal

pub returns-clause-lines : goal.returns-clause-lines
returns-clause-lines c =
    let file = c.in-Ok.file in
    let has = c.in-Ok.ensures in (
      file.journal.ending,
      sym c.is_good.ensures ∙ c.if-not-is_good.false,
      has_lines_to c.args.bytes.now file.journal.check (beginning_in file.start) (events_of file.journal.records.items) file.journal.good file.journal.ending
          has.holds has.front has.good has.check has.ending,
    )

pub returns-in-Err-clause-lacks : goal.returns-in-Err-clause-lacks
returns-in-Err-clause-lacks c = λ number. c.fault_of.ensures c.args.bytes.now number c.in-Err.ensures.fault

pub returns-then-not-is_good-clause-lacks : goal.returns-then-not-is_good-clause-lacks
returns-then-not-is_good-clause-lacks c number =
    let file = c.in-Ok.file in
    let count : c.len-number.result ≡ length file.journal.records.items = omega (arith, c.len-number.ensures) in
    let has = c.in-Ok.ensures in (
      beginning_in file.start,
      events_of file.journal.records.items,
      length c.args.bytes.now - file.journal.good,
      file.journal.ending,
      sym c.is_good.ensures ∙ c.if-not-is_good.true,
      has_lines_to c.args.bytes.now file.journal.check (beginning_in file.start) (events_of file.journal.records.items) file.journal.good file.journal.ending
          has.holds has.front has.good has.check has.ending,
      ap (λ n. n + 1) (count ∙ sym (length-map file.journal.records.items event_of)),
    )
