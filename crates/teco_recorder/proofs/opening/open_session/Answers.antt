use Rattle.std.proofs.Common.{◌≡◌, ◌-◌, refl, sym, ap, ◌∙◌, inl}
use Rattle.teco_journal.specs.Events.{events_of}
use Rattle.teco_journal.specs.Heads.{beginning_in}
use Rattle.teco_session.specs.Kept.{history_of}
use Rattle.teco_recorder.proofs.Lengths.{input_fits}
use Rattle.teco_recorder.proofs.Outcomes.{again_closed, begun_closed, has_lines, heard_closed, opens_again, opens_begun, unheard_closed, unheard_of_file, unheard_of_system}
use Rattle.teco_recorder.proofs.Openings.{bytes_after, found_after, found_closed, torn_head, unopened_closed}
use Rattle.teco_recorder.proofs.opening.open_session.Goals as goal

pub returns-in-Err-clause-err : goal.returns-in-Err-clause-err
returns-in-Err-clause-err g c = unopened_closed _ _ _ _ c.in-Err.ensures.err c.open.ensures.moments c.open.ensures.streams

pub returns-in-Err-read_whole-clause-err : goal.returns-in-Err-read_whole-clause-err
returns-in-Err-read_whole-clause-err g c = found_closed _ _ _ _ (found_after _ _ (g.D.Disk.seen c.open.new.disk) _ c.in-Ok.ensures.ok c.open.ensures.moments c.open.ensures.streams
    c.read_whole.ensures.keeps.files c.read_whole.ensures.keeps.streams c.read_whole.ensures.keeps.moments)

pub returns-in-Err-Head-Version-clause-err : goal.returns-in-Err-Head-Version-clause-err
returns-in-Err-Head-Version-clause-err g c = found_closed _ _ _ _ (found_after _ _ (g.D.Disk.seen c.open.new.disk) _ c.in-Ok.ensures.ok c.open.ensures.moments c.open.ensures.streams
    c.read_whole.ensures.keeps.files c.read_whole.ensures.keeps.streams c.read_whole.ensures.keeps.moments)

pub returns-in-Err-Head-Changed-clause-err : goal.returns-in-Err-Head-Changed-clause-err
returns-in-Err-Head-Changed-clause-err g c = found_closed _ _ _ _ (found_after _ _ (g.D.Disk.seen c.open.new.disk) _ c.in-Ok.ensures.ok c.open.ensures.moments c.open.ensures.streams
    c.read_whole.ensures.keeps.files c.read_whole.ensures.keeps.streams c.read_whole.ensures.keeps.moments)

pub returns-in-Err-Memory-clause-err : goal.returns-in-Err-Memory-clause-err
returns-in-Err-Memory-clause-err g c = found_closed _ _ _ _ (found_after _ _ (g.D.Disk.seen c.open.new.disk) _ c.in-Ok.ensures.ok c.open.ensures.moments c.open.ensures.streams
    c.read_whole.ensures.keeps.files c.read_whole.ensures.keeps.streams c.read_whole.ensures.keeps.moments)

pub returns-in-Some-clause-err : goal.returns-in-Some-clause-err
returns-in-Some-clause-err g c = found_closed _ _ _ _ (found_after _ _ (g.D.Disk.seen c.open.new.disk) _ c.in-Ok.ensures.ok c.open.ensures.moments c.open.ensures.streams
    c.read_whole.ensures.keeps.files c.read_whole.ensures.keeps.streams c.read_whole.ensures.keeps.moments)

pub returns-in-Err-Head-Torn-clause-ok : goal.returns-in-Err-Head-Torn-clause-ok
returns-in-Err-Head-Torn-clause-ok g c =
    let found = (found_after c.args.name.now (g.D.Disk.seen c.args.disk.now) (g.D.Disk.seen c.open.new.disk) (g.D.Disk.seen c.read_whole.new.disk) c.in-Ok.ensures.ok c.open.ensures.moments c.open.ensures.streams
    c.read_whole.ensures.keeps.files c.read_whole.ensures.keeps.streams c.read_whole.ensures.keeps.moments) in
    let has = (bytes_after c.args.name.now c.as_slice.result.now _ (g.D.Disk.seen c.open.new.disk) (g.D.Disk.seen c.read_whole.new.disk) c.as_slice.ensures.value c.in-Ok-read_whole.ensures.input c.read_whole.ensures.keeps.files) in
    let torn = rw c.in-Err-Head-Torn.field-0-is at c.in-Err-Head-Torn.field-0-0-is in
    let fault = torn_head _ _ _ c.in-Err-Head-Torn.field-0-is torn c.in-Err-Head-Torn.ensures.fault in
    opens_begun (c.args.hearer.now ≡ c.args.hearer.now) (g.H.HearsReplay.hears c.args.hearer.now c.args.hearer.now) (λ opened. record {
      file = opened.file;
      history = history_of opened.session;
      records = opened.records;
      torn = opened.torn;
    }) c.begin.result _ _ _ _ _ _ _ _ c.in-Ok.ensures.name found has fault c.begin.ensures.file c.begin.ensures.history c.begin.ensures.records
    c.begin.ensures.torn c.begin.ensures.ok c.begin.ensures.moments c.begin.ensures.streams refl

pub returns-in-Err-Head-Torn-clause-err : goal.returns-in-Err-Head-Torn-clause-err
returns-in-Err-Head-Torn-clause-err g c =
    let found = (found_after c.args.name.now (g.D.Disk.seen c.args.disk.now) (g.D.Disk.seen c.open.new.disk) (g.D.Disk.seen c.read_whole.new.disk) c.in-Ok.ensures.ok c.open.ensures.moments c.open.ensures.streams
    c.read_whole.ensures.keeps.files c.read_whole.ensures.keeps.streams c.read_whole.ensures.keeps.moments) in
    let has = (bytes_after c.args.name.now c.as_slice.result.now _ (g.D.Disk.seen c.open.new.disk) (g.D.Disk.seen c.read_whole.new.disk) c.as_slice.ensures.value c.in-Ok-read_whole.ensures.input c.read_whole.ensures.keeps.files) in
    let torn = rw c.in-Err-Head-Torn.field-0-is at c.in-Err-Head-Torn.field-0-0-is in
    let fault = torn_head _ _ _ c.in-Err-Head-Torn.field-0-is torn c.in-Err-Head-Torn.ensures.fault in
    begun_closed c.begin.result _ _ _ _ _ _ _ c.in-Ok.ensures.name found has fault c.begin.ensures.err c.begin.ensures.moments c.begin.ensures.streams

pub go_on-requires-clause-input : goal.go_on-requires-clause-input
go_on-requires-clause-input g c =
    let saved = c.in-Ok-read_session.saved in
    input_fits c.as_slice.result.now _ _ (beginning_in saved.start) (events_of saved.journal.records.items) _ c.as_slice.ensures.value c.in-Ok-read_session.ensures.front
    c.in-Ok-read_whole.ensures.input.small

pub returns-clause-ok : goal.returns-clause-ok
returns-clause-ok g c =
    let saved = c.in-Ok-read_session.saved in
    let found = found_after c.args.name.now (g.D.Disk.seen c.args.disk.now) (g.D.Disk.seen c.open.new.disk) (g.D.Disk.seen c.read_whole.new.disk)
    c.in-Ok.ensures.ok c.open.ensures.moments c.open.ensures.streams c.read_whole.ensures.keeps.files c.read_whole.ensures.keeps.streams
    c.read_whole.ensures.keeps.moments in
    let has = bytes_after c.args.name.now c.as_slice.result.now _ (g.D.Disk.seen c.open.new.disk) (g.D.Disk.seen c.read_whole.new.disk) c.as_slice.ensures.value
    c.in-Ok-read_whole.ensures.input c.read_whole.ensures.keeps.files in
    let lines = has_lines c.as_slice.result.now saved.journal.check (beginning_in saved.start) (events_of saved.journal.records.items) saved.journal.good
    (c.len.result - saved.journal.good) saved.journal.ending c.in-Ok-read_session.ensures.holds c.in-Ok-read_session.ensures.front c.in-Ok-read_session.ensures.good
    c.in-Ok-read_session.ensures.check c.in-Ok-read_session.ensures.ending (c.in_default.ensures.ending refl)
    (ap (λ n. n - saved.journal.good) (c.len.ensures ∙ sym c.as_slice.ensures.len)) in
    opens_again (c.go_on.new.hearer ≡ c.args.hearer.now) (g.H.HearsReplay.hears c.args.hearer.now c.go_on.new.hearer) (λ opened. record {
      file = opened.file;
      history = history_of opened.session;
      records = opened.records;
      torn = opened.torn;
    }) c.go_on.result _ _ _ _ _ _ _ _ _ _ _ _ _ c.in-Ok.ensures.name found has lines c.in-Ok-read_session.ensures.good
    c.in-Ok-read_session.ensures.check (c.in_default.ensures.asked refl) c.go_on.ensures.file c.go_on.ensures.history c.go_on.ensures.records
    c.go_on.ensures.torn c.go_on.ensures.expected c.go_on.ensures.ok c.go_on.ensures.moments c.go_on.ensures.streams c.go_on.ensures.heard

pub returns-clause-err : goal.returns-clause-err
returns-clause-err g c =
    let saved = c.in-Ok-read_session.saved in
    let found = found_after c.args.name.now (g.D.Disk.seen c.args.disk.now) (g.D.Disk.seen c.open.new.disk) (g.D.Disk.seen c.read_whole.new.disk)
    c.in-Ok.ensures.ok c.open.ensures.moments c.open.ensures.streams c.read_whole.ensures.keeps.files c.read_whole.ensures.keeps.streams
    c.read_whole.ensures.keeps.moments in
    let has = bytes_after c.args.name.now c.as_slice.result.now _ (g.D.Disk.seen c.open.new.disk) (g.D.Disk.seen c.read_whole.new.disk) c.as_slice.ensures.value
    c.in-Ok-read_whole.ensures.input c.read_whole.ensures.keeps.files in
    let lines = has_lines c.as_slice.result.now saved.journal.check (beginning_in saved.start) (events_of saved.journal.records.items) saved.journal.good
    (c.len.result - saved.journal.good) saved.journal.ending c.in-Ok-read_session.ensures.holds c.in-Ok-read_session.ensures.front c.in-Ok-read_session.ensures.good
    c.in-Ok-read_session.ensures.check c.in-Ok-read_session.ensures.ending (c.in_default.ensures.ending refl)
    (ap (λ n. n - saved.journal.good) (c.len.ensures ∙ sym c.as_slice.ensures.len)) in
    again_closed c.go_on.result _ _ _ _ _ _ _ _ _ _ _ c.in-Ok.ensures.name found has lines c.in-Ok-read_session.ensures.good
    c.go_on.ensures.err c.go_on.ensures.moments c.go_on.ensures.streams

pub returns-in-Err-clause-heard : goal.returns-in-Err-clause-heard
returns-in-Err-clause-heard g c = unheard_of_system _ _ c.no_file.result c.no_file.ensures refl

pub returns-in-Err-read_whole-clause-heard : goal.returns-in-Err-read_whole-clause-heard
returns-in-Err-read_whole-clause-heard g c = unheard_of_system _ _ c.no_file-in-Err-read_whole.result c.no_file-in-Err-read_whole.ensures refl

pub returns-in-Err-Head-Version-clause-heard : goal.returns-in-Err-Head-Version-clause-heard
returns-in-Err-Head-Version-clause-heard g c = refl

pub returns-in-Err-Head-Changed-clause-heard : goal.returns-in-Err-Head-Changed-clause-heard
returns-in-Err-Head-Changed-clause-heard g c = refl

pub returns-in-Err-Memory-clause-heard : goal.returns-in-Err-Memory-clause-heard
returns-in-Err-Memory-clause-heard g c = inl refl

pub returns-in-Some-clause-heard : goal.returns-in-Some-clause-heard
returns-in-Some-clause-heard g c = unheard_of_file _ _ c.in-Some.fault c.in-Some.ensures.fault refl

pub returns-in-Err-Head-Torn-clause-heard : goal.returns-in-Err-Head-Torn-clause-heard
returns-in-Err-Head-Torn-clause-heard g c = unheard_closed _ _ c.begin.result c.begin.ensures.fault refl

pub returns-clause-heard : goal.returns-clause-heard
returns-clause-heard g c =
    let saved = c.in-Ok-read_session.saved in
    let found = found_after c.args.name.now (g.D.Disk.seen c.args.disk.now) (g.D.Disk.seen c.open.new.disk) (g.D.Disk.seen c.read_whole.new.disk)
    c.in-Ok.ensures.ok c.open.ensures.moments c.open.ensures.streams c.read_whole.ensures.keeps.files c.read_whole.ensures.keeps.streams
    c.read_whole.ensures.keeps.moments in
    let has = bytes_after c.args.name.now c.as_slice.result.now _ (g.D.Disk.seen c.open.new.disk) (g.D.Disk.seen c.read_whole.new.disk) c.as_slice.ensures.value
    c.in-Ok-read_whole.ensures.input c.read_whole.ensures.keeps.files in
    let lines = has_lines c.as_slice.result.now saved.journal.check (beginning_in saved.start) (events_of saved.journal.records.items) saved.journal.good
    (c.len.result - saved.journal.good) saved.journal.ending c.in-Ok-read_session.ensures.holds c.in-Ok-read_session.ensures.front c.in-Ok-read_session.ensures.good
    c.in-Ok-read_session.ensures.check c.in-Ok-read_session.ensures.ending (c.in_default.ensures.ending refl)
    (ap (λ n. n - saved.journal.good) (c.len.ensures ∙ sym c.as_slice.ensures.len)) in
    heard_closed (c.go_on.new.hearer ≡ c.args.hearer.now) (g.H.HearsReplay.hears c.args.hearer.now c.go_on.new.hearer) c.go_on.result _ _ _ _ _ _ _ found has lines c.go_on.ensures.fault c.go_on.ensures.heard
