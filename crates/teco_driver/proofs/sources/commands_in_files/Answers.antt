use Rattle.std.proofs.Common.{◌≡◌, ◌∙◌, ◌++◌, ◌+◌, ℕ, List, String, Global, [], ◌∷◌, Ok, ap, sym, subst, take}
use Rattle.std.proofs.lemmas.List.{take_all, take_more}
use Rattle.std.specs.String.{string_bytes}
use Rattle.teco_cli.specs.StreamNames.{is_standard_input}
use Rattle.teco_fs.specs.Seen.{disk_seen}
use Rattle.teco_driver.specs.Sources.{AreCommandsIn, IsFaultOf, IsUnread, IsWholeOf, LacksFiles}
use Rattle.teco_source.specs.Source.{commands_of}
use Rattle.teco_driver.proofs.CommandSources.{faulty_file, one_source_more, passed_up, same_files, unread_file}
use Rattle.teco_driver.proofs.Doings.{keeps_after}
use Rattle.teco_driver.proofs.sources.commands_in_files.Goals as goal

pub returns-in_err-source-clause-keeps : goal.returns-in_err-source-clause-keeps
returns-in_err-source-clause-keeps g c = keeps_after c.loop-at.invariant.1 c.bytes_of.ensures.keeps

pub returns-in_err-strings-clause-keeps : goal.returns-in_err-strings-clause-keeps
returns-in_err-strings-clause-keeps g c = keeps_after c.loop-at.invariant.1 c.bytes_of.ensures.keeps

pub returns-in_err-append-clause-keeps : goal.returns-in_err-append-clause-keeps
returns-in_err-append-clause-keeps g c = keeps_after c.loop-at.invariant.1 c.bytes_of.ensures.keeps

pub returns-in_err-keep-clause-keeps : goal.returns-in_err-keep-clause-keeps
returns-in_err-keep-clause-keeps g c = keeps_after c.loop-at.invariant.1 c.bytes_of.ensures.keeps

pub returns-in_err-strings-clause-fault : goal.returns-in_err-strings-clause-fault
returns-in_err-strings-clause-fault g c =
    let source = g.S.Source in
    let files = (g.D.Disk.seen c.args.disk.now).files in
    let item = c.index-names-at.result in
    let h = c.loop-at.invariant in
    let text = c.in_ok-source.source.items in
    let fault = c.in_err-strings.field-0.0 in
    let whole : IsWholeOf (is_standard_input (string_bytes item)) source files (string_bytes item) c.loop-at.stream c.bytes_of.new.stream text =
    subst (λ (n : List ℕ). IsWholeOf (is_standard_input n) source files n c.loop-at.stream c.bytes_of.new.stream text) c.as_str.ensures.value
    (same_files source (is_standard_input c.as_str.result.now) c.as_str.result.now c.loop-at.stream c.bytes_of.new.stream text h.1.files c.in_ok-source.ensures.whole) in
    let wrong : IsFaultOf text c.loop-at.at fault = subst (λ (t : List ℕ). IsFaultOf t c.loop-at.at fault) c.as_slice.ensures.value c.in_err-strings.ensures.fault in
    let seen = disk_seen g.D.Disk g.D.Input.Source in
    passed_up c.from_residual-in_err-strings.result fault (LacksFiles source c.args.names.now (seen c.args.disk.now) (seen c.bytes_of.new.disk) c.args.stream.now c.bytes_of.new.stream) c.from_residual-in_err-strings.ensures.1
    (faulty_file source (seen c.args.disk.now) (seen c.bytes_of.new.disk) c.args.names.now item c.loop-at.at c.args.stream.now c.loop-at.stream c.bytes_of.new.stream c.loop-at.made.items text h.0 c.loop-at-test.true c.index-names-at.is
    whole fault wrong)

pub loop-at-preserved : goal.loop-at-preserved
loop-at-preserved g c =
    let source = g.S.Source in
    let files = (g.D.Disk.seen c.args.disk.now).files in
    let names = c.args.names.now in
    let at = c.loop-at.at in
    let item = c.index-names-at.result in
    let h = c.loop-at.invariant in
    let old = c.args.stream.now in
    let new = c.bytes_of.new.stream in
    let text = c.in_ok-source.source.items in
    let strings = c.in_ok-strings.strings.items in
    let whole : IsWholeOf (is_standard_input (string_bytes item)) source files (string_bytes item) c.loop-at.stream new text =
    subst (λ (n : List ℕ). IsWholeOf (is_standard_input n) source files n c.loop-at.stream new text) c.as_str.ensures.value
    (same_files source (is_standard_input c.as_str.result.now) c.as_str.result.now c.loop-at.stream new text h.1.files c.in_ok-source.ensures.whole) in
    let read : commands_of text ≡ Ok strings = ap commands_of (sym c.as_slice.ensures.value) ∙ c.in_ok-strings.ensures.read in
    let one = one_source_more source files (take at names) item old c.loop-at.stream new c.loop-at.made.items text strings h.0 whole read in
    let front : take (at + 1) names ≡ take at names ++ item ∷ [] =
    subst (λ (x : String Global). take (at + 1) names ≡ take at names ++ x ∷ []) (sym c.index-names-at.is) (take_more names at item c.loop-at-test.true) in
    let items : c.append.new.made.items ≡ c.loop-at.made.items ++ strings = c.in_ok-append.ensures in (
      subst (λ ns. AreCommandsIn source files ns old new c.append.new.made.items) (sym front) (subst (λ (m : List ℕ). AreCommandsIn source files (take at names ++ item ∷ []) old new m) (sym items) one),
      keeps_after h.1 c.bytes_of.ensures.keeps,
    )

pub returns-in_err-source-clause-fault : goal.returns-in_err-source-clause-fault
returns-in_err-source-clause-fault g c =
    let source = g.S.Source in
    let seen = disk_seen g.D.Disk g.D.Input.Source in
    let after = seen c.bytes_of.new.disk in
    let h = c.loop-at.invariant in
    let item = c.index-names-at.result in
    let old = c.args.stream.now in
    let new = c.bytes_of.new.stream in
    let fault = c.in_err-source.field-0.0 in
    let unread : IsUnread source (seen c.loop-at.disk) after (string_bytes item) c.loop-at.stream new c.loop-at.at fault =
    subst (λ (n : List ℕ). IsUnread source (seen c.loop-at.disk) after n c.loop-at.stream new c.loop-at.at fault) c.as_str.ensures.value c.in_err-source.ensures.unread in
    passed_up c.from_residual.result fault (LacksFiles source c.args.names.now (seen c.args.disk.now) after old new) c.from_residual.ensures.1
    (unread_file source (seen c.args.disk.now) (seen c.loop-at.disk) after c.args.names.now item c.loop-at.at old c.loop-at.stream new c.loop-at.made.items h.1 h.0 c.loop-at-test.true c.index-names-at.is fault unread)

pub returns-clause-keeps : goal.returns-clause-keeps
returns-clause-keeps g c = c.loop-at.invariant.1

pub returns-clause-read : goal.returns-clause-read
returns-clause-read g c =
    let source = g.S.Source in
    let files = (g.D.Disk.seen c.args.disk.now).files in
    subst (λ ns. AreCommandsIn source files ns c.args.stream.now c.loop-at.stream c.loop-at.made.items)
    (take_all c.loop-at.at c.args.names.now c.loop-at-test.false) c.loop-at.invariant.0
