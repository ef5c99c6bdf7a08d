use Rattle.std.proofs.Common.{◌≡◌, ◌++◌, ◌+◌, ◌∷◌, [], ℕ, List, String, Global, Option, Some, refl, sym, subst, take}
use Rattle.std.proofs.lemmas.List.{take_more}
use Rattle.std.proofs.lemmas.Option.{slice_get_read}
use Rattle.std.specs.List.{slice_get}
use Rattle.std.specs.Prelude.{length}
use Rattle.std.specs.String.{string_bytes}
use Rattle.teco_fs.specs.Disk.{Files}
use Rattle.teco_fs.specs.Reading.{IsInput}
use Rattle.teco_fs.specs.Seen.{disk_seen}
use Rattle.teco_debugger.specs.Reading.{AddsFiles, AddsSource, IsUnreadable, LacksEach, LacksFile}
use Rattle.teco_debugger.proofs.FilesRead.{keeps_after, lacks_file, lacks_source, one_file_more, passed_up}
use Rattle.teco_debugger.proofs.running.add_files.Goals as goal

pub loop-number-preserved : goal.loop-number-preserved
loop-number-preserved g c =
    let files = (g.D.Disk.seen c.args.disk.now).files in
    let names = c.args.names.now in
    let number = c.loop-number.number in
    let item = c.index-names-number.result in
    let h = c.loop-number.invariant in
    let old = c.args.given.now in
    let mid = c.loop-number.given in
    let new = c.add.new.self in
    let source = c.in_ok-source.source.items in
    let is : IsInput files (string_bytes item) source =
    subst (λ (n : List ℕ). IsInput files n source) c.as_str.ensures.value
    (subst (λ (fs : Option Files). IsInput fs c.as_str.result.now source) h.1.files c.in_ok-source.ensures.source) in
    let adds : AddsSource (string_bytes item) source mid new =
    subst (λ (n : List ℕ). AddsSource n source mid new) c.as_str-in-loop-number.ensures.value
    (subst (λ (s : List ℕ). AddsSource c.as_str-in-loop-number.result.now s mid new) c.as_slice.ensures.value c.in_ok-add.ensures.adds) in
    let one = one_file_more files (take number names) item old mid new source h.0 is adds in
    let front : take (number + 1) names ≡ take number names ++ item ∷ [] =
    subst (λ (x : String Global). take (number + 1) names ≡ take number names ++ x ∷ []) (sym c.index-names-number.is) (take_more names number item c.loop-number-test.true) in (
      subst (λ ns. AddsFiles files ns old new) (sym front) one,
      keeps_after h.1 c.source_in.ensures.keeps,
    )

pub returns-in_err-source-clause-lacks : goal.returns-in_err-source-clause-lacks
returns-in_err-source-clause-lacks g c =
    let seen = disk_seen g.D.Disk g.D.Input.Source in
    let files = (g.D.Disk.seen c.args.disk.now).files in
    let mid = (g.D.Disk.seen c.loop-number.disk).files in
    let names = c.args.names.now in
    let number = c.loop-number.number in
    let item = c.index-names-number.result in
    let h = c.loop-number.invariant in
    let ending = c.in_err-source.field-0.0 in
    let new = seen c.source_in.new.disk in
    let is : slice_get names number ≡ Some item = slice_get_read names (length names) number item refl c.loop-number-test.true c.index-names-number.is in
    let lacks : LacksFile mid new number (string_bytes item) ending =
    subst (λ (n : List ℕ). LacksFile mid new number n ending) c.as_str.ensures.value c.in_err-source.ensures.unread in
    passed_up c.from_residual.result ending (LacksEach files new names) c.from_residual.ensures.1
    (lacks_file files mid new names number item h.1.files is ending lacks)

pub returns-in_err-add-clause-lacks : goal.returns-in_err-add-clause-lacks
returns-in_err-add-clause-lacks g c =
    let seen = disk_seen g.D.Disk g.D.Input.Source in
    let files = (g.D.Disk.seen c.args.disk.now).files in
    let names = c.args.names.now in
    let number = c.loop-number.number in
    let item = c.index-names-number.result in
    let h = c.loop-number.invariant in
    let source = c.in_ok-source.source.items in
    let ending = c.in_err-add.field-0.0 in
    let new = seen c.source_in.new.disk in
    let is : slice_get names number ≡ Some item = slice_get_read names (length names) number item refl c.loop-number-test.true c.index-names-number.is in
    let had : IsInput files (string_bytes item) source =
    subst (λ (n : List ℕ). IsInput files n source) c.as_str.ensures.value
    (subst (λ (fs : Option Files). IsInput fs c.as_str.result.now source) h.1.files c.in_ok-source.ensures.source) in
    let wrong : IsUnreadable number source ending = subst (λ (s : List ℕ). IsUnreadable number s ending) c.as_slice.ensures.value c.in_err-add.ensures.fault in
    passed_up c.from_residual-in_err-add.result ending (LacksEach files new names) c.from_residual-in_err-add.ensures.1
    (lacks_source files new names number item source is had ending wrong)
