use Rattle.std.proofs.Common.{◌≡◌, ◌++◌, ◌+◌, ℕ, List, String, Global, [], ◌∷◌, map, sym, subst, take}
use Rattle.std.proofs.lemmas.List.{take_all, take_more}
use Rattle.std.specs.String.{string_bytes}
use Rattle.teco_fs.specs.Seen.{disk_seen}
use Rattle.teco_driver.specs.Library.{AreFound, IsFound}
use Rattle.teco_driver.proofs.Doings.{keeps_after}
use Rattle.teco_driver.proofs.FoundFiles.{found_more}
use Rattle.teco_driver.proofs.library.files_of.Goals as goal

pub loop-name-preserved : goal.loop-name-preserved
loop-name-preserved g c =
    let seen = disk_seen g.D.Disk g.D.Input.Source in
    let folders = map string_bytes c.args.folders.now in
    let names = c.args.names.now in
    let i = c.loop-name.name-index in
    let item = c.name-item.result in
    let file = c.in_ok-file.file in
    let h = c.loop-name.invariant in
    let old = c.args.disk.now in
    let new = c.file_of.new.disk in
    let one : IsFound seen folders (string_bytes item) c.loop-name.disk new (string_bytes file) =
    subst (λ (n : List ℕ). IsFound seen folders n c.loop-name.disk new (string_bytes file)) c.as_str.ensures.value c.in_ok-file.ensures.found in
    let front : take (i + 1) names ≡ take i names ++ item ∷ [] =
    subst (λ (x : String Global). take (i + 1) names ≡ take i names ++ x ∷ []) (sym c.name-item.is) (take_more names i item c.loop-name-test.true) in
    let more = found_more seen folders (take i names) item old c.loop-name.disk new c.loop-name.files.items file h.0 one in
    let items : c.push.new.self.items ≡ c.loop-name.files.items ++ file ∷ [] = c.in_ok-push.ensures.items in (
      subst (λ ns. AreFound seen folders ns old new c.push.new.self.items) (sym front)
          (subst (λ (fs : List (String Global)). AreFound seen folders (take i names ++ item ∷ []) old new fs) (sym items) more),
      keeps_after h.1 c.file_of.ensures.kept,
    )

pub returns-clause-found : goal.returns-clause-found
returns-clause-found g c =
    let seen = disk_seen g.D.Disk g.D.Input.Source in
    subst (λ ns. AreFound seen (map string_bytes c.args.folders.now) ns c.args.disk.now c.loop-name.disk c.loop-name.files.items)
    (take_all c.loop-name.name-index c.args.names.now c.loop-name-test.false) c.loop-name.invariant.0
