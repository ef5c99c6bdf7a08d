use Rattle.std.proofs.Common.{◌≡◌, List, String, Global, arith, false, length, map, rules, subst}
use Rattle.std.proofs.lemmas.Grind.{common_steps}
use Rattle.std.specs.Prelude.{nat_eq}
use Rattle.std.specs.String.{string_bytes}
use Rattle.teco_fs.specs.Seen.{disk_seen}
use Rattle.teco_driver.specs.Library.{AreFound}
use Rattle.teco_driver.proofs.FoundFiles.{finds_sources}
use Rattle.teco_driver.proofs.library.find_files.Goals as goal

pub returns-in_ok-names-clause-found : goal.returns-in_ok-names-clause-found
returns-in_ok-names-clause-found g c =
    let seen = disk_seen g.D.Disk g.D.Input.Source in
    let some : nat_eq (length c.args.folders.now) 0 ≡ false = first_of (search rules, cc, grind (arith, common_steps)) in
    let files = c.in_ok-names.field-0 in
    finds_sources seen c.args.folders.now c.args.commands.now c.in-Sources.names files c.in-Sources.field-1 c.args.disk.now c.files_of.new.disk some c.in-Sources.is
    (subst (λ (names : List (String Global)). AreFound seen (map string_bytes c.args.folders.now) names c.args.disk.now c.files_of.new.disk files.items)
    c.deref.ensures.value c.in_ok-names.ensures.found)
