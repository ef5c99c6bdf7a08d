use Rattle.std.proofs.Common.{◌≡◌, ℕ, List, ◌∷◌, map, take}
use Rattle.std.specs.String.{string_bytes}
use Rattle.teco_driver.specs.Lines.{worst}
use Rattle.teco_serve.specs.Exchange.{HasRung}
use Rattle.teco_driver.specs.Runs.{Chain, LinkOver}
use Rattle.teco_fs.specs.Seen.{disk_seen}
use Rattle.teco_driver.specs.Given.{host_view}
use Rattle.teco_driver.proofs.several.edit_each.Given as goal

abbrev pub invariant-loop-name : goal.invariant-loop-name
invariant-loop-name g l =
    let view = host_view (disk_seen g.D.Disk g.D.Input.Source) g.S.Source g.T.Terminal.screen (HasRung g.A.Stop.answered) in
    (statuses : List ℕ) × Chain (LinkOver view g.E.Terminal.screen l.line l.bytes) (string_bytes l.line.input ∷ map string_bytes (take l.name-index l.line.more.items))
    (l.fn.host, l.fn.errors) (l.host, l.errors) statuses
    × (l.status ≡ worst 0 statuses)
