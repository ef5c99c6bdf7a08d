use Rattle.std.proofs.Common.{◌≡◌, ◌∙◌, ◌++◌, ◌+◌, ◌≤◌, ℕ, List, String, Global, [], ◌∷◌, map, take, length, refl, sym, ap, subst}
use Rattle.std.proofs.lemmas.List.{take_all, take_more, map-append}
use Rattle.std.specs.String.{string_bytes}
use Rattle.teco_driver.specs.Lines.{worse}
use Rattle.teco_serve.specs.Exchange.{HasRung}
use Rattle.teco_driver.specs.Runs.{Chain, LinkOver}
use Rattle.teco_fs.specs.Seen.{disk_seen}
use Rattle.teco_driver.specs.Given.{host_view}
use Rattle.teco_driver.specs.declared.host.Host.{Host}
use Rattle.teco_driver.proofs.Runs.{chain_more, worst_more}
use Rattle.teco_driver.proofs.several.edit_each.Goals as goal

pub loop-name-init : goal.loop-name-init
loop-name-init g c =
    let view = host_view (disk_seen g.D.Disk g.D.Input.Source) g.S.Source g.T.Terminal.screen (HasRung g.A.Stop.answered) in
    let old : Host g.row.S.Denot g.row.A.Denot g.row.T.Denot g.row.D.Denot × g.row.E.Denot = (c.args.host.now, c.args.errors.now) in
    let new : Host g.row.S.Denot g.row.A.Denot g.row.T.Denot g.row.D.Denot × g.row.E.Denot = (c.edit_given-first.new.host, c.edit_given-first.new.errors) in
    let status = c.edit_given-first.result in
    let linked = subst (λ (name : List ℕ). LinkOver view g.E.Terminal.screen c.args.line.now c.args.bytes.now name old new status) c.as_str-name.ensures.value c.edit_given-first.ensures in
    (status ∷ [], (new, status, [], refl, linked, (refl, refl)), c.worse-status.ensures)

pub loop-name-preserved : goal.loop-name-preserved
loop-name-preserved g c =
    let view = host_view (disk_seen g.D.Disk g.D.Input.Source) g.S.Source g.T.Terminal.screen (HasRung g.A.Stop.answered) in
    let link = LinkOver view g.E.Terminal.screen c.args.line.now c.args.bytes.now in
    let h = c.loop-name.invariant in
    let i = c.loop-name.name-index in
    let items = c.deref-name-items.result.now in
    let more = c.args.line.now.more.items in
    let item = c.name-item.result in
    let old : Host g.row.S.Denot g.row.A.Denot g.row.T.Denot g.row.D.Denot × g.row.E.Denot = (c.args.host.now, c.args.errors.now) in
    let mid : Host g.row.S.Denot g.row.A.Denot g.row.T.Denot g.row.D.Denot × g.row.E.Denot = (c.loop-name.host, c.loop-name.errors) in
    let new : Host g.row.S.Denot g.row.A.Denot g.row.T.Denot g.row.D.Denot × g.row.E.Denot = (c.edit_given-next.new.host, c.edit_given-next.new.errors) in
    let next = c.edit_given-next.result in
    let input = string_bytes c.args.line.now.input in
    let name = string_bytes item in
    let taken : take (i + 1) items ≡ take i items ++ item ∷ [] =
    subst (λ (x : String Global). take (i + 1) items ≡ take i items ++ x ∷ []) (sym c.name-item.is) (take_more items i item c.loop-name-test.true) in
    let front : take (i + 1) more ≡ take i more ++ item ∷ [] = subst (λ xs. take (i + 1) xs ≡ take i xs ++ item ∷ []) c.deref-name-items.ensures.value taken in
    let names : map string_bytes (take i more) ++ name ∷ [] ≡ map string_bytes (take (i + 1) more) =
    sym (map-append string_bytes (take i more) (item ∷ [])) ∙ ap (map string_bytes) (sym front) in
    let linked = subst (λ (n : List ℕ). link n mid new next) c.as_str-name-in-loop-name.ensures.value c.edit_given-next.ensures in
    let all = chain_more link (input ∷ map string_bytes (take i more)) name old mid new h.0 next h.1 linked in (
      h.0 ++ next ∷ [],
      subst (λ (ns : List (List ℕ)). Chain link (input ∷ ns) old new (h.0 ++ next ∷ [])) names all,
      c.worse-status-in-loop-name.ensures ∙ (ap (λ s. worse s next) h.2 ∙ sym (worst_more 0 h.0 next)),
    )

pub returns : goal.returns
returns g c =
    let view = host_view (disk_seen g.D.Disk g.D.Input.Source) g.S.Source g.T.Terminal.screen (HasRung g.A.Stop.answered) in
    let link = LinkOver view g.E.Terminal.screen c.args.line.now c.args.bytes.now in
    let h = c.loop-name.invariant in
    let old : Host g.row.S.Denot g.row.A.Denot g.row.T.Denot g.row.D.Denot × g.row.E.Denot = (c.args.host.now, c.args.errors.now) in
    let new : Host g.row.S.Denot g.row.A.Denot g.row.T.Denot g.row.D.Denot × g.row.E.Denot = (c.loop-name.host, c.loop-name.errors) in
    let more = c.args.line.now.more.items in
    let past : length more ≤ c.loop-name.name-index = subst (λ xs. length xs ≤ c.loop-name.name-index) c.deref-name-items.ensures.value c.loop-name-test.false in
    record {
      statuses = h.0;
      runs = subst (λ (xs : List (String Global)). Chain link (string_bytes c.args.line.now.input ∷ map string_bytes xs) old new h.0) (take_all c.loop-name.name-index more past) h.1;
      status_is = h.2;
    }
