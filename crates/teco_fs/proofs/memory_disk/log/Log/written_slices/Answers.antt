use Rattle.std.proofs.Common.{◌≡◌, ◌∙◌, ◌++◌, ap, append_assoc, append-nil, refl, subst, sym, List, [], ℕ}
use Rattle.teco_store.specs.Slices.{bytes_in}
use Rattle.teco_fs.specs.Disk.{Appends}
use Rattle.teco_fs.specs.FileLog.{files_of}
use Rattle.teco_fs.proofs.Disks.{appends_both, appends_none}
use Rattle.teco_fs.proofs.memory_disk.log.Log.written_slices.Goals as goal

pub loop-slice-init : goal.loop-slice-init
loop-slice-init c = ([], refl, appends_none c.args.name.now (files_of c.args.self.now))

pub loop-slice-preserved : goal.loop-slice-preserved
loop-slice-preserved c =
    let so_far = c.loop-slice.invariant in
    let given = so_far.0 in
    let slice = c.in-Some.slice.now in (
      given ++ slice,
      so_far.1 ∙ ap (λ (l : List ℕ). given ++ l) c.in-Some.ensures.bytes ∙ sym (append_assoc given slice (bytes_in c.in-Some.others)),
      appends_both so_far.2 c.in_ok-written.ensures.ok,
    )

pub returns-clause-ok : goal.returns-clause-ok
returns-clause-ok c =
    let so_far = c.loop-slice.invariant in
    let all : so_far.0 ≡ bytes_in c.args.bytes = sym (so_far.1 ∙ ap (λ (l : List ℕ). so_far.0 ++ l) c.in_default.ensures.bytes ∙ append-nil so_far.0) in
    subst (λ (l : List ℕ). Appends c.args.name.now l (files_of c.args.self.now) (files_of c.loop-slice.self)) all so_far.2
