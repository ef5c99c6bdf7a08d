use Rattle.std.proofs.Common.{◌≡◌, ◌⊎◌, ◌∙◌, ap, subst}
use Rattle.teco_fs.specs.Disk.{CutsTo, Same}
use Rattle.teco_fs.specs.State.{FilesPass}
use Rattle.teco_recorder.proofs.open_file.OpenFile.go_on.Goals as goal

pub returns-in_err-cut-clause-moments : goal.returns-in_err-cut-clause-moments
returns-in_err-cut-clause-moments g c =
    let named : c.as_str.result.now ≡ c.args.self.now.name = c.as_str.ensures.value ∙ ap (λ f. f.name) c.self.view_is in
    subst (λ name. FilesPass (g.D.Disk.seen c.args.disk.now) (g.D.Disk.seen c.cut.new.self) (λ before now. Same before now ⊎ CutsTo name c.args.good before now))
    named c.cut.ensures.moments

pub returns-clause-moments : goal.returns-clause-moments
returns-clause-moments g c =
    let named : c.as_str.result.now ≡ c.args.self.now.name = c.as_str.ensures.value ∙ ap (λ f. f.name) c.self.view_is in
    subst (λ name. FilesPass (g.D.Disk.seen c.args.disk.now) (g.D.Disk.seen c.cut.new.self) (λ before now. Same before now ⊎ CutsTo name c.args.good before now))
    named c.cut.ensures.moments
