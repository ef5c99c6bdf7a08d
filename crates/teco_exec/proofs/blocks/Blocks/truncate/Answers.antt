use Rattle.std.proofs.Common.{◌≡◌, ◌≤◌, length, sym, ap, ◌∙◌, arith}
use Rattle.std.proofs.lemmas.List.{length-reverse, length-take-le}
use Rattle.teco_exec.specs.Frames.{outermost}
use Rattle.teco_exec.proofs.Outermost.{outermost_stored}
use Rattle.teco_exec.proofs.blocks.Blocks.truncate.Goals as goal

pub returns : goal.returns
returns c =
    let xs = c.self.inside.open.now in
    let n = c.self.inside.depth in
    let within : n ≤ length xs = omega (arith, c.self.invariant) in
    let size : n ≡ length c.args.self.now = sym (length-take-le n xs within) ∙ sym (length-reverse _) ∙ ap length c.self.view_is in
    let le : c.args.depth ≤ n = omega (arith, c.requires) in
    sym (outermost_stored xs c.args.depth n le within) ∙ ap (outermost c.args.depth) c.self.view_is
