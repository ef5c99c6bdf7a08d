use Rattle.std.proofs.Common.{◌≡◌, ◌≤◌, ◌-◌, ◌∷◌, get_or, length, sym, ap, subst, ◌∙◌, arith}
use Rattle.std.proofs.lemmas.List.{length-reverse, length-take-le}
use Rattle.teco_exec.specs.Frames.{outermost}
use Rattle.teco_exec.specs.declared.blocks.Block.{Block}
use Rattle.teco_exec.specs.declared.blocks.Body.TheVariants.{Endless}
use Rattle.teco_exec.proofs.Outermost.{stored_cons}
use Rattle.teco_exec.proofs.blocks.Blocks.get.Goals as goal

pub returns : goal.returns
returns c =
    let xs = c.self.inside.open.now in
    let no : Block = record { start = 0; body = Endless } in
    let n = c.self.inside.depth in
    let within : n ≤ length xs = omega (arith, c.self.invariant) in
    let size : n ≡ length c.args.self.now = sym (length-take-le n xs within) ∙ sym (length-reverse _) ∙ ap length c.self.view_is in
    let le : c.args.depth ≤ n = omega (arith, c.requires.open) in
    subst (λ bs. outermost c.args.depth bs ≡ get_or xs (c.args.depth - 1) no ∷ outermost (c.args.depth - 1) bs) c.self.view_is (stored_cons xs c.args.depth n no c.requires.some le within)
