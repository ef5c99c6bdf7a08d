use Rattle.std.proofs.Common.{◌∙◌, ◌-◌, ◌+◌, ◌≡◌, ◌<◌, length, reverse, take, get_or, sym, ap, arith, rules}
use Rattle.teco_exec.specs.declared.blocks.Body.TheVariants.{Endless}
use Rattle.teco_exec.specs.declared.blocks.Block.{Block}
use Rattle.teco_exec.specs.Frames.{has_iteration}
use Rattle.teco_exec.proofs.Frames.{has_iteration-cons, has_iteration-none, has_iteration-part, innermost, or_kind}
use Rattle.teco_exec.proofs.blocks.Blocks.has_iteration.Goals as goal

pub returns-in-Iter : goal.returns-in-Iter
returns-in-Iter c =
    let d = c.loop-depth.depth - 1 in
    let no : Block = record { start = 0; body = Endless } in
    let xs = c.self.inside.open.now in
    let within : d < length xs = search rules in
    let one : c.loop-depth.depth ≡ d + 1 = omega (arith, c.loop-depth-test.true) in
    sym (ap (λ n. has_iteration (reverse (take n xs))) one ∙ ap has_iteration (innermost xs d no within) ∙ has_iteration-cons (get_or xs d no) (reverse (take d xs)) (sym c.kind.ensures ∙ c.in-Iter.is))
    ∙ c.loop-depth.invariant.same

pub loop-depth-preserved : goal.loop-depth-preserved
loop-depth-preserved c =
    let d = c.loop-depth.depth - 1 in
    let no : Block = record { start = 0; body = Endless } in
    let xs = c.self.inside.open.now in
    let within : d < length xs = search rules in
    let one : c.loop-depth.depth ≡ d + 1 = omega (arith, c.loop-depth-test.true) in
    record {
      few = omega (arith, c.loop-depth.invariant.few);
      same = sym (ap (λ n. has_iteration (reverse (take n xs))) one ∙ ap has_iteration (innermost xs d no within) ∙ has_iteration-part (get_or xs d no) (reverse (take d xs)) (or_kind c.kind.ensures c.in-Then.is))
          ∙ c.loop-depth.invariant.same;
    }

pub returns : goal.returns
returns c =
    let none : c.loop-depth.depth ≡ 0 = omega (arith, c.loop-depth-test.false) in
    sym (ap (λ n. has_iteration (reverse (take n c.self.inside.open.now))) none ∙ has_iteration-none) ∙ c.loop-depth.invariant.same
