use Rattle.std.proofs.Common.{◌∙◌, ◌-◌, ◌+◌, ◌++◌, ◌≡◌, ◌<◌, length, reverse, take, None, Some, refl, sym, ap, arith, rules, append-nil}
use Rattle.teco_exec.specs.Frames.{turns_open}
use Rattle.teco_exec.specs.declared.blocks.Body.TheVariants.{Endless, Turns}
use Rattle.teco_exec.specs.declared.blocks.Block.{Block}
use Rattle.teco_exec.proofs.Turns.{part_more, turn_more, turns_none}
use Rattle.teco_exec.proofs.blocks.Blocks.turns.Goals as goal

pub outward-preserved-in-Continue-1 : goal.outward-preserved-in-Continue-1
outward-preserved-in-Continue-1 c =
    let d = c.outward.depth - 1 in
    let no : Block = record { start = 0; body = Endless } in
    let xs = c.self.inside.open.now in
    let within : d < length xs = search rules in
    let one : c.outward.depth ≡ d + 1 = omega (arith, c.outward-test.true) in
    record {
      few = omega (arith, c.outward.invariant.few);
      same = ap (λ ys. ys ++ turns_open (reverse (take d xs))) c.in_ok-push-in-Endless.ensures.items
          ∙ turn_more xs d c.outward.depth no Endless None c.outward.turns.items (turns_open c.args.self.now) one within c.in-Endless.is refl c.outward.invariant.same;
    }

pub outward-preserved-in-Continue-branch-2 : goal.outward-preserved-in-Continue-branch-2
outward-preserved-in-Continue-branch-2 c =
    let d = c.outward.depth - 1 in
    let no : Block = record { start = 0; body = Endless } in
    let xs = c.self.inside.open.now in
    let within : d < length xs = search rules in
    let one : c.outward.depth ≡ d + 1 = omega (arith, c.outward-test.true) in
    record {
      few = omega (arith, c.outward.invariant.few);
      same = ap (λ ys. ys ++ turns_open (reverse (take d xs))) c.in_ok-push-in-Turns.ensures.items
          ∙ turn_more xs d c.outward.depth no (Turns c.in-Turns.left) (Some c.in-Turns.left) c.outward.turns.items (turns_open c.args.self.now) one within c.in-Turns.is refl c.outward.invariant.same;
    }

pub outward-preserved : goal.outward-preserved
outward-preserved c =
    let d = c.outward.depth - 1 in
    let no : Block = record { start = 0; body = Endless } in
    let xs = c.self.inside.open.now in
    let within : d < length xs = search rules in
    let one : c.outward.depth ≡ d + 1 = omega (arith, c.outward-test.true) in
    record {
      few = omega (arith, c.outward.invariant.few);
      same = part_more xs d c.outward.depth no c.outward.turns.items (turns_open c.args.self.now) one within c.in-Then.is c.outward.invariant.same;
    }

pub returns : goal.returns
returns c =
    let none : c.outward.depth ≡ 0 = omega (arith, c.outward-test.false) in
    sym (append-nil c.outward.turns.items) ∙ ap (λ x. c.outward.turns.items ++ x) (sym turns_none) ∙ sym (ap (λ n. c.outward.turns.items ++ turns_open (reverse (take n c.self.inside.open.now))) none) ∙ c.outward.invariant.same
