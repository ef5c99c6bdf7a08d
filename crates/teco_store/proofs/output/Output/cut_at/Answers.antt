use Rattle.std.proofs.Common.{◌≡◌, ◌+◌, ◌-◌, ◌<◌, ◌∷◌, [], ◌++◌, arith, get_or, length, subst, sym, take}
use Rattle.std.specs.List.{sum_by}
use Rattle.std.proofs.lemmas.List.Sums.{sum_by_push}
use Rattle.teco_store.specs.Output.{IsFront}
use Rattle.teco_store.specs.Parts.{own_size, size}
use Rattle.teco_store.specs.declared.parts.Part.{Part}
use Rattle.teco_store.proofs.Fronts.{front_of, sum_with}
use Rattle.teco_store.proofs.output.Output.cut_at.Goals as goal

pub returns-then-over-len : goal.returns-then-over-len
returns-then-over-len c =
    let ps = c.args.self.now.parts.items in
    let n = c.loop-parts.parts in
    let i = n - 1 in
    let p = c.index-last.result.now in
    let over = c.loop-parts.over in
    let front = c.without-front.result in
    let some = c.loop-parts-test.true in
    let next : n ≡ i + 1 = omega arith in
    let there : i < length ps = omega arith in
    let is : p ≡ get_or ps i p = c.index-last.ensures in
    let own_step = sum_with own_size ps n i p next there is in
    let size_step = sum_with size ps n i p next there is in
    let less : over < size p = omega arith in
    let sizes : c.args.shown + over ≡ sum_by size (take i ps) + size p = omega arith in
    let own_all = sum_by_push own_size (take i ps) front in
    record {
      parts = omega arith;
      own = omega arith;
      front = subst (λ (q : Part). IsFront c.args.shown ps (take i ps ++ q ∷ [])) (sym c.without-front.ensures)
          (front_of ps i p over there is less c.requires.counted.ordered c.args.shown sizes);
    }
