use Rattle.std.proofs.Common.{◌≡◌, ℕ, ◌+◌, List, drop, sym, ap, ◌∙◌, arith}
use Rattle.std.proofs.lemmas.Grind.{common_steps}
use Rattle.teco_source.specs.Source.{State}
use Rattle.teco_source.specs.Places.{bytes_begun, fitted, places_from}
use Rattle.teco_source.specs.Seen.{state_of}
use Rattle.teco_source.proofs.Placements.{one_placed, all_placed}
use Rattle.teco_source.proofs.placing.beginnings.Goals as goal

pub loop-at-preserved : goal.loop-at-preserved
loop-at-preserved c =
    let rest = drop (c.loop-at.at + 1) c.args.source.now in
    let next : State = state_of c.step.new.self in
    let kept : c.resize.new.self.items ≡ fitted c.bytes_begun.result c.loop-at.at c.loop-at.places.items = grind (arith, common_steps) in
    c.loop-at.invariant ∙ one_placed (state_of c.loop-at.reader) c.loop-at.at c.loop-at.places.items c.args.source.now (omega arith)
    ∙ ap (λ (s : State). places_from s (c.loop-at.at + 1) (fitted (bytes_begun s) c.loop-at.at c.loop-at.places.items) rest) (sym c.in_ok-step.ensures)
    ∙ ap (λ (n : ℕ). places_from next (c.loop-at.at + 1) (fitted n c.loop-at.at c.loop-at.places.items) rest) (sym c.bytes_begun.ensures)
    ∙ ap (λ (places : List ℕ). places_from next (c.loop-at.at + 1) places rest) (sym kept)

pub returns : goal.returns
returns c = record {
  begin = sym (c.loop-at.invariant
      ∙ all_placed (state_of c.loop-at.reader) c.loop-at.at c.loop-at.places.items c.args.source.now (omega arith));
}
