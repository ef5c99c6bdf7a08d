use Rattle.std.proofs.Common.{◌≡◌, ◌∙◌, ap, sym, subst, arith, length, List, ℕ, take}
use Rattle.std.specs.List.{All, sum_by}
use Rattle.std.proofs.lemmas.List.{length-take-le}
use Rattle.teco_store.specs.Output.{kept, source_of}
use Rattle.teco_store.specs.Parts.{joined, own_size, size, EndsWithin, IsOrdered}
use Rattle.teco_store.specs.declared.parts.Part.{Part}
use Rattle.teco_store.proofs.Outputs.{kept_bytes}
use Rattle.teco_store.proofs.output.Output.keep.Goals as goal

pub returns-clause-bytes : goal.returns-clause-bytes
returns-clause-bytes c = λ input inside.
    let o = c.args.self.now in
    let cut = c.args.cut in
    let qs = kept o.parts.items cut in
    let all = c.requires.counted.own in
    let own_is = c.requires.cut.own in
    let front = c.requires.cut.front in
    let fewer = front.own in
    let new : c.keep.new.parts.items ≡ qs = c.keep.ensures.items in
    let own : c.truncate.new.self.items ≡ take cut.own o.own.items = c.truncate.ensures.items in
    let long : length c.truncate.new.self.items ≡ cut.own = ap length own ∙ length-take-le cut.own o.own.items (omega arith) in (
      (
        record {
          ordered = subst (All IsOrdered) (sym new) front.ordered;
          own = ap (sum_by own_size) new ∙ own_is ∙ sym long;
          len = ap (sum_by size) new ∙ front.size_is;
        },
        subst (All (EndsWithin (length (source_of o input)))) (sym new) (front.ends (length (source_of o input)) inside.1),
      ),
      ap (λ (l : List ℕ). joined l (source_of o input) c.keep.new.parts.items) own ∙ ap (λ (ps : List Part). joined (take cut.own o.own.items) (source_of o input) ps) new
          ∙ kept_bytes o.own.items (source_of o input) o.parts.items qs c.args.shown cut.own all front own_is inside.1,
    )
