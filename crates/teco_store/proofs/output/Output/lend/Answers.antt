use Rattle.std.proofs.Common.{arith, length, refl}
use Rattle.teco_store.specs.Output.{source_of, text_in}
use Rattle.teco_store.proofs.Outputs.{lend_bytes, slice_front}
use Rattle.teco_store.proofs.output.Output.lend.Goals as goal

pub returns-then-from-upto : goal.returns-then-from-upto
returns-then-from-upto c = record {
  bytes = λ input inside within.
      let o = c.args.self.now in
      let adds = c.add.ensures.more in
      let own = adds.own in
      let long = adds.size_is in
      let all = c.requires.counted.own in
      let len = c.requires.counted.len in (
        (
          record {
            ordered = adds.ordered;
            own = omega arith;
            len = omega arith;
          },
          adds.ends (length (source_of o input)) inside.1 within,
        ),
        lend_bytes o.own.items (source_of o input) o.parts.items c.add.new.parts.items c.args.from c.args.upto adds,
      );
  within = λ input within. slice_front input (text_in c.args.self.now.shared) c.args.from c.args.upto c.requires.order.0 within;
  own = refl;
  len = refl;
  count = (c.add.ensures.more.count, c.add.ensures.capacity);
}
