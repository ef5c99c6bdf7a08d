use Rattle.std.proofs.Common.{◌≡◌, ◌<◌, map, length, Ok, sym, refl, arith}
use Rattle.std.proofs.lemmas.List.{map_push, length_push}
use Rattle.teco_search.specs.declared.element.SetItem.TheVariants.{Byte}
use Rattle.teco_search.specs.Literal.{plain}
use Rattle.teco_search.specs.Reading.{item_at}
use Rattle.teco_search.proofs.Lists.{elements_begin, elements_done, elements_more}
use Rattle.teco_search.proofs.Literals.{literal_element, all_more}
use Rattle.teco_search.proofs.reading.literal.Goals as goal

pub bytes-init : goal.bytes-init
bytes-init c = rw c.new-bytes.ensures.items (record {
  within = omega arith;
  so_far = elements_begin c.args.text.now;
  exact = refl;
  some = λ past. absurd (omega arith);
})

pub bytes-preserved : goal.bytes-preserved
bytes-preserved c =
    let here = c.in-Ok-Byte-default in
    let is : item_at c.args.text.now c.bytes.at ≡ Ok (Byte here.byte, here.after) = cc (here.ensures.read, here.field-0-0-is) in
    let inside : c.bytes.at < length c.args.text.now = omega arith in
    let so_far = c.bytes.invariant in
    rw c.in_ok-keep.ensures.ok (record {
      within = here.ensures.within.1;
      so_far = rw (map_push plain c.bytes.bytes.items here.byte)
          (elements_more c.args.text.now (map plain c.bytes.bytes.items) c.bytes.at so_far.so_far (plain here.byte) here.after inside (literal_element c.args.text.now c.bytes.at here.byte here.after is) here.ensures.within.0);
      exact = all_more c.args.mode c.bytes.bytes.items here.byte so_far.exact (sym c.if-not-is_exact.ensures);
      some = λ past. omega (arith, length_push c.bytes.bytes.items here.byte);
    })

pub returns-clause-elements : goal.returns-clause-elements
returns-clause-elements c = elements_done c.args.text.now (map plain c.bytes.bytes.items) c.bytes.at c.bytes.invariant.so_far (omega arith)
