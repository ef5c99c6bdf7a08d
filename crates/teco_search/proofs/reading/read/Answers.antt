use Rattle.std.proofs.Common.{◌<◌, length, ap, ⊎_elim, inl, inr, arith}
use Rattle.std.proofs.lemmas.List.{length_push}
use Rattle.std.proofs.lemmas.Result.{err_from_is_err_and}
use Rattle.teco_search.proofs.Lists.{elements_begin, elements_done, elements_refused, elements_more}
use Rattle.teco_search.proofs.reading.read.Goals as goal

pub elements-init : goal.elements-init
elements-init c = record { within = omega arith; so_far = rw c.new-elements.ensures.items (elements_begin c.args.text.now); some = λ past. absurd (omega arith) }

pub returns-in_err-element-clause-err : goal.returns-in_err-element-clause-err
returns-in_err-element-clause-err c =
    let p = err_from_is_err_and c.from_residual.result c.from_residual.ensures.1 in
    let inside : c.elements.at < length c.args.text.now = omega arith in
    rw (p.1, p.2) (⊎_elim (λ memory. inl memory)
    (λ ice. inr (ice.0, elements_refused c.args.text.now c.elements.elements.items c.elements.at c.elements.invariant.so_far inside ice.1))
    c.in_err-element.ensures.read)

pub returns-clause-ok : goal.returns-clause-ok
returns-clause-ok c = elements_done c.args.text.now c.elements.elements.items c.elements.at c.elements.invariant.so_far (omega arith)

pub elements-preserved : goal.elements-preserved
elements-preserved c =
    let inside : c.elements.at < length c.args.text.now = omega arith in
    record {
      within = c.in_ok-element.ensures.within.1;
      so_far = rw c.in_ok-keep.ensures.ok (elements_more c.args.text.now c.elements.elements.items c.elements.at c.elements.invariant.so_far c.in_ok-element.element c.in_ok-element.after
          inside c.in_ok-element.ensures.read c.in_ok-element.ensures.within.0);
      some = λ past. omega (arith, ap length c.in_ok-keep.ensures.ok, length_push c.elements.elements.items c.in_ok-element.element);
    }
