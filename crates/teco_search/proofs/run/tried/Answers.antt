use Rattle.std.proofs.Common.{◌≡◌, ◌≢◌, ◌+◌, ◌<◌, ℕ, Some, List, sym, ap, ◌∙◌, arith}
use Rattle.std.proofs.lemmas.Bool.{both_ways}
use Rattle.std.proofs.lemmas.List.{take_rest}
use Rattle.teco_core.specs.declared.case_mode.CaseMode.{CaseMode}
use Rattle.teco_search.specs.declared.element.Element.{Element}
use Rattle.teco_search.specs.declared.element.Element.TheVariants.{Blanks}
use Rattle.teco_search.specs.Occurrence.{blanks_at, element_end, match_end}
use Rattle.teco_search.proofs.Anchored.{ends_next}
use Rattle.teco_search.proofs.Ends.{match_more, match_stop, match_done}
use Rattle.teco_search.proofs.Runs.{run_ends}
use Rattle.teco_search.proofs.Tried.{single_more, after_run}
use Rattle.teco_search.proofs.run.tried.Goals as goal

-- what a run matches
ends_of : (mode : CaseMode) (e : Element) (text : List ℕ) (p q : ℕ) → e ≡ Blanks → Some q ≡ element_end mode e text p → (q ≡ p + blanks_at text p) × (0 < blanks_at text p)
ends_of mode e text p q is end = run_ends mode text p q (ap (λ d. element_end mode d text p) (sym is) ∙ sym end)

pub returns-in_default : goal.returns-in_default
returns-in_default c = record {
  end =
      sym (match_stop c.args.mode c.args.elements.now c.elements.i c.index-elements-i.result c.args.text.now c.elements.place (omega arith) c.index-elements-i.is (sym c.element_end.ensures ∙ c.in_default.is))
      ∙ c.elements.invariant.matches;
  from = omega (arith, c.elements.invariant.along);
  blanks = λ some. absurd (omega (arith, some));
  shared = λ k p q some. absurd (omega (arith, some));
}

pub overflow_sub-result : goal.overflow_sub-result
overflow_sub-result c =
    let ends = ends_of c.args.mode c.index-elements-i.result c.args.text.now c.elements.place c.in-Some.end (c.is_run.ensures.0 c.if-is_run.true) c.in-Some.ensures in
    omega (arith, ends.0)

pub returns-then-is_run : goal.returns-then-is_run
returns-then-is_run c =
    let es = c.args.elements.now in
    let i = c.elements.i in
    let end = c.in-Some.end in
    let is = c.is_run.ensures.0 c.if-is_run.true in
    let ends = ends_of c.args.mode c.index-elements-i.result c.args.text.now c.elements.place end is c.in-Some.ensures in
    let along = c.elements.invariant.along in
    let rest = c.match_end-matched.ensures ∙ ap (λ ds. match_end c.args.mode ds c.args.text.now end) (take_rest es (i + 1)) in
    record {
      end =
          rest
          ∙ sym (match_more c.args.mode es i c.index-elements-i.result c.args.text.now c.elements.place end (omega arith) c.index-elements-i.is (sym c.in-Some.ensures))
          ∙ c.elements.invariant.matches;
      from = omega (arith, along);
      blanks = λ some. omega (arith, ends.0);
      shared = λ k p q some sum inside to matches.
          let same : p ≡ k + i = omega (arith, sum, along) in
          let whole : k + i + blanks_at c.args.text.now (k + i) ≡ end = ap (λ j. j + blanks_at c.args.text.now j) (sym same) ∙ to ∙ omega (arith, ends.0) in
          rest ∙ after_run c.args.mode es i c.index-elements-i.result c.args.text.now k end q (omega arith) c.index-elements-i.is is c.elements.invariant.single whole (omega (arith, same, inside, ends.0)) matches;
    }

pub elements-preserved : goal.elements-preserved
elements-preserved c =
    let other : c.index-elements-i.result ≢ Blanks = λ is. both_ways c.is_run.result c.if-is_run.false (c.is_run.ensures.1 is) in
    let next = ends_next c.args.mode c.index-elements-i.result c.args.text.now c.elements.place c.in-Some.end other (sym c.in-Some.ensures) in
    record {
      matches =
          sym (match_more c.args.mode c.args.elements.now c.elements.i c.index-elements-i.result c.args.text.now c.elements.place c.in-Some.end (omega arith) c.index-elements-i.is (sym c.in-Some.ensures))
          ∙ c.elements.invariant.matches;
      along = omega (arith, next, c.elements.invariant.along);
      single = single_more c.args.elements.now c.elements.i c.index-elements-i.result c.elements.invariant.single c.index-elements-i.is other;
    }

pub returns : goal.returns
returns c = record {
  end = sym (match_done c.args.mode c.args.elements.now c.elements.i c.args.text.now c.elements.place (omega arith)) ∙ c.elements.invariant.matches;
  from = omega (arith, c.elements.invariant.along);
  blanks = λ some. absurd (omega (arith, some));
  shared = λ k p q some. absurd (omega (arith, some));
}
