use Rattle.std.proofs.Common.{rules, ◌≡◌, ◌-◌, ◌+◌, sym, ap, ◌∙◌, arith, ⊎_elim}
use Rattle.std.proofs.lemmas.Bool.{cases_eq}
use Rattle.teco_search.specs.Occurrence.{blanks_at}
use Rattle.teco_search.proofs.Runs.{blanks_more, blanks_none, blanks_stop}
use Rattle.teco_search.proofs.run.blanks_start.Goals as goal

pub blanks-preserved : goal.blanks-preserved
blanks-preserved c =
    let text = c.args.text.now in
    let start = c.blanks.start in
    let more = blanks_more text (start - 1) c.in-Some.byte (sym c.in-Some.ensures.value) (sym c.if-not-is_blank.ensures) in
    let next : blanks_at text (start - 1 + 1) ≡ blanks_at text start = ap (blanks_at text) (omega arith) in
    let here = c.blanks.invariant.run start (omega arith) c.blanks.invariant.before in
    record {
      before = omega (arith, c.blanks.invariant.before);
      run = λ k low high. ⊎_elim
          (λ same. ap (λ i. i + blanks_at text i) same ∙ omega (arith, more, next, here))
          (λ other. c.blanks.invariant.run k (omega arith) high) (cases_eq k (start - 1));
    }

pub returns-in_default-clause-first : goal.returns-in_default-clause-first
returns-in_default-clause-first c = λ some. blanks_none c.args.text.now (c.blanks.start - 1) (search rules)

pub returns-then-not-is_blank-clause-first : goal.returns-then-not-is_blank-clause-first
returns-then-not-is_blank-clause-first c = λ some. blanks_stop c.args.text.now (c.blanks.start - 1) c.in-Some.byte (sym c.in-Some.ensures.value) (sym c.if-not-is_blank.ensures)
