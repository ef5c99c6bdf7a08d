use Rattle.std.proofs.Common.{◌+◌, ◌-◌, ◌<◌, sym, ap, ◌∙◌, arith, ⊎_elim}
use Rattle.std.proofs.lemmas.Bool.{cases_eq}
use Rattle.std.proofs.lemmas.Option.{none-some}
use Rattle.teco_search.specs.Occurrence.{match_end}
use Rattle.teco_search.proofs.Past.{none_from}
use Rattle.teco_search.proofs.Runs.{inside_run}
use Rattle.teco_search.proofs.run.match_from.Goals as goal

pub returns-in-None-clause-none : goal.returns-in-None-clause-none
returns-in-None-clause-none c = λ k low near.
    let tried = c.tried-tried.ensures in
    let run = c.tried-tried.result.run in
    let count = c.saturating_sub.ensures in
    ⊎_elim
    (λ same. ap (match_end c.args.mode c.args.elements.now c.args.text.now) same ∙ sym tried.end ∙ c.in-None.is)
    (λ other.
    let some : 0 < c.tried-tried.result.blanks = omega (arith, low, near, count, other) in
    let blanks = tried.blanks some in
    let d = k - c.args.start in
    let whole = inside_run c.args.text.now run d (omega (arith, near, count, blanks, some)) in
    none_from (match_end c.args.mode c.args.elements.now c.args.text.now k) (λ q is.
    none-some q (sym c.in-None.is ∙ tried.shared k (run + d) q some (omega (arith, low)) (omega (arith, near, count, some)) (whole ∙ omega (arith, blanks)) is)))
    (cases_eq k c.args.start)
