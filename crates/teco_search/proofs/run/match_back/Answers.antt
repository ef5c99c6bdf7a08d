use Rattle.std.proofs.Common.{◌≡◌, ◌-◌, ◌<◌, Some, sym, ◌∙◌, arith}
use Rattle.std.proofs.lemmas.Option.{none-some, same_Some}
use Rattle.teco_search.proofs.run.match_back.Goals as goal
use Rattle.teco_search.proofs.run.match_back.Goals.{in-Some+else-end-to, in_default}

pub returns-clause-none : goal.returns-clause-none
returns-clause-none c = λ k q by near is.
    let tried = c.tried-tried.ensures in
    let run = c.tried-tried.result.run in
    let back = c.blanks_start.ensures in
    let some : 0 < c.tried-tried.result.blanks = omega (arith, c.if-tried-eq0.false) in
    let p = run - (c.args.start - k) in
    let whole = back.run p (omega (arith, near, back.before)) (omega arith) in
    let same : c.tried-tried.result.end ≡ Some q = tried.shared k p q some (omega (arith, by, near, back.before)) (omega (arith, some)) (whole ∙ omega (arith, tried.blanks some)) is in
    elim c.match-tried.branch [
      | in-Some+else-end-to w ↦ let other = same_Some w.in-Some.end q (sym w.in-Some.is ∙ same) in omega (arith, other, w.if-end-to.false)
      | in_default w ↦ absurd (none-some q (sym w.in_default.is ∙ same))
    ]
