use Rattle.std.proofs.Common.{rules, sym, arith}
use Rattle.teco_search.proofs.Runs.{blanks_more, blanks_stop, blanks_none}
use Rattle.teco_search.proofs.matching.blanks_end.Goals as goal

pub blanks-preserved : goal.blanks-preserved
blanks-preserved c =
    let one_more = blanks_more c.args.text.now c.blanks.end c.in-Some.byte (sym c.in-Some.ensures.value) (sym c.if-not-is_blank.ensures) in
    record { past = omega arith; same = omega arith }

pub returns-then-not-is_blank : goal.returns-then-not-is_blank
returns-then-not-is_blank c = omega (arith, blanks_stop c.args.text.now c.blanks.end c.in-Some.byte (sym c.in-Some.ensures.value) (sym c.if-not-is_blank.ensures))

pub returns-in_default : goal.returns-in_default
returns-in_default c = omega (arith, blanks_none c.args.text.now c.blanks.end (search rules))
