use Rattle.std.proofs.Common.{subst}
use Rattle.teco_scan.specs.Breaks.{by_spelling}
use Rattle.teco_scan.specs.Walk.{walk}
use Rattle.std.specs.Prelude.{Some}
use Rattle.teco_scan.proofs.WalkMeets.{Meets, meets}
use Rattle.teco_scan.proofs.WalkWhole.{text_tells}
use Rattle.teco_scan.proofs.breaks.break_laws.Goals as goal

pub returns-clause-whole : goal.returns-clause-whole
returns-clause-whole c p text = (text_tells p text).whole

pub returns-clause-broken : goal.returns-clause-broken
returns-clause-broken c p text there e = ((text_tells p text).broke there e).0

pub returns-clause-within : goal.returns-clause-within
returns-clause-within c p text there e = ((text_tells p text).broke there e).1

pub returns-clause-in_block : goal.returns-clause-in_block
returns-clause-in_block c p text bs kind opens start around code e =
    let comes = subst (λ x. Meets p text kind opens around (walk p by_spelling text (record { kind = Some kind; opening = opens; start = start }) around bs) x) e
    (meets p text kind opens start around bs) in
    (comes.there, comes.is, comes.by, comes.inside)
