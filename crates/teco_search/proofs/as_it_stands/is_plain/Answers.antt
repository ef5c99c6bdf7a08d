use Rattle.std.proofs.Common.{sym, ◌∙◌, ◌<◌, length, arith, ⊎_elim}
use Rattle.std.proofs.lemmas.Bool.{both_ways, cases_eq, eq-eqb}
use Rattle.teco_search.proofs.Plain.{all_free, no_controls, reads_as_itself}
use Rattle.teco_search.proofs.as_it_stands.is_plain.Goals as goal

pub returns-then-not-is_empty-clause-plain : goal.returns-then-not-is_empty-clause-plain
returns-then-not-is_empty-clause-plain c =
    let some : 0 < length c.args.text.now = ⊎_elim
    (λ none. absurd (both_ways c.is_empty.result c.if-not-is_empty.true (c.is_empty.ensures ∙ eq-eqb (length c.args.text.now) 0 none)))
    (λ other. omega arith) (cases_eq (length c.args.text.now) 0) in (
      λ yes_is. record { some = some; free = no_controls c.args.text.now (sym c.has_no_control.ensures ∙ yes_is) },
      λ is. c.has_no_control.ensures ∙ all_free c.args.text.now is.free,
    )

pub returns-then-not-is_empty-clause-read : goal.returns-then-not-is_empty-clause-read
returns-then-not-is_empty-clause-read c yes_is =
    reads_as_itself c.args.text.now (no_controls c.args.text.now (sym c.has_no_control.ensures ∙ yes_is))
