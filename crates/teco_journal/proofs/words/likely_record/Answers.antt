use Rattle.std.proofs.Common.{◌≡◌, Some, None, sym, ap, ◌∙◌, subst}
use Rattle.std.specs.Prelude.{IfOk, codes}
use Rattle.std.proofs.lemmas.Bool.Decides.{Decides-eqb}
use Rattle.std.proofs.lemmas.Slice.Eq.{strip_prefix_is}
use Rattle.teco_journal.specs.Events.{Event, HasRecord, event_told}
use Rattle.teco_journal.proofs.Parsing.{begins_run, begins_rewind, plain_is}
use Rattle.teco_journal.proofs.words.likely_record.Goals as goal

pub returns-in-Some : goal.returns-in-Some
returns-in-Some c = λ event has is.
    let begins = strip_prefix_is Decides-eqb c.args.words.now (codes "run ") (Some c.in-Some.rest) c.in-Some.ensures.cases in
    let x = begins_run c.args.words.now c.in-Some.rest.now event begins is in
    subst (λ (e : Event). IfOk c.run_in.result (λ told. event_told told ≡ Some e)) (sym x.2) (c.run_in.ensures x.0 x.1 (subst HasRecord x.2 has) x.3)

pub returns-in-Some-strip_prefix : goal.returns-in-Some-strip_prefix
returns-in-Some-strip_prefix c = λ event has is.
    let begins = strip_prefix_is Decides-eqb c.args.words.now (codes "rewind ") (Some c.in-Some-strip_prefix.rest) c.in-Some-strip_prefix.ensures.cases in
    let x = begins_rewind c.args.words.now c.in-Some-strip_prefix.rest.now event begins is in
    c.rewind_in.ensures x.0 (subst HasRecord x.1 has) x.2 ∙ ap Some (sym x.1)

pub returns : goal.returns
returns c = λ event has is.
    plain_is c.args.words.now c.plain_record.result
    (strip_prefix_is Decides-eqb c.args.words.now (codes "run ") None c.in_default.ensures.cases)
    (strip_prefix_is Decides-eqb c.args.words.now (codes "rewind ") None c.in_default-strip_prefix.ensures.cases)
    c.plain_record.ensures.undo c.plain_record.ensures.redo c.plain_record.ensures.forget event is
