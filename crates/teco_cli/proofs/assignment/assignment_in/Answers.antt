use Rattle.std.proofs.Common.{◌∙◌, ◌++◌, sym, subst, arith, Some, codes}
use Rattle.std.proofs.lemmas.Str.Pattern.{split_parts}
use Rattle.std.specs.Option.{MatchOption}
use Rattle.teco_cli.specs.Assignments.{Assigns, AssignsNothing}
use Rattle.teco_cli.proofs.Assigning.{named_by, no_value, tail_free}
use Rattle.teco_cli.proofs.assignment.assignment_in.Goals as goal

pub value_of-requires : goal.value_of-requires
value_of-requires c =
    let parts = split_parts 61 c.args.word.now (Some (c.in-Some.front, c.in-Some.text)) c.in-Some.ensures.cases (omega arith) in
    let is = sym c.as_bytes.ensures.value ∙ c.in-Some-split_first.ensures.cases.0 in
    record { first = tail_free c.in-Some.front.now c.in-Some-split_first.before.now c.in-Some-split_first.name.now is parts.1 }

pub returns-in-Some-2 : goal.returns-in-Some-2
returns-in-Some-2 c =
    let parts = split_parts 61 c.args.word.now (Some (c.in-Some.front, c.in-Some.text)) c.in-Some.ensures.cases (omega arith) in
    let is = sym c.as_bytes.ensures.value ∙ c.in-Some-split_first.ensures.cases.0 in
    let rest = c.in-Some-split_first.before.now ++ (codes "=" ++ c.in-Some.text.now) in (
      c.in-Some-split_first.name.now,
      rest,
      named_by c.args.word.now c.in-Some.front.now c.in-Some-split_first.before.now c.in-Some.text.now c.in-Some-split_first.name.now parts.0 is,
      sym c.of.ensures ∙ c.in-Some-of.is,
      subst (λ found. MatchOption found (AssignsNothing rest) (Assigns rest)) c.in-Some-2.is c.in_ok-value.ensures,
    )

pub returns-in-None : goal.returns-in-None
returns-in-None c =
    let parts = split_parts 61 c.args.word.now (Some (c.in-Some.front, c.in-Some.text)) c.in-Some.ensures.cases (omega arith) in
    let is = sym c.as_bytes.ensures.value ∙ c.in-Some-split_first.ensures.cases.0 in
    let rest = c.in-Some-split_first.before.now ++ (codes "=" ++ c.in-Some.text.now) in
    no_value c.args.word.now rest c.in-Some-split_first.name.now
    (named_by c.args.word.now c.in-Some.front.now c.in-Some-split_first.before.now c.in-Some.text.now c.in-Some-split_first.name.now parts.0 is)
    (subst (λ found. MatchOption found (AssignsNothing rest) (Assigns rest)) c.in-None.is c.in_ok-value.ensures)
