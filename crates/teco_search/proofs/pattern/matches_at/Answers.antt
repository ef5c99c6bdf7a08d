use Rattle.std.proofs.Common.{rules, ◌≡◌, ◌+◌, ◌++◌, Option, Some, ℕ, length, sym, ap, subst, ◌∙◌}
use Rattle.std.proofs.lemmas.Bool.{both_ways}
use Rattle.memchr.specs.Find.{OccursAt}
use Rattle.teco_search.specs.Occurrence.{match_end}
use Rattle.teco_search.proofs.Literals.{kept_literal, kept_some, literal_hit, literal_none}
use Rattle.teco_search.proofs.Past.{match_within}
use Rattle.teco_search.proofs.pattern.matches_at.Goals as goal

pub returns-then-has : goal.returns-then-has
returns-then-has c =
    let bytes = c.in-Literal.bytes in
    let text = c.args.halves.0.now ++ c.args.halves.1.now in
    let kept = kept_literal c.pattern.inside.mode c.pattern.inside.form bytes c.args.pattern.now c.in-Literal.is c.pattern.view_is c.pattern.invariant in
    let some = kept_some c.pattern.inside.mode c.pattern.inside.form c.args.pattern.now c.pattern.view_is c.pattern.invariant in
    let occurs : OccursAt text bytes.items c.args.at =
    subst (λ bs. OccursAt text bs c.args.at) c.deref.ensures.value (subst (λ t. OccursAt t c.deref.result.now c.args.at) c.new-text.ensures (c.has.ensures.holds.0 c.if-has.true)) in
    let value : ◌≡◌ {A = Option ℕ} (Some (c.args.at + c.len.result)) (match_end c.args.pattern.now.mode c.args.pattern.now.elements text c.args.at) =
    rw kept.0 (ap (λ n. let o : Option ℕ = Some (c.args.at + n) in o) (c.len.ensures ∙ sym c.deref.ensures.len ∙ ap length c.deref.ensures.value) ∙ sym (literal_hit c.pattern.inside.mode text bytes.items c.args.at kept.2 occurs)) in
    record { value = value; within = match_within c.args.pattern.now text c.args.at (Some (c.args.at + c.len.result)) some value }

pub returns-else-has-clause-value : goal.returns-else-has-clause-value
returns-else-has-clause-value c =
    let bytes = c.in-Literal.bytes in
    let text = c.args.halves.0.now ++ c.args.halves.1.now in
    let kept = kept_literal c.pattern.inside.mode c.pattern.inside.form bytes c.args.pattern.now c.in-Literal.is c.pattern.view_is c.pattern.invariant in
    rw kept.0 (sym (literal_none c.pattern.inside.mode text bytes.items c.args.at kept.1 kept.2
    (λ occurs. both_ways c.has.result c.if-has.false (c.has.ensures.holds.1
    (subst (λ t. OccursAt t c.deref.result.now c.args.at) (sym c.new-text.ensures) (subst (λ bs. OccursAt text bs c.args.at) (sym c.deref.ensures.value) occurs))))))

pub returns-in-Elements-clause-within : goal.returns-in-Elements-clause-within
returns-in-Elements-clause-within c =
    let text = c.args.halves.0.now ++ c.args.halves.1.now in
    let some = kept_some c.pattern.inside.mode c.pattern.inside.form c.args.pattern.now c.pattern.view_is c.pattern.invariant in
    let value : c.match_end.result.0 ≡ match_end c.args.pattern.now.mode c.args.pattern.now.elements text c.args.at = search rules in
    match_within c.args.pattern.now text c.args.at c.match_end.result.0 some value
