use Rattle.std.proofs.Common.{◌≡◌, ℕ, List, drop, Option, Some, None, true, is_some, sym, ◌∙◌, arith}
use Rattle.teco_scan.specs.declared.command.BlockMark.{BlockMark}
use Rattle.teco_scan.specs.Seen.{meaning_in, instruction_in}
use Rattle.teco_core.specs.declared.profile.Profile.{Profile}
use Rattle.teco_scan.proofs.LastBytes.{tag_byte}
use Rattle.teco_scan.specs.declared.token.Token.{Token}
use Rattle.teco_scan.specs.Scan.{ended, fault, found, scan}
use Rattle.teco_scan.specs.Lists.{tag_at, tag_at_instruction}
use Rattle.teco_scan.proofs.SkipSteps.{tag_found, tag_here, tag_closed}
use Rattle.teco_scan.proofs.blocks.find_tag.Goals as goal

some_mark : (o : Option BlockMark) → is_some o ≡ true → (b : BlockMark) × (Some b ≡ o)
some_mark None is = absurd cc
some_mark (Some b) is = (b, λ i. Some b)

module _ (profile : Profile) where
  -- where the tag is, by the token at this place
  at_node : (name : List ℕ) (depth : ℕ) (text : List ℕ) (next : ℕ) (t : Token) → found (meaning_in text t) (drop t.span.to text) ≡ scan profile (drop next text)
      → tag_at profile name depth (drop next text) ≡ tag_at_instruction profile name (tag_at profile name) (instruction_in text t.kind) (drop t.span.to text) depth
  at_node name depth text next t is = tag_found profile name depth (drop next text) (found (meaning_in text t) (drop t.span.to text)) is

pub returns-in-End-clause-finds : goal.returns-in-End-clause-finds
returns-in-End-clause-finds c = sym (tag_found c.args.profile c.args.name.now c.args.depth (drop c.passed_end-start.result c.args.text.now) ended c.in-End.ensures.read) ∙ sym ((c.passed_end-start.ensures.alike c.args.profile).finds c.args.name.now c.args.depth) ∙ c.loop-token.invariant.finds

pub returns-in-Fault-clause-finds : goal.returns-in-Fault-clause-finds
returns-in-Fault-clause-finds c = sym (tag_found c.args.profile c.args.name.now c.args.depth (drop c.passed_end-start.result c.args.text.now) (fault _) c.in-Fault.ensures.read) ∙ sym ((c.passed_end-start.ensures.alike c.args.profile).finds c.args.name.now c.args.depth) ∙ c.loop-token.invariant.finds

pub returns-then-is_tag-clause-finds : goal.returns-then-is_tag-clause-finds
returns-then-is_tag-clause-finds c =
    let text = c.args.text.now in
    let k = c.in-Token.token in
    sym (tag_here c.args.profile c.args.name.now (drop k.span.to text) c.args.depth (instruction_in text k.kind) (sym c.is_tag.ensures ∙ c.if-is_tag.true))
    ∙ sym (at_node c.args.profile c.args.name.now c.args.depth text c.passed_end-start.result k c.in-Token.ensures.read) ∙ sym ((c.passed_end-start.ensures.alike c.args.profile).finds c.args.name.now c.args.depth) ∙ c.loop-token.invariant.finds

pub returns-then-is_some-clause-finds : goal.returns-then-is_some-clause-finds
returns-then-is_some-clause-finds c =
    let text = c.args.text.now in
    let k = c.in-Token.token in
    let some : is_some c.closing_mark.result ≡ true = sym c.is_some.ensures ∙ c.if-is_some.true in
    let b = some_mark c.closing_mark.result some in
    sym (tag_closed c.args.profile c.args.name.now (drop k.span.to text) c.args.depth (instruction_in text k.kind) b.0 (b.1 ∙ c.closing_mark.ensures text))
    ∙ sym (at_node c.args.profile c.args.name.now c.args.depth text c.passed_end-start.result k c.in-Token.ensures.read) ∙ sym ((c.passed_end-start.ensures.alike c.args.profile).finds c.args.name.now c.args.depth) ∙ c.loop-token.invariant.finds

pub returns-in-Err-clause-finds : goal.returns-in-Err-clause-finds
returns-in-Err-clause-finds c =
    sym (c.in-Err.ensures.finds c.args.name.now (sym c.is_tag.ensures ∙ c.if-is_tag.false))
    ∙ sym (at_node c.args.profile c.args.name.now c.args.depth c.args.text.now c.passed_end-start.result c.in-Token.token c.in-Token.ensures.read) ∙ sym ((c.passed_end-start.ensures.alike c.args.profile).finds c.args.name.now c.args.depth) ∙ c.loop-token.invariant.finds

pub returns-then-is_tag-clause-ends : goal.returns-then-is_tag-clause-ends
returns-then-is_tag-clause-ends c =
    let token = c.in-Token.token in
    let place = c.in-Token.ensures.place in
    tag_byte c.args.profile c.args.text.now c.passed_end-start.result token.span.from token.span.to (meaning_in c.args.text.now token) c.args.name.now c.in-Token.ensures.read (sym c.is_tag.ensures ∙ c.if-is_tag.true) place.begins place.long place.inside

pub loop-token-preserved : goal.loop-token-preserved
loop-token-preserved c = record {
  past = omega (arith, c.in-Token.ensures.place.after, c.in-Token.ensures.place.long, c.in-Ok.ensures.within.0);
  inside = c.in-Ok.ensures.within.1;
  finds = sym (c.in-Ok.ensures.finds c.args.name.now (sym c.is_tag.ensures ∙ c.if-is_tag.false)) ∙ sym (at_node c.args.profile c.args.name.now c.args.depth c.args.text.now c.passed_end-start.result c.in-Token.token c.in-Token.ensures.read) ∙ sym ((c.passed_end-start.ensures.alike c.args.profile).finds c.args.name.now c.args.depth) ∙ c.loop-token.invariant.finds;
}
