use Rattle.std.proofs.Common.{ℕ, List, drop, sym, ap, ◌∙◌, subst, arith}
use Rattle.teco_scan.specs.declared.breaks.ListFault.{ListFault}
use Rattle.teco_scan.specs.declared.token.Token.{Token}
use Rattle.teco_scan.specs.Breaks.{Breaks, IsTokenPlace}
use Rattle.teco_scan.proofs.BreakRules.{no_token, too_deep, after_token}
use Rattle.teco_scan.specs.Lists.{at_instruction, list_at}
use Rattle.teco_scan.specs.Nesting.{is_whole}
use Rattle.teco_scan.specs.Scan.{Instruction, ended, fault, found}
use Rattle.teco_scan.specs.Seen.{IsTokenAt, instruction_in, meaning_in}
use Rattle.teco_scan.proofs.Breaking.{deep_whole, end_whole, found_whole, token_whole, wrong_whole}
use Rattle.teco_scan.proofs.SkipSteps.{closing_is}
use Rattle.teco_scan.proofs.breaks.first_fault_from.Goals as goal

-- the token is at its place
token_here : (text : List ℕ) (at : ℕ) (t : Token) → IsTokenAt text at t → IsTokenPlace text at t.span.from
token_here text at t h = record { rest = h.begins; within = omega (arith, h.long, h.inside) }

pub returns-in-End-clause-whole : goal.returns-in-End-clause-whole
returns-in-End-clause-whole c =
    let list = c.loop-code.list in
    sym c.loop-code.invariant.whole ∙ found_whole c.args.profile list.kind list.depth _ ended c.in-End.ensures.read ∙ end_whole c.args.profile list.kind list.depth ∙ sym c.end_of_text.ensures.none

pub returns-in-Fault-clause-breaks : goal.returns-in-Fault-clause-breaks
returns-in-Fault-clause-breaks c =
    subst (λ (there : ListFault). Breaks c.args.profile c.args.text.now c.args.list c.args.at there) (sym c.fault_at.ensures)
    (c.loop-code.invariant.comes _ (no_token c.args.profile (record { rest = c.filler_end.ensures.read; within = c.filler_end.ensures.within.1 }) (sym c.in-Fault.ensures.read)))

pub returns-in-Fault-clause-whole : goal.returns-in-Fault-clause-whole
returns-in-Fault-clause-whole c =
    let list = c.loop-code.list in
    sym c.loop-code.invariant.whole ∙ found_whole c.args.profile list.kind list.depth _ (fault c.in-Fault.code) c.in-Fault.ensures.read ∙ wrong_whole c.in-Fault.code

pub returns-in-Some-clause-whole : goal.returns-in-Some-clause-whole
returns-in-Some-clause-whole c =
    let list = c.loop-code.list in
    let text = c.args.text.now in
    let t = c.in-Token.token in
    let more = drop t.span.to text in
    sym c.loop-code.invariant.whole
    ∙ found_whole c.args.profile list.kind list.depth _ (found (meaning_in text t) more) c.in-Token.ensures.read
    ∙ ap (λ (i : Instruction). is_whole (at_instruction (list_at c.args.profile) i t.modifiers more list.kind list.depth).0) (closing_is (instruction_in text t.kind) c.in-Some.mark (c.in-Some.ensures text)).0
    ∙ c.end_of_list.ensures.whole c.args.profile more

pub loop-code-preserved-in-None-opened_kind : goal.loop-code-preserved-in-None-opened_kind
loop-code-preserved-in-None-opened_kind c =
    let list = c.loop-code.list in
    let text = c.args.text.now in
    let t = c.in-Token.token in
    let more = drop t.span.to text in
    let opens = sym (c.in-None-opened_kind.ensures text) in
    let closes = sym (c.in-None.ensures text) in
    record {
      inside = c.in-Token.ensures.place.inside;
      few = c.loop-code.invariant.few;
      comes = λ there b. c.loop-code.invariant.comes there (after_token c.args.profile (sym c.in-Token.ensures.read) opens closes b);
      whole = sym (token_whole c.args.profile t.modifiers more list.kind list.depth (instruction_in text t.kind) opens closes)
          ∙ sym (found_whole c.args.profile list.kind list.depth _ (found (meaning_in text t) more) c.in-Token.ensures.read) ∙ c.loop-code.invariant.whole;
    }

pub returns-in-Some-opened_kind-clause-breaks : goal.returns-in-Some-opened_kind-clause-breaks
returns-in-Some-opened_kind-clause-breaks c =
    subst (λ (there : ListFault). Breaks c.args.profile c.args.text.now c.args.list c.args.at there) (sym c.fault_at-in-Some-opened_kind.ensures)
    (c.loop-code.invariant.comes _ (too_deep c.args.profile c.in-Some-opened_kind.field-0 (token_here c.args.text.now c.loop-code.next c.in-Token.token c.in-Token.ensures.place)
    (sym c.in-Token.ensures.read) (sym (c.in-Some-opened_kind.ensures c.args.text.now)) c.if-list-eq-BLOCK_LIMIT.true))

pub returns-in-Some-opened_kind-clause-whole : goal.returns-in-Some-opened_kind-clause-whole
returns-in-Some-opened_kind-clause-whole c =
    let list = c.loop-code.list in
    let text = c.args.text.now in
    let t = c.in-Token.token in
    let more = drop t.span.to text in
    sym c.loop-code.invariant.whole
    ∙ found_whole c.args.profile list.kind list.depth _ (found (meaning_in text t) more) c.in-Token.ensures.read
    ∙ deep_whole c.args.profile t.modifiers more list.kind list.depth c.in-Some-opened_kind.field-0 (instruction_in text t.kind) (sym (c.in-Some-opened_kind.ensures text)) c.if-list-eq-BLOCK_LIMIT.true

pub loop-code-preserved : goal.loop-code-preserved
loop-code-preserved c =
    let list = c.loop-code.list in
    let text = c.args.text.now in
    let t = c.in-Token.token in
    let more = drop t.span.to text in
    let opens = sym (c.in-Some-opened_kind.ensures text) in
    record {
      inside = c.past_block.ensures.within.1;
      few = c.past_block.ensures.few;
      comes = λ there b. c.loop-code.invariant.comes there (c.past_block.ensures.comes c.loop-code.next (meaning_in text t) there (sym c.in-Token.ensures.read) opens b);
      whole = sym (c.past_block.ensures.whole (instruction_in text t.kind) t.modifiers opens)
          ∙ sym (found_whole c.args.profile list.kind list.depth _ (found (meaning_in text t) more) c.in-Token.ensures.read) ∙ c.loop-code.invariant.whole;
    }
