use Rattle.std.proofs.Common.{◌≡◌, ℕ, ◌+◌, suc, List, Some, drop, sym, ap, ◌∙◌, arith}
use Rattle.std.proofs.lemmas.Grind.{common_steps}
use Rattle.std.proofs.lemmas.Result.{err_from_is_err_and}
use Rattle.teco_scan.specs.Seen.{meaning_in, instruction_in}
use Rattle.teco_core.specs.declared.profile.Profile.{Profile}
use Rattle.teco_scan.proofs.ScanFaults.{scan_fault}
use Rattle.teco_scan.proofs.LastBytes.{mark_byte}
use Rattle.teco_scan.specs.declared.blocks.Kind.{Kind}
use Rattle.teco_scan.specs.declared.token.Token.{Token}
use Rattle.teco_scan.specs.Scan.{Scanned, ended, fault, found, scan}
use Rattle.teco_scan.specs.Lists.{Listed, at_scan, at_instruction, list_at, behind, behind_block, tag_at, tag_behind}
use Rattle.teco_scan.proofs.SkipSteps.{list_found, node_open, tag_open, closing_is}
use Rattle.teco_scan.proofs.blocks.+skip.Goals as goal

module _ (profile : Profile) where
  -- how the list closes, by what was scanned at this place
  at_close : (text : List ℕ) (next : ℕ) (kind : Kind) (depth : ℕ) (s : Scanned) → s ≡ scan profile (drop next text) → (list_at profile (Some kind) depth (drop next text)).1 ≡ (at_scan (list_at profile) s (Some kind) depth).1
  at_close text next kind depth s is = ap (λ (l : Listed). l.1) (list_found profile (Some kind) depth (drop next text) s is)

  at_node : (text : List ℕ) (next : ℕ) (kind : Kind) (depth : ℕ) (t : Token) → found (meaning_in text t) (drop t.span.to text) ≡ scan profile (drop next text)
      → (list_at profile (Some kind) depth (drop next text)).1 ≡ (at_instruction (list_at profile) (instruction_in text t.kind) t.modifiers (drop t.span.to text) (Some kind) depth).1
  at_node text next kind depth t is = at_close text next kind depth (found (meaning_in text t) (drop t.span.to text)) is

pub skip_block-returns-in-End-clause-closes : goal.skip_block-returns-in-End-clause-closes
skip_block-returns-in-End-clause-closes t c = sym (at_close c.args.profile c.args.text.now c.passed_end-start.result c.args.kind c.args.depth ended c.in-End.ensures.read) ∙ sym ((c.passed_end-start.ensures.alike c.args.profile).closes (Some c.args.kind) c.args.depth) ∙ c.loop-code.invariant.closes

pub skip_block-returns-in-Fault-clause-closes : goal.skip_block-returns-in-Fault-clause-closes
skip_block-returns-in-Fault-clause-closes t c = sym (at_close c.args.profile c.args.text.now c.passed_end-start.result c.args.kind c.args.depth (fault c.in-Fault.code) c.in-Fault.ensures.read) ∙ sym ((c.passed_end-start.ensures.alike c.args.profile).closes (Some c.args.kind) c.args.depth) ∙ c.loop-code.invariant.closes

pub skip_block-returns-in-Some-clause-closes : goal.skip_block-returns-in-Some-clause-closes
skip_block-returns-in-Some-clause-closes t c =
    let text = c.args.text.now in
    let k = c.in-Token.token in
    c.end_of_block.ensures.closes c.args.profile text c.args.depth
    ∙ ap (λ i. (at_instruction (list_at c.args.profile) i k.modifiers (drop k.span.to text) (Some c.args.kind) c.args.depth).1) (sym (closing_is (instruction_in text k.kind) c.in-Some.mark (c.in-Some.ensures text)).0)
    ∙ sym (at_node c.args.profile text c.passed_end-start.result c.args.kind c.args.depth k c.in-Token.ensures.read) ∙ sym ((c.passed_end-start.ensures.alike c.args.profile).closes (Some c.args.kind) c.args.depth) ∙ c.loop-code.invariant.closes

pub skip_block-returns-in_err-next-in-None-clause-closes : goal.skip_block-returns-in_err-next-in-None-clause-closes
skip_block-returns-in_err-next-in-None-clause-closes t c =
    let p = err_from_is_err_and c.from_residual.result c.from_residual.ensures.1 in
    let text = c.args.text.now in
    let k = c.in-Token.token in
    rw (p.1, p.2)
    (sym (c.in_err-next-in-None.ensures.closes (Some c.args.kind) k.modifiers) ∙ sym (at_node c.args.profile text c.passed_end-start.result c.args.kind c.args.depth k c.in-Token.ensures.read) ∙ sym ((c.passed_end-start.ensures.alike c.args.profile).closes (Some c.args.kind) c.args.depth) ∙ c.loop-code.invariant.closes)

pub skip_node-returns-else-depth-eq-BLOCK_LIMIT-clause-closes : goal.skip_node-returns-else-depth-eq-BLOCK_LIMIT-clause-closes
skip_node-returns-else-depth-eq-BLOCK_LIMIT-clause-closes t c k m =
    let text = c.args.text.now in
    let bs = drop c.args.token.span.to text in
    let one : c.args.depth + 1 ≡ suc c.args.depth = omega arith in
    node_open c.args.profile m bs k c.args.depth c.in-Some.kind (instruction_in text c.args.token.kind) (c.in-Some.ensures text) c.requires.few c.if-depth-eq-BLOCK_LIMIT.false
    ∙ ap (λ n. (behind (list_at c.args.profile) k c.args.depth (behind_block (list_at c.args.profile) c.in-Some.kind n (list_at c.args.profile (Some c.in-Some.kind) n bs).1)).1) (sym one)
    ∙ ap (λ x. (behind (list_at c.args.profile) k c.args.depth x).1) (sym c.skip_whole_block.ensures.passes)

pub skip_node-returns-else-depth-eq-BLOCK_LIMIT-clause-finds : goal.skip_node-returns-else-depth-eq-BLOCK_LIMIT-clause-finds
skip_node-returns-else-depth-eq-BLOCK_LIMIT-clause-finds t c name other =
    let text = c.args.text.now in
    let bs = drop c.args.token.span.to text in
    let one : c.args.depth + 1 ≡ suc c.args.depth = omega arith in
    tag_open c.args.profile name bs c.args.depth c.in-Some.kind (instruction_in text c.args.token.kind) (c.in-Some.ensures text) c.requires.few c.if-depth-eq-BLOCK_LIMIT.false
    ∙ ap (λ n. tag_behind (tag_at c.args.profile name) c.args.depth (behind_block (list_at c.args.profile) c.in-Some.kind n (list_at c.args.profile (Some c.in-Some.kind) n bs).1)) (sym one)
    ∙ ap (λ x. tag_behind (tag_at c.args.profile name) c.args.depth x) (sym c.skip_whole_block.ensures.passes)

pub skip_block-returns-in-Some-clause-ends : goal.skip_block-returns-in-Some-clause-ends
skip_block-returns-in-Some-clause-ends t c =
    let token = c.in-Token.token in
    let place = c.in-Token.ensures.place in
    let is = closing_is (instruction_in c.args.text.now token.kind) c.in-Some.mark (c.in-Some.ensures c.args.text.now) in
    c.end_of_block.ensures.ends c.args.text.now
    (mark_byte c.args.profile c.args.text.now c.passed_end-start.result token.span.from token.span.to (meaning_in c.args.text.now token) c.in-Some.mark c.in-Token.ensures.read is.0 place.begins place.long place.inside)

pub skip_block-loop-code-preserved : goal.skip_block-loop-code-preserved
skip_block-loop-code-preserved t c = record {
  past = omega (arith, c.in-Token.ensures.place.after, c.in-Token.ensures.place.long, c.in_ok-next-in-None.ensures.within.0);
  inside = c.in_ok-next-in-None.ensures.within.1;
  closes = sym (c.in_ok-next-in-None.ensures.closes (Some c.args.kind) c.in-Token.token.modifiers) ∙ sym (at_node c.args.profile c.args.text.now c.passed_end-start.result c.args.kind c.args.depth c.in-Token.token c.in-Token.ensures.read) ∙ sym ((c.passed_end-start.ensures.alike c.args.profile).closes (Some c.args.kind) c.args.depth) ∙ c.loop-code.invariant.closes;
}

pub skip_block-returns-in-Fault-clause-fault : goal.skip_block-returns-in-Fault-clause-fault
skip_block-returns-in-Fault-clause-fault t c = scan_fault c.args.profile (drop c.passed_end-start.result c.args.text.now) c.in-Fault.code (sym c.in-Fault.ensures.read)

pub skip_whole_block-returns-then-stop-clause-passes : goal.skip_whole_block-returns-then-stop-clause-passes
skip_whole_block-returns-then-stop-clause-passes t c = grind (arith, common_steps)
