use Rattle.std.proofs.Common.{rules, ◌≡◌, ◌<◌, ◌≤◌, ◌&&◌, ℕ, suc, true, false, Bool, [], ◌∷◌, length, drop, IfOk, IfErr, Some, is_ok, is_none, Ok, Result, refl, sym, ap, ◌∙◌, subst, arith}
use Rattle.std.proofs.lemmas.Grind.{common_steps}
use Rattle.std.proofs.lemmas.Result.{err_from_is_err_and}
use Rattle.teco_scan.specs.declared.blocks.Kind.TheVariants.{Iter, Then, Else}
use Rattle.teco_scan.specs.Scan.{scan, Instruction, ended, fault, found, mark, step}
use Rattle.teco_scan.specs.declared.command.BlockMark.TheVariants.{Iterate}
use Rattle.teco_scan.specs.declared.command.Modifiers.{Modifiers}
use Rattle.teco_scan.specs.declared.token.Item.{Item as SpannedItem}
use Rattle.teco_scan.specs.declared.token.TokenKind.{TokenKind}
use Rattle.teco_scan.specs.Seen.{instruction_in, item_in, bytes_in, meaning_in}
use Rattle.teco_scan.specs.Closes.{close_of}
use Rattle.teco_scan.specs.Lists.{Listed, Close, closed, broken, at_instruction, list_at}
use Rattle.teco_check.specs.Clean.{is_fine, is_clean, is_whole, is_written_out}
use Rattle.teco_check.specs.declared.faults.Fault.{Fault}
use Rattle.teco_check.specs.Checked.{item_holds, lands_below, held, may_hold, rest_clean, suits, code_of}
use Rattle.teco_check.proofs.Open.{opens, text_clean}
use Rattle.teco_check.proofs.Places.{scan_same}
use Rattle.teco_scan.proofs.WalkUnrolls.{place_is}
use Rattle.teco_check.proofs.Inner.{token_long, a_text, fine_text, wrong_text, text_may, none_may, out_of, whole_may, whole_of}
use Rattle.teco_check.proofs.Unrolls.{scanned_at, begins_more, block_opens, one_more}
use Rattle.teco_scan.specs.Walk.{OpenList}
use Rattle.teco_scan.specs.Walk as walked
use Rattle.teco_check.specs.Walk.{by_check, lands_in, marks_of, rule, check_walk, told_item, wrong_with}
use Rattle.teco_scan.specs.Scan.{after_fillers}
use Rattle.teco_check.proofs.Here.{fault_here, stray_here, unended_here}
use Rattle.teco_check.proofs.Walked.{found_at, iter_faulty, iter_clean, cond_faulty, cond_clean, other_faulty, other_clean, iter_breaks, cond_breaks, other_breaks, iterate_deep, decide_deep, tag_clean, escape_clean, iterate_at, decide_at, wrong_unclean, deeper, closes_deeper, is_iterate, closing_is, item_rest}
use Rattle.teco_check.proofs.faults.+check.Goals as goal

pub check_conditional-returns-in_err-stop-clause-clean : goal.check_conditional-returns-in_err-stop-clause-clean
check_conditional-returns-in_err-stop-clause-clean t c test lists k are =
    let profile = c.args.look.profile in
    let text = c.args.text.now in
    let p = err_from_is_err_and c.from_residual.result c.from_residual.ensures.1 in
    cond_faulty profile (held c.args.look.code.now) (may_hold profile c.args.look.texts c.args.look.code.now) lists k c.args.depth test (list_at profile (Some Then) (suc c.args.depth) (drop c.args.at text)) (deeper profile (held c.args.look.code.now) (may_hold profile c.args.look.texts c.args.look.code.now) lists (Some Then) c.args.depth (drop c.args.at text) false (c.in_err-stop.ensures.clean lists are))
    ∙ sym (ap (λ (r : Result ℕ Fault). rest_clean profile (held c.args.look.code.now) (may_hold profile c.args.look.texts c.args.look.code.now) lists text k c.args.depth r) p.1)

pub check_conditional-returns-in_err-end-clause-clean : goal.check_conditional-returns-in_err-end-clause-clean
check_conditional-returns-in_err-end-clause-clean t c test lists k are =
    let profile = c.args.look.profile in
    let text = c.args.text.now in
    let stop = c.in_ok-stop.stop in
    let p = err_from_is_err_and c.from_residual-in_err-end.result c.from_residual-in_err-end.ensures.1 in
    other_faulty profile (held c.args.look.code.now) (may_hold profile c.args.look.texts c.args.look.code.now) lists k c.args.depth test (list_at profile (Some Then) (suc c.args.depth) (drop c.args.at text)) (drop stop.to text)
    (closes_deeper profile (Some Then) c.args.depth (drop c.args.at text) _ (c.in_ok-stop.ensures.closes Then refl) ∙ ap (λ (b : Bool). closed b (drop stop.to text)) c.if-stop.true)
    (deeper profile (held c.args.look.code.now) (may_hold profile c.args.look.texts c.args.look.code.now) lists (Some Else) c.args.depth (drop stop.to text) false (c.in_err-end.ensures.clean lists are))
    ∙ sym (ap (λ (r : Result ℕ Fault). rest_clean profile (held c.args.look.code.now) (may_hold profile c.args.look.texts c.args.look.code.now) lists text k c.args.depth r) p.1)

pub check_conditional-returns-then-stop-clause-clean : goal.check_conditional-returns-then-stop-clause-clean
check_conditional-returns-then-stop-clause-clean t c test lists k are =
    let profile = c.args.look.profile in
    let text = c.args.text.now in
    let d = c.args.depth in
    let stop = c.in_ok-stop.stop in
    let end = c.in_ok-end.end in
    other_clean profile (held c.args.look.code.now) (may_hold profile c.args.look.texts c.args.look.code.now) lists k d test (list_at profile (Some Then) (suc d) (drop c.args.at text)) (drop stop.to text) end.divided (drop end.to text)
    (deeper profile (held c.args.look.code.now) (may_hold profile c.args.look.texts c.args.look.code.now) lists (Some Then) d (drop c.args.at text) true (c.in_ok-stop.ensures.clean lists are))
    (closes_deeper profile (Some Then) d (drop c.args.at text) (closed stop.divided (drop stop.to text)) (c.in_ok-stop.ensures.closes Then refl) ∙ ap (λ (b : Bool). closed b (drop stop.to text)) c.if-stop.true)
    (deeper profile (held c.args.look.code.now) (may_hold profile c.args.look.texts c.args.look.code.now) lists (Some Else) d (drop stop.to text) true (c.in_ok-end.ensures.clean lists are))
    (closes_deeper profile (Some Else) d (drop stop.to text) (closed end.divided (drop end.to text)) (c.in_ok-end.ensures.closes Else refl))

pub check_conditional-returns-clause-clean : goal.check_conditional-returns-clause-clean
check_conditional-returns-clause-clean t c test lists k are =
    let profile = c.args.look.profile in
    let text = c.args.text.now in
    let d = c.args.depth in
    let stop = c.in_ok-stop.stop in
    cond_clean profile (held c.args.look.code.now) (may_hold profile c.args.look.texts c.args.look.code.now) lists k d test (list_at profile (Some Then) (suc d) (drop c.args.at text)) (drop stop.to text)
    (deeper profile (held c.args.look.code.now) (may_hold profile c.args.look.texts c.args.look.code.now) lists (Some Then) d (drop c.args.at text) true (c.in_ok-stop.ensures.clean lists are))
    (closes_deeper profile (Some Then) d (drop c.args.at text) (closed stop.divided (drop stop.to text)) (c.in_ok-stop.ensures.closes Then refl) ∙ ap (λ (b : Bool). closed b (drop stop.to text)) c.if-stop.false)

pub check_list-returns-in-End-clause-clean : goal.check_list-returns-in-End-clause-clean
check_list-returns-in-End-clause-clean t c lists are =
    let profile = c.args.look.profile in
    let text = c.args.text.now in
    let all = (list_at profile c.args.kind c.args.depth (drop c.args.at text)).0 ∷ lists in
    let lt : c.args.depth < length c.args.around.now = omega (arith, c.told-around, c.requires.few) in
    sym (c.loop-code.invariant.clean all (opens profile (c.block_laws.ensures profile) text c.args.around.now c.args.depth c.args.at c.args.kind lists lt are))
    ∙ ap (λ (l : Listed). is_clean (held c.args.look.code.now) (may_hold profile c.args.look.texts c.args.look.code.now) all l.0) (found_at profile (c.block_laws.ensures profile) c.args.kind c.args.depth (drop c.loop-code.next text) ended c.in-End.ensures.read)
    ∙ c.end_of_text.ensures.clean profile c.args.depth (held c.args.look.code.now) (may_hold profile c.args.look.texts c.args.look.code.now) all

pub check_list-returns-in-Fault-clause-clean : goal.check_list-returns-in-Fault-clause-clean
check_list-returns-in-Fault-clause-clean t c lists are =
    let profile = c.args.look.profile in
    let text = c.args.text.now in
    let all = (list_at profile c.args.kind c.args.depth (drop c.args.at text)).0 ∷ lists in
    let lt : c.args.depth < length c.args.around.now = omega (arith, c.told-around, c.requires.few) in
    sym (c.loop-code.invariant.clean all (opens profile (c.block_laws.ensures profile) text c.args.around.now c.args.depth c.args.at c.args.kind lists lt are))
    ∙ ap (λ (l : Listed). is_clean (held c.args.look.code.now) (may_hold profile c.args.look.texts c.args.look.code.now) all l.0) (found_at profile (c.block_laws.ensures profile) c.args.kind c.args.depth (drop c.loop-code.next text) (fault c.in-Fault.code) c.in-Fault.ensures.read)
    ∙ wrong_unclean (held c.args.look.code.now) (may_hold profile c.args.look.texts c.args.look.code.now) all c.in-Fault.code

pub check_list-returns-in-Some-clause-clean : goal.check_list-returns-in-Some-clause-clean
check_list-returns-in-Some-clause-clean t c lists are =
    let profile = c.args.look.profile in
    let text = c.args.text.now in
    let k = c.in-Token.token in
    let all = (list_at profile c.args.kind c.args.depth (drop c.args.at text)).0 ∷ lists in
    let lt : c.args.depth < length c.args.around.now = omega (arith, c.told-around, c.requires.few) in
    sym (c.loop-code.invariant.clean all (opens profile (c.block_laws.ensures profile) text c.args.around.now c.args.depth c.args.at c.args.kind lists lt are))
    ∙ ap (λ (l : Listed). is_clean (held c.args.look.code.now) (may_hold profile c.args.look.texts c.args.look.code.now) all l.0) (found_at profile (c.block_laws.ensures profile) c.args.kind c.args.depth (drop c.loop-code.next text) (found (meaning_in text k) (drop k.span.to text)) c.in-Token.ensures.read)
    ∙ ap (λ (i : Instruction). is_clean (held c.args.look.code.now) (may_hold profile c.args.look.texts c.args.look.code.now) all (at_instruction (list_at profile) i k.modifiers (drop k.span.to text) c.args.kind c.args.depth).0) (closing_is (instruction_in text k.kind) c.in-Some.mark (c.in-Some.ensures text))
    ∙ c.end_of_list.ensures.clean profile text c.args.depth (held c.args.look.code.now) (may_hold profile c.args.look.texts c.args.look.code.now) all

pub check_list-returns-in-Some-clause-closes : goal.check_list-returns-in-Some-clause-closes
check_list-returns-in-Some-clause-closes t c b is =
    let profile = c.args.look.profile in
    let text = c.args.text.now in
    let k = c.in-Token.token in
    subst (λ (x : Close). IfOk c.end_of_list.result (λ stop. x ≡ close_of text (Ok stop)))
    (sym (ap (λ (i : Instruction). (at_instruction (list_at profile) i k.modifiers (drop k.span.to text) c.args.kind c.args.depth).1) (closing_is (instruction_in text k.kind) c.in-Some.mark (c.in-Some.ensures text)))
    ∙ sym (ap (λ (l : Listed). l.1) (found_at profile (c.block_laws.ensures profile) c.args.kind c.args.depth (drop c.loop-code.next text) (found (meaning_in text k) (drop k.span.to text)) c.in-Token.ensures.read))
    ∙ c.loop-code.invariant.closes)
    (c.end_of_list.ensures.closes profile text c.args.depth)

pub check_list-returns-in_err-next-in-None-clause-clean : goal.check_list-returns-in_err-next-in-None-clause-clean
check_list-returns-in_err-next-in-None-clause-clean t c lists are =
    let profile = c.args.look.profile in
    let text = c.args.text.now in
    let k = c.in-Token.token in
    let p = err_from_is_err_and c.from_residual.result c.from_residual.ensures.1 in
    let all = (list_at profile c.args.kind c.args.depth (drop c.args.at text)).0 ∷ lists in
    let lt : c.args.depth < length c.args.around.now = omega (arith, c.told-around, c.requires.few) in
    let deep = opens profile (c.block_laws.ensures profile) text c.args.around.now c.args.depth c.args.at c.args.kind lists lt are in
    sym (c.loop-code.invariant.clean all deep)
    ∙ ap (λ (l : Listed). is_clean (held c.args.look.code.now) (may_hold profile c.args.look.texts c.args.look.code.now) all l.0) (found_at profile (c.block_laws.ensures profile) c.args.kind c.args.depth (drop c.loop-code.next text) (found (meaning_in text k) (drop k.span.to text)) c.in-Token.ensures.read)
    ∙ c.in_err-next-in-None.ensures.clean all c.args.kind deep
    ∙ sym (ap (λ r. is_ok r) p.1)

pub check_node-returns-then-depth-eq-BLOCK_LIMIT-clause-clean : goal.check_node-returns-then-depth-eq-BLOCK_LIMIT-clause-clean
check_node-returns-then-depth-eq-BLOCK_LIMIT-clause-clean t c lists k are =
    let profile = c.args.look.profile in
    let m = c.args.token.modifiers in
    let text = c.args.text.now in
    let d = c.args.depth in
    let bs = drop c.args.token.span.to text in
    let it : instruction_in text c.args.token.kind ≡ mark Iterate = is_iterate text c.args.token.kind c.in-Mark.field-0 c.in-Mark.is c.requires.node in
    ap (λ (i : Instruction). is_clean (held c.args.look.code.now) (may_hold profile c.args.look.texts c.args.look.code.now) lists (at_instruction (list_at profile) i m bs k d).0) it ∙ iterate_deep profile (held c.args.look.code.now) (may_hold profile c.args.look.texts c.args.look.code.now) lists k d m bs c.if-depth-eq-BLOCK_LIMIT.true

pub check_node-returns-in_err-stop-in-Mark-clause-clean : goal.check_node-returns-in_err-stop-in-Mark-clause-clean
check_node-returns-in_err-stop-in-Mark-clause-clean t c lists k are =
    let profile = c.args.look.profile in
    let m = c.args.token.modifiers in
    let text = c.args.text.now in
    let d = c.args.depth in
    let bs = drop c.args.token.span.to text in
    let it : instruction_in text c.args.token.kind ≡ mark Iterate = is_iterate text c.args.token.kind c.in-Mark.field-0 c.in-Mark.is c.requires.node in
    let p = err_from_is_err_and c.from_residual.result c.from_residual.ensures.1 in
    ap (λ (i : Instruction). is_clean (held c.args.look.code.now) (may_hold profile c.args.look.texts c.args.look.code.now) lists (at_instruction (list_at profile) i m bs k d).0) it
    ∙ ap (λ (l : Listed). is_clean (held c.args.look.code.now) (may_hold profile c.args.look.texts c.args.look.code.now) lists l.0) (iterate_at profile m bs k d c.if-depth-eq-BLOCK_LIMIT.false)
    ∙ iter_faulty profile (held c.args.look.code.now) (may_hold profile c.args.look.texts c.args.look.code.now) lists k d (list_at profile (Some Iter) (suc d) bs) (deeper profile (held c.args.look.code.now) (may_hold profile c.args.look.texts c.args.look.code.now) lists (Some Iter) d bs false (c.in_err-stop-in-Mark.ensures.clean lists are))
    ∙ sym (ap (λ (r : Result ℕ Fault). rest_clean profile (held c.args.look.code.now) (may_hold profile c.args.look.texts c.args.look.code.now) lists text k d r) p.1)

pub check_node-returns-then-depth-eq-BLOCK_LIMIT-2-clause-clean : goal.check_node-returns-then-depth-eq-BLOCK_LIMIT-2-clause-clean
check_node-returns-then-depth-eq-BLOCK_LIMIT-2-clause-clean t c lists k are =
    let profile = c.args.look.profile in
    let m = c.args.token.modifiers in
    let text = c.args.text.now in
    let d = c.args.depth in
    let bs = drop c.args.token.span.to text in
    ap (λ (x : TokenKind). is_clean (held c.args.look.code.now) (may_hold profile c.args.look.texts c.args.look.code.now) lists (at_instruction (list_at profile) (instruction_in text x) m bs k d).0) c.in-Test.is ∙ decide_deep profile (held c.args.look.code.now) (may_hold profile c.args.look.texts c.args.look.code.now) lists k d m bs c.in-Test.field-0 c.if-depth-eq-BLOCK_LIMIT-2.true

pub check_node-returns-in_ok-stop-in-Mark-clause-clean : goal.check_node-returns-in_ok-stop-in-Mark-clause-clean
check_node-returns-in_ok-stop-in-Mark-clause-clean t c lists k are =
    let profile = c.args.look.profile in
    let m = c.args.token.modifiers in
    let text = c.args.text.now in
    let d = c.args.depth in
    let bs = drop c.args.token.span.to text in
    let it : instruction_in text c.args.token.kind ≡ mark Iterate = is_iterate text c.args.token.kind c.in-Mark.field-0 c.in-Mark.is c.requires.node in
    let stop = c.in_ok-stop-in-Mark.stop in
    ap (λ (i : Instruction). is_clean (held c.args.look.code.now) (may_hold profile c.args.look.texts c.args.look.code.now) lists (at_instruction (list_at profile) i m bs k d).0) it
    ∙ ap (λ (l : Listed). is_clean (held c.args.look.code.now) (may_hold profile c.args.look.texts c.args.look.code.now) lists l.0) (iterate_at profile m bs k d c.if-depth-eq-BLOCK_LIMIT.false)
    ∙ iter_clean profile (held c.args.look.code.now) (may_hold profile c.args.look.texts c.args.look.code.now) lists k d (list_at profile (Some Iter) (suc d) bs) stop.divided (drop stop.to text) (deeper profile (held c.args.look.code.now) (may_hold profile c.args.look.texts c.args.look.code.now) lists (Some Iter) d bs true (c.in_ok-stop-in-Mark.ensures.clean lists are))
    (closes_deeper profile (Some Iter) d bs (closed stop.divided (drop stop.to text)) (c.in_ok-stop-in-Mark.ensures.closes Iter refl))

pub check_node-returns-else-depth-eq-BLOCK_LIMIT-2-clause-closes : goal.check_node-returns-else-depth-eq-BLOCK_LIMIT-2-clause-closes
check_node-returns-else-depth-eq-BLOCK_LIMIT-2-clause-closes t c m k =
    let profile = c.args.look.profile in
    let text = c.args.text.now in
    let d = c.args.depth in
    let bs = drop c.args.token.span.to text in
    subst (λ (x : Close). IfOk c.check_conditional.result (λ to. x ≡ (list_at profile k d (drop to text)).1))
    (sym (ap (λ (x : TokenKind). (at_instruction (list_at profile) (instruction_in text x) m bs k d).1) c.in-Test.is ∙ ap (λ (l : Listed). l.1) (decide_at profile c.in-Test.field-0 m bs k d c.if-depth-eq-BLOCK_LIMIT-2.false)))
    (c.check_conditional.ensures.closes c.in-Test.field-0 k)

pub check_node-returns-in-Item-clause-clean : goal.check_node-returns-in-Item-clause-clean
check_node-returns-in-Item-clause-clean t c lists k are =
    let profile = c.args.look.profile in
    let m = c.args.token.modifiers in
    let text = c.args.text.now in
    let d = c.args.depth in
    let bs = drop c.args.token.span.to text in
    ap (λ (x : TokenKind). is_clean (held c.args.look.code.now) (may_hold profile c.args.look.texts c.args.look.code.now) lists (at_instruction (list_at profile) (instruction_in text x) m bs k d).0) c.in-Item.is
    ∙ item_rest profile (held c.args.look.code.now) (may_hold profile c.args.look.texts c.args.look.code.now) lists k d m text c.args.token.span.to (item_in text c.in-Item.item) c.check_item.result c.check_item.ensures.place (ap (λ (x : SpannedItem). is_fine (held c.args.look.code.now) (may_hold profile c.args.look.texts c.args.look.code.now) lists m (item_in text x)) (sym c.in-Item.item-is) ∙ c.check_item.ensures.fine lists are)

pub check_node-returns-in-Item-clause-first : goal.check_node-returns-in-Item-clause-first
check_node-returns-in-Item-clause-first t c o os long there =
    let profile = c.args.look.profile in
    let text = c.args.text.now in
    let code = rule profile c.args.look.texts c.args.look.code.now in
    let from = c.args.token.span.from in
    let to = c.args.token.span.to in
    ap (λ (x : TokenKind). walked.at_instruction (by_check profile code text) (check_walk profile code text) text (instruction_in text x) from o os (drop to text)) c.in-Item.is
    ∙ ap (λ (m : Modifiers). walked.after_item (check_walk profile code text) (told_item from (wrong_with profile code text (o ∷ os) m (item_in text c.in-Item.item))) o os (drop to text)) (ap marks_of c.requires.token)
    ∙ ap (λ (x : SpannedItem). walked.after_item (check_walk profile code text) (told_item from (wrong_with profile code text (o ∷ os) c.args.token.modifiers (item_in text x))) o os (drop to text)) (sym c.in-Item.item-is)
    ∙ c.check_item.ensures.first o os (one_more o os c.args.depth long) there

pub check_node-returns-in-Tag-clause-clean : goal.check_node-returns-in-Tag-clause-clean
check_node-returns-in-Tag-clause-clean t c lists k are =
    let profile = c.args.look.profile in
    let m = c.args.token.modifiers in
    let text = c.args.text.now in
    let d = c.args.depth in
    let bs = drop c.args.token.span.to text in
    ap (λ (x : TokenKind). is_clean (held c.args.look.code.now) (may_hold profile c.args.look.texts c.args.look.code.now) lists (at_instruction (list_at profile) (instruction_in text x) m bs k d).0) c.in-Tag.is ∙ tag_clean profile (held c.args.look.code.now) (may_hold profile c.args.look.texts c.args.look.code.now) lists k d m bs (bytes_in text c.in-Tag.field-0)

pub check_node-returns-in-Escape-clause-clean : goal.check_node-returns-in-Escape-clause-clean
check_node-returns-in-Escape-clause-clean t c lists k are =
    let profile = c.args.look.profile in
    let m = c.args.token.modifiers in
    let text = c.args.text.now in
    let d = c.args.depth in
    let bs = drop c.args.token.span.to text in
    ap (λ (x : TokenKind). is_clean (held c.args.look.code.now) (may_hold profile c.args.look.texts c.args.look.code.now) lists (at_instruction (list_at profile) (instruction_in text x) m bs k d).0) c.in-Escape.is ∙ escape_clean profile (held c.args.look.code.now) (may_hold profile c.args.look.texts c.args.look.code.now) lists k d m bs

pub check_list-returns-in-Some-clause-place : goal.check_list-returns-in-Some-clause-place
check_list-returns-in-Some-clause-place t c =
    let profile = c.args.look.profile in
    let text = c.args.text.now in
    let k = c.in-Token.token in
    stray_here profile text k.span.from (meaning_in text k) (drop k.span.to text) c.in-Some.mark c.end_of_list.result
    (scan_same profile (drop c.loop-code.next text) (drop k.span.from text) c.in-Token.ensures.place.begins ∙ sym c.in-Token.ensures.read) (c.in-Some.ensures text) c.end_of_list.ensures.stray

pub check_node-returns-in-Item-clause-place : goal.check_node-returns-in-Item-clause-place
check_node-returns-in-Item-clause-place t c =
    let text = c.args.text.now in
    let k = c.args.token in
    fault_here c.args.look.profile text c.args.token.span.from (meaning_in text k) (drop k.span.to text) c.check_item.result c.requires.token
    (subst (λ (i : Instruction). IfErr c.check_item.result (λ f. (f.at ≡ c.args.token.span.from) × (suits f.wrong i ≡ true)))
    (ap (λ (x : SpannedItem). step (item_in text x)) c.in-Item.item-is ∙ sym (ap (λ (x : TokenKind). instruction_in text x) c.in-Item.is)) c.check_item.ensures.suits)

pub check_conditional-returns-in_err-stop-clause-breaks : goal.check_conditional-returns-in_err-stop-clause-breaks
check_conditional-returns-in_err-stop-clause-breaks t c test code k =
    let profile = c.args.look.profile in
    let text = c.args.text.now in
    let d = c.args.depth in
    let p = err_from_is_err_and c.from_residual.result c.from_residual.ensures.1 in
    rw (p.1, p.2)
    (λ is. cond_breaks profile k d code test (list_at profile (Some Then) (suc d) (drop c.args.at text)) (closes_deeper profile (Some Then) d (drop c.args.at text) (broken code) (c.in_err-stop.ensures.breaks code is)))

pub check_conditional-returns-in_err-end-clause-breaks : goal.check_conditional-returns-in_err-end-clause-breaks
check_conditional-returns-in_err-end-clause-breaks t c test code k =
    let profile = c.args.look.profile in
    let text = c.args.text.now in
    let d = c.args.depth in
    let stop = c.in_ok-stop.stop in
    let p = err_from_is_err_and c.from_residual-in_err-end.result c.from_residual-in_err-end.ensures.1 in
    rw (p.1, p.2)
    (λ is. other_breaks profile k d code test (list_at profile (Some Then) (suc d) (drop c.args.at text)) (drop stop.to text)
    (closes_deeper profile (Some Then) d (drop c.args.at text) (closed stop.divided (drop stop.to text)) (c.in_ok-stop.ensures.closes Then refl) ∙ ap (λ (b : Bool). closed b (drop stop.to text)) c.if-stop.true)
    (closes_deeper profile (Some Else) d (drop stop.to text) (broken code) (c.in_err-end.ensures.breaks code is)))

pub check_list-returns-in-Fault-clause-breaks : goal.check_list-returns-in-Fault-clause-breaks
check_list-returns-in-Fault-clause-breaks t c code is =
    let profile = c.args.look.profile in
    let same : c.in-Fault.code ≡ code = cc in
    sym c.loop-code.invariant.closes
    ∙ ap (λ (l : Listed). l.1) (found_at profile (c.block_laws.ensures profile) c.args.kind c.args.depth (drop c.loop-code.next c.args.text.now) (fault c.in-Fault.code) c.in-Fault.ensures.read)
    ∙ ap broken same

pub check_list-returns-in-Some-clause-breaks : goal.check_list-returns-in-Some-clause-breaks
check_list-returns-in-Some-clause-breaks t c code =
    let profile = c.args.look.profile in
    let text = c.args.text.now in
    let k = c.in-Token.token in
    subst (λ (x : Close). IfErr c.end_of_list.result (λ fault. code_of fault.wrong ≡ Some code → x ≡ broken code))
    (sym (ap (λ (i : Instruction). (at_instruction (list_at profile) i k.modifiers (drop k.span.to text) c.args.kind c.args.depth).1) (closing_is (instruction_in text k.kind) c.in-Some.mark (c.in-Some.ensures text)))
    ∙ sym (ap (λ (l : Listed). l.1) (found_at profile (c.block_laws.ensures profile) c.args.kind c.args.depth (drop c.loop-code.next text) (found (meaning_in text k) (drop k.span.to text)) c.in-Token.ensures.read))
    ∙ c.loop-code.invariant.closes)
    (c.end_of_list.ensures.breaks profile text c.args.depth code)

pub check_list-returns-in_err-next-in-None-clause-breaks : goal.check_list-returns-in_err-next-in-None-clause-breaks
check_list-returns-in_err-next-in-None-clause-breaks t c code =
    let profile = c.args.look.profile in
    let text = c.args.text.now in
    let k = c.in-Token.token in
    let p = err_from_is_err_and c.from_residual.result c.from_residual.ensures.1 in
    rw (p.1, p.2)
    (λ is. sym c.loop-code.invariant.closes
    ∙ ap (λ (l : Listed). l.1) (found_at profile (c.block_laws.ensures profile) c.args.kind c.args.depth (drop c.loop-code.next text) (found (meaning_in text k) (drop k.span.to text)) c.in-Token.ensures.read)
    ∙ c.in_err-next-in-None.ensures.breaks k.modifiers code c.args.kind is)

pub check_node-returns-in_err-stop-in-Mark-clause-breaks : goal.check_node-returns-in_err-stop-in-Mark-clause-breaks
check_node-returns-in_err-stop-in-Mark-clause-breaks t c m code k =
    let profile = c.args.look.profile in
    let text = c.args.text.now in
    let d = c.args.depth in
    let bs = drop c.args.token.span.to text in
    let it : instruction_in text c.args.token.kind ≡ mark Iterate = is_iterate text c.args.token.kind c.in-Mark.field-0 c.in-Mark.is c.requires.node in
    let p = err_from_is_err_and c.from_residual.result c.from_residual.ensures.1 in
    rw (p.1, p.2)
    (λ is. ap (λ (i : Instruction). (at_instruction (list_at profile) i m bs k d).1) it
    ∙ ap (λ (l : Listed). l.1) (iterate_at profile m bs k d c.if-depth-eq-BLOCK_LIMIT.false)
    ∙ iter_breaks profile k d code (list_at profile (Some Iter) (suc d) bs) (closes_deeper profile (Some Iter) d bs (broken code) (c.in_err-stop-in-Mark.ensures.breaks code is)))

pub check_node-returns-else-depth-eq-BLOCK_LIMIT-2-clause-breaks : goal.check_node-returns-else-depth-eq-BLOCK_LIMIT-2-clause-breaks
check_node-returns-else-depth-eq-BLOCK_LIMIT-2-clause-breaks t c m code k =
    let profile = c.args.look.profile in
    let text = c.args.text.now in
    let d = c.args.depth in
    let bs = drop c.args.token.span.to text in
    subst (λ (x : Close). IfErr c.check_conditional.result (λ fault. code_of fault.wrong ≡ Some code → x ≡ broken code))
    (sym (ap (λ (x : TokenKind). (at_instruction (list_at profile) (instruction_in text x) m bs k d).1) c.in-Test.is ∙ ap (λ (l : Listed). l.1) (decide_at profile c.in-Test.field-0 m bs k d c.if-depth-eq-BLOCK_LIMIT-2.false)))
    (c.check_conditional.ensures.breaks c.in-Test.field-0 code k)

pub check_list-returns-in-End-clause-first : goal.check_list-returns-in-End-clause-first
check_list-returns-in-End-clause-first t c os long there =
    let profile = c.args.look.profile in
    let text = c.args.text.now in
    let me : OpenList = record { kind = c.args.kind; opening = c.args.opening; start = c.args.at } in
    let bs = drop c.loop-code.next text in
    sym (c.loop-code.invariant.first os long there)
    ∙ scanned_at profile (rule profile c.args.look.texts c.args.look.code.now) text bs me os ended (walked.place text (after_fillers bs)) c.in-End.ensures.read refl
    ∙ c.end_of_text.ensures.first profile (rule profile c.args.look.texts c.args.look.code.now) text (walked.place text (after_fillers bs)) c.args.at os

pub check_list-returns-in-Fault-clause-first : goal.check_list-returns-in-Fault-clause-first
check_list-returns-in-Fault-clause-first t c os long there =
    let profile = c.args.look.profile in
    let text = c.args.text.now in
    let me : OpenList = record { kind = c.args.kind; opening = c.args.opening; start = c.args.at } in
    let bs = drop c.loop-code.next text in
    sym (c.loop-code.invariant.first os long there)
    ∙ scanned_at profile (rule profile c.args.look.texts c.args.look.code.now) text bs me os (fault c.in-Fault.code) c.filler_end.result c.in-Fault.ensures.read
    (place_is text (after_fillers bs) c.filler_end.result c.filler_end.ensures.within.1 c.filler_end.ensures.read)

pub check_list-returns-in-Fault-clause-place : goal.check_list-returns-in-Fault-clause-place
check_list-returns-in-Fault-clause-place t c =
    let text = c.args.text.now in
    scan_same c.args.look.profile (drop c.loop-code.next text) (drop c.filler_end.result text) c.filler_end.ensures.read ∙ sym c.in-Fault.ensures.read

pub check_list-returns-in-Some-clause-first : goal.check_list-returns-in-Some-clause-first
check_list-returns-in-Some-clause-first t c os long there =
    let profile = c.args.look.profile in
    let text = c.args.text.now in
    let k = c.in-Token.token in
    let me : OpenList = record { kind = c.args.kind; opening = c.args.opening; start = c.args.at } in
    let bs = drop c.loop-code.next text in
    let in_text : k.span.from ≤ length text = omega (arith, c.in-Token.ensures.place.long, c.in-Token.ensures.place.inside) in
    sym (c.loop-code.invariant.first os long there)
    ∙ scanned_at profile (rule profile c.args.look.texts c.args.look.code.now) text bs me os (found (meaning_in text k) (drop k.span.to text)) k.span.from c.in-Token.ensures.read
    (place_is text (after_fillers bs) k.span.from in_text c.in-Token.ensures.place.begins)
    ∙ ap (λ (i : Instruction). walked.at_instruction (by_check profile (rule profile c.args.look.texts c.args.look.code.now) text) (check_walk profile (rule profile c.args.look.texts c.args.look.code.now) text) text i k.span.from me os (drop k.span.to text)) (closing_is (instruction_in text k.kind) c.in-Some.mark (c.in-Some.ensures text))
    ∙ c.end_of_list.ensures.first profile (rule profile c.args.look.texts c.args.look.code.now) text c.args.at os c.in-Token.ensures.place.inside

pub check_list-returns-in_err-next-in-None-clause-first : goal.check_list-returns-in_err-next-in-None-clause-first
check_list-returns-in_err-next-in-None-clause-first t c os long there =
    let profile = c.args.look.profile in
    let text = c.args.text.now in
    let k = c.in-Token.token in
    let p = err_from_is_err_and c.from_residual.result c.from_residual.ensures.1 in
    let me : OpenList = record { kind = c.args.kind; opening = c.args.opening; start = c.args.at } in
    let bs = drop c.loop-code.next text in
    let in_text : k.span.from ≤ length text = omega (arith, c.in-Token.ensures.place.long, c.in-Token.ensures.place.inside) in
    let lt : c.args.depth < length c.args.around.now = omega (arith, c.told-around, c.requires.few) in
    rw (p.1, p.2) (sym (c.loop-code.invariant.first os long there)
    ∙ scanned_at profile (rule profile c.args.look.texts c.args.look.code.now) text bs me os (found (meaning_in text k) (drop k.span.to text)) k.span.from c.in-Token.ensures.read
    (place_is text (after_fillers bs) k.span.from in_text c.in-Token.ensures.place.begins)
    ∙ c.in_err-next-in-None.ensures.first me os long (begins_more profile text c.args.around.now c.args.depth me os lt long there))

pub check_list-check_node-requires : goal.check_list-check_node-requires
check_list-check_node-requires t c =
    let profile = c.args.look.profile in
    let text = c.args.text.now in
    let k = c.in-Token.token in
    let token : scan profile (drop k.span.from text) ≡ found (meaning_in text k) (drop k.span.to text)
    = scan_same profile (drop c.loop-code.next text) (drop k.span.from text) c.in-Token.ensures.place.begins ∙ sym c.in-Token.ensures.read in (
      grind (arith, common_steps),
      (
        c.in-Token.ensures.place.inside,
        (
          token_long profile c.spelling.ensures.spelled text c.loop-code.next k c.in-Token.ensures.place token,
          (c.in-Token.ensures.place.spans, (c.requires.few, (search rules, (token, (sym (c.in-None.ensures text), (c.requires.tags, c.requires.named)))))),
        ),
      ),
    )

pub check_list-loop-code-preserved : goal.check_list-loop-code-preserved
check_list-loop-code-preserved t c = record {
  past = grind (arith, common_steps);
  inside = grind (arith, common_steps);
  starts = search rules;
  clean = λ lists are.
      sym (c.in_ok-next-in-None.ensures.clean lists c.args.kind are)
      ∙ sym (ap (λ (l : Listed). is_clean (held c.args.look.code.now) (may_hold c.args.look.profile c.args.look.texts c.args.look.code.now) lists l.0)
      (found_at c.args.look.profile (c.block_laws.ensures c.args.look.profile) c.args.kind c.args.depth (drop c.loop-code.next c.args.text.now) (found (meaning_in c.args.text.now c.in-Token.token) (drop c.in-Token.token.span.to c.args.text.now)) c.in-Token.ensures.read))
      ∙ c.loop-code.invariant.clean lists are;
  first = λ os long there.
      let text = c.args.text.now in
      let k = c.in-Token.token in
      let me : OpenList = record { kind = c.args.kind; opening = c.args.opening; start = c.args.at } in
      let bs = drop c.loop-code.next text in
      let in_text : k.span.from ≤ length text = omega (arith, c.in-Token.ensures.place.long, c.in-Token.ensures.place.inside) in
      let lt : c.args.depth < length c.args.around.now = omega (arith, c.told-around, c.requires.few) in
      sym (c.in_ok-next-in-None.ensures.first me os long (begins_more c.args.look.profile text c.args.around.now c.args.depth me os lt long there))
      ∙ sym (scanned_at c.args.look.profile (rule c.args.look.profile c.args.look.texts c.args.look.code.now) text bs me os (found (meaning_in text k) (drop k.span.to text)) k.span.from c.in-Token.ensures.read
      (place_is text (after_fillers bs) k.span.from in_text c.in-Token.ensures.place.begins))
      ∙ c.loop-code.invariant.first os long there;
  closes =
      sym (c.in_ok-next-in-None.ensures.closes c.in-Token.token.modifiers c.args.kind)
      ∙ sym (ap (λ (l : Listed). l.1) (found_at c.args.look.profile (c.block_laws.ensures c.args.look.profile) c.args.kind c.args.depth (drop c.loop-code.next c.args.text.now) (found (meaning_in c.args.text.now c.in-Token.token) (drop c.in-Token.token.span.to c.args.text.now)) c.in-Token.ensures.read))
      ∙ c.loop-code.invariant.closes;
}

pub check_node-returns-in_err-stop-in-Mark-clause-first : goal.check_node-returns-in_err-stop-in-Mark-clause-first
check_node-returns-in_err-stop-in-Mark-clause-first t c o os long there =
    let profile = c.args.look.profile in
    let text = c.args.text.now in
    let code = rule profile c.args.look.texts c.args.look.code.now in
    let to = c.args.token.span.to in
    let it : instruction_in text c.args.token.kind ≡ mark Iterate = is_iterate text c.args.token.kind c.in-Mark.field-0 c.in-Mark.is c.requires.node in
    let p = err_from_is_err_and c.from_residual.result c.from_residual.ensures.1 in
    rw (p.1, p.2)
    (ap (λ (i : Instruction). walked.at_instruction (by_check profile code text) (check_walk profile code text) text i c.args.token.span.from o os (drop to text)) it
    ∙ block_opens profile code text Iter c.args.token.span.from o os to (λ e. c.if-depth-eq-BLOCK_LIMIT.false (sym long ∙ e)) c.requires.inside
    ∙ c.in_err-stop-in-Mark.ensures.first (o ∷ os) (one_more o os c.args.depth long) there)

pub check_node-returns-in_ok-stop-in-Mark-clause-first : goal.check_node-returns-in_ok-stop-in-Mark-clause-first
check_node-returns-in_ok-stop-in-Mark-clause-first t c o os long there =
    let profile = c.args.look.profile in
    let text = c.args.text.now in
    let code = rule profile c.args.look.texts c.args.look.code.now in
    let to = c.args.token.span.to in
    let it : instruction_in text c.args.token.kind ≡ mark Iterate = is_iterate text c.args.token.kind c.in-Mark.field-0 c.in-Mark.is c.requires.node in
    ap (λ (i : Instruction). walked.at_instruction (by_check profile code text) (check_walk profile code text) text i c.args.token.span.from o os (drop to text)) it
    ∙ block_opens profile code text Iter c.args.token.span.from o os to (λ e. c.if-depth-eq-BLOCK_LIMIT.false (sym long ∙ e)) c.requires.inside
    ∙ c.in_ok-stop-in-Mark.ensures.first (o ∷ os) (one_more o os c.args.depth long) there

pub check_gathered-returns-in-Ok-clause-first : goal.check_gathered-returns-in-Ok-clause-first
unfolding lands_below lands_in
check_gathered-returns-in-Ok-clause-first t c = sym (c.in-Ok.ensures.first [] refl (λ name. refl))

pub check_gathered-returns-in-Ok-clause-clean : goal.check_gathered-returns-in-Ok-clause-clean
unfolding lands_below
check_gathered-returns-in-Ok-clause-clean t c = text_clean c.args.look.profile c.args.look.texts c.args.look.code.now c.args.text.now true (c.in-Ok.ensures.clean [] (λ name. refl))

pub check_gathered-returns-in-Err-clause-first : goal.check_gathered-returns-in-Err-clause-first
unfolding lands_below lands_in
check_gathered-returns-in-Err-clause-first t c = sym (c.in-Err.ensures.first [] refl (λ name. refl))

pub check_gathered-returns-in-Err-clause-clean : goal.check_gathered-returns-in-Err-clause-clean
unfolding lands_below
check_gathered-returns-in-Err-clause-clean t c = text_clean c.args.look.profile c.args.look.texts c.args.look.code.now c.args.text.now false (c.in-Err.ensures.clean [] (λ name. refl))

pub wrong_of-returns-then-look-eq0-clause-fine : goal.wrong_of-returns-then-look-eq0-clause-fine
wrong_of-returns-then-look-eq0-clause-fine t c lists are =
    let profile = c.args.look.profile in
    let text = c.args.text.now in
    let code = c.args.look.code.now in
    let n = c.args.look.texts in
    let is : c.args.item ≡ a_text c.in-SetText.field-0 c.in-SetText.span = search rules in
    let on : c.holds_code-holds.result ≡ true = search rules in
    let held_on : held code c.in-SetText.field-0 ≡ true = sym (ap (λ (x : SpannedItem). item_holds (held code) x) is) ∙ sym c.holds_code-holds.ensures ∙ on in
    let inside = bytes_in text c.in-SetText.span in
    let all_of : c.is_all.result ≡ true = search rules in
    let all : is_whole c.args.modifiers && is_written_out c.args.look.profile inside ≡ true = sym c.is_all.ensures ∙ all_of in
    fine_text profile n code text lists c.args.modifiers c.args.item c.in-SetText.field-0 c.in-SetText.span false is held_on (whole_may (is_whole c.args.modifiers) (may_hold profile n code (bytes_in text c.in-SetText.span)) false (whole_of (is_whole c.args.modifiers) (is_written_out c.args.look.profile inside) all) (none_may profile n code (bytes_in text c.in-SetText.span) c.if-look-eq0.true (out_of (is_whole c.args.modifiers) (is_written_out c.args.look.profile inside) all)))

pub wrong_of-returns-then-look-eq0-clause-first : goal.wrong_of-returns-then-look-eq0-clause-first
wrong_of-returns-then-look-eq0-clause-first t c lists long there =
    let profile = c.args.look.profile in
    let text = c.args.text.now in
    let code = c.args.look.code.now in
    let n = c.args.look.texts in
    let is : c.args.item ≡ a_text c.in-SetText.field-0 c.in-SetText.span = search rules in
    let on : c.holds_code-holds.result ≡ true = search rules in
    let held_on : held code c.in-SetText.field-0 ≡ true = sym (ap (λ (x : SpannedItem). item_holds (held code) x) is) ∙ sym c.holds_code-holds.ensures ∙ on in
    let inside = bytes_in text c.in-SetText.span in
    let all_of : c.is_all.result ≡ true = search rules in
    let all : is_whole c.args.modifiers && is_written_out c.args.look.profile inside ≡ true = sym c.is_all.ensures ∙ all_of in
    sym (wrong_text profile n code text lists c.args.modifiers c.args.item c.in-SetText.field-0 c.in-SetText.span is held_on false all (none_may profile n code (bytes_in text c.in-SetText.span) c.if-look-eq0.true (out_of (is_whole c.args.modifiers) (is_written_out c.args.look.profile inside) all)))

pub wrong_of-returns-then-is_none-clause-fine : goal.wrong_of-returns-then-is_none-clause-fine
wrong_of-returns-then-is_none-clause-fine t c lists are =
    let profile = c.args.look.profile in
    let text = c.args.text.now in
    let code = c.args.look.code.now in
    let n = c.args.look.texts in
    let is : c.args.item ≡ a_text c.in-SetText.field-0 c.in-SetText.span = search rules in
    let on : c.holds_code-holds.result ≡ true = search rules in
    let held_on : held code c.in-SetText.field-0 ≡ true = sym (ap (λ (x : SpannedItem). item_holds (held code) x) is) ∙ sym c.holds_code-holds.ensures ∙ on in
    let inside = bytes_in text c.in-SetText.span in
    let all_of : c.is_all.result ≡ true = search rules in
    let all : is_whole c.args.modifiers && is_written_out c.args.look.profile inside ≡ true = sym c.is_all.ensures ∙ all_of in
    let told : is_none c.check_text.result ≡ true = search rules in
    let may : may_hold profile n code (bytes_in text c.in-SetText.span) ≡ true
    = text_may profile n code (bytes_in text c.in-SetText.span) true (out_of (is_whole c.args.modifiers) (is_written_out c.args.look.profile inside) all) c.if-look-eq0.false (c.check_text.ensures.clean ∙ told) in
    fine_text profile n code text lists c.args.modifiers c.args.item c.in-SetText.field-0 c.in-SetText.span true is held_on (whole_may (is_whole c.args.modifiers) (may_hold profile n code (bytes_in text c.in-SetText.span)) true (whole_of (is_whole c.args.modifiers) (is_written_out c.args.look.profile inside) all) may)

pub wrong_of-returns-then-is_none-clause-first : goal.wrong_of-returns-then-is_none-clause-first
wrong_of-returns-then-is_none-clause-first t c lists long there =
    let profile = c.args.look.profile in
    let text = c.args.text.now in
    let code = c.args.look.code.now in
    let n = c.args.look.texts in
    let is : c.args.item ≡ a_text c.in-SetText.field-0 c.in-SetText.span = search rules in
    let on : c.holds_code-holds.result ≡ true = search rules in
    let held_on : held code c.in-SetText.field-0 ≡ true = sym (ap (λ (x : SpannedItem). item_holds (held code) x) is) ∙ sym c.holds_code-holds.ensures ∙ on in
    let inside = bytes_in text c.in-SetText.span in
    let all_of : c.is_all.result ≡ true = search rules in
    let all : is_whole c.args.modifiers && is_written_out c.args.look.profile inside ≡ true = sym c.is_all.ensures ∙ all_of in
    let told : is_none c.check_text.result ≡ true = search rules in
    let may : may_hold profile n code (bytes_in text c.in-SetText.span) ≡ true
    = text_may profile n code (bytes_in text c.in-SetText.span) true (out_of (is_whole c.args.modifiers) (is_written_out c.args.look.profile inside) all) c.if-look-eq0.false (c.check_text.ensures.clean ∙ told) in
    sym (wrong_text profile n code text lists c.args.modifiers c.args.item c.in-SetText.field-0 c.in-SetText.span is held_on true all may)

pub wrong_of-returns-else-is_none-clause-fine : goal.wrong_of-returns-else-is_none-clause-fine
wrong_of-returns-else-is_none-clause-fine t c lists are =
    let profile = c.args.look.profile in
    let text = c.args.text.now in
    let code = c.args.look.code.now in
    let n = c.args.look.texts in
    let is : c.args.item ≡ a_text c.in-SetText.field-0 c.in-SetText.span = search rules in
    let on : c.holds_code-holds.result ≡ true = search rules in
    let held_on : held code c.in-SetText.field-0 ≡ true = sym (ap (λ (x : SpannedItem). item_holds (held code) x) is) ∙ sym c.holds_code-holds.ensures ∙ on in
    let inside = bytes_in text c.in-SetText.span in
    let all_of : c.is_all.result ≡ true = search rules in
    let all : is_whole c.args.modifiers && is_written_out c.args.look.profile inside ≡ true = sym c.is_all.ensures ∙ all_of in
    let told : is_none c.check_text.result ≡ false = search rules in
    let may : may_hold profile n code (bytes_in text c.in-SetText.span) ≡ false
    = text_may profile n code (bytes_in text c.in-SetText.span) false (out_of (is_whole c.args.modifiers) (is_written_out c.args.look.profile inside) all) c.if-look-eq0.false (c.check_text.ensures.clean ∙ told) in
    fine_text profile n code text lists c.args.modifiers c.args.item c.in-SetText.field-0 c.in-SetText.span false is held_on (whole_may (is_whole c.args.modifiers) (may_hold profile n code (bytes_in text c.in-SetText.span)) false (whole_of (is_whole c.args.modifiers) (is_written_out c.args.look.profile inside) all) may)

pub wrong_of-returns-else-is_none-clause-first : goal.wrong_of-returns-else-is_none-clause-first
wrong_of-returns-else-is_none-clause-first t c lists long there =
    let profile = c.args.look.profile in
    let text = c.args.text.now in
    let code = c.args.look.code.now in
    let n = c.args.look.texts in
    let is : c.args.item ≡ a_text c.in-SetText.field-0 c.in-SetText.span = search rules in
    let on : c.holds_code-holds.result ≡ true = search rules in
    let held_on : held code c.in-SetText.field-0 ≡ true = sym (ap (λ (x : SpannedItem). item_holds (held code) x) is) ∙ sym c.holds_code-holds.ensures ∙ on in
    let inside = bytes_in text c.in-SetText.span in
    let all_of : c.is_all.result ≡ true = search rules in
    let all : is_whole c.args.modifiers && is_written_out c.args.look.profile inside ≡ true = sym c.is_all.ensures ∙ all_of in
    let told : is_none c.check_text.result ≡ false = search rules in
    let may : may_hold profile n code (bytes_in text c.in-SetText.span) ≡ false
    = text_may profile n code (bytes_in text c.in-SetText.span) false (out_of (is_whole c.args.modifiers) (is_written_out c.args.look.profile inside) all) c.if-look-eq0.false (c.check_text.ensures.clean ∙ told) in
    sym (wrong_text profile n code text lists c.args.modifiers c.args.item c.in-SetText.field-0 c.in-SetText.span is held_on false all may)

pub check_list-returns-in-Some-clause-within : goal.check_list-returns-in-Some-clause-within
check_list-returns-in-Some-clause-within t c = grind (arith, common_steps)

pub check_list-returns-in-End-clause-within : goal.check_list-returns-in-End-clause-within
check_list-returns-in-End-clause-within t c = grind (arith, common_steps)

pub check_list-returns-in-End-clause-place : goal.check_list-returns-in-End-clause-place
check_list-returns-in-End-clause-place t c =
    unended_here c.args.look.profile c.args.text.now c.args.opening c.end_of_text.result (λ off. c.requires.opened (c.end_of_text.ensures.inside off)) c.end_of_text.ensures.unended

pub check_list-returns-in-End-clause-closes : goal.check_list-returns-in-End-clause-closes
check_list-returns-in-End-clause-closes t c = grind (arith, common_steps)

pub check_list-returns-in-End-clause-breaks : goal.check_list-returns-in-End-clause-breaks
check_list-returns-in-End-clause-breaks t c code =
    let profile = c.args.look.profile in
    subst (λ (x : Close). IfErr c.end_of_text.result (λ fault. code_of fault.wrong ≡ Some code → x ≡ broken code))
    (sym (ap (λ (l : Listed). l.1) (found_at profile (c.block_laws.ensures profile) c.args.kind c.args.depth (drop c.loop-code.next c.args.text.now) ended c.in-End.ensures.read))
    ∙ c.loop-code.invariant.closes)
    (c.end_of_text.ensures.breaks profile c.args.depth code)

pub check_node-returns-else-depth-eq-BLOCK_LIMIT-2-clause-first : goal.check_node-returns-else-depth-eq-BLOCK_LIMIT-2-clause-first
check_node-returns-else-depth-eq-BLOCK_LIMIT-2-clause-first t c = grind (arith, common_steps)

pub wrong_of-returns-else-holds-clause-fine : goal.wrong_of-returns-else-holds-clause-fine
wrong_of-returns-else-holds-clause-fine t c = search rules

pub wrong_of-returns-else-holds-clause-first : goal.wrong_of-returns-else-holds-clause-first
wrong_of-returns-else-holds-clause-first t c = search rules
