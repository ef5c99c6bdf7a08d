use Rattle.std.proofs.Common.{◌≡◌, ◌-◌, ℕ, List, drop, min, length, sym, ◌∙◌, ap, arith}
use Rattle.std.proofs.lemmas.List.{length-drop, drop_min}
use Rattle.teco_scan.specs.Scan.{Scanned, after_fillers, scan}
use Rattle.teco_ffi.specs.Tokens.{after_token, last_text, token_answer, token_kind}
use Rattle.teco_ffi.proofs.tokens.tell_token.Goals as goal

-- The place is not past the end of the text.
from_there : (text : List ℕ) (at place : ℕ) → place ≡ min at (length text) → drop place text ≡ drop at text
from_there text at place is = ap (λ n. drop n text) is ∙ drop_min at text

pub returns-in-End-clause-answer : goal.returns-in-End-clause-answer
returns-in-End-clause-answer c =
    let there = from_there c.args.text.now c.args.at c.min-at.result c.min-at.ensures in
    ap token_answer (c.in-End.ensures.read ∙ ap (scan c.args.profile) there)

pub returns-in-End-clause-from : goal.returns-in-End-clause-from
returns-in-End-clause-from c =
    let there = from_there c.args.text.now c.args.at c.min-at.result c.min-at.ensures in
    c.filler_end-told.ensures.read ∙ ap after_fillers there

pub returns-in-End-clause-kind : goal.returns-in-End-clause-kind
returns-in-End-clause-kind c =
    let there = from_there c.args.text.now c.args.at c.min-at.result c.min-at.ensures in
    ap token_kind (c.in-End.ensures.read ∙ ap (scan c.args.profile) there)

pub returns-in-End-clause-size : goal.returns-in-End-clause-size
returns-in-End-clause-size c =
    let there = from_there c.args.text.now c.args.at c.min-at.result c.min-at.ensures in
    ap (λ (s : Scanned). length (last_text s)) (c.in-End.ensures.read ∙ ap (scan c.args.profile) there)

pub returns-in-Fault-clause-answer : goal.returns-in-Fault-clause-answer
returns-in-Fault-clause-answer c =
    let there = from_there c.args.text.now c.args.at c.min-at.result c.min-at.ensures in
    c.number.ensures ∙ ap token_answer (c.in-Fault.ensures.read ∙ ap (scan c.args.profile) there)

pub returns-in-Fault-clause-from : goal.returns-in-Fault-clause-from
returns-in-Fault-clause-from c =
    let there = from_there c.args.text.now c.args.at c.min-at.result c.min-at.ensures in
    c.filler_end-told.ensures.read ∙ ap after_fillers there

pub returns-in-Fault-clause-kind : goal.returns-in-Fault-clause-kind
returns-in-Fault-clause-kind c =
    let there = from_there c.args.text.now c.args.at c.min-at.result c.min-at.ensures in
    ap token_kind (c.in-Fault.ensures.read ∙ ap (scan c.args.profile) there)

pub returns-in-Fault-clause-size : goal.returns-in-Fault-clause-size
returns-in-Fault-clause-size c =
    let there = from_there c.args.text.now c.args.at c.min-at.result c.min-at.ensures in
    ap (λ (s : Scanned). length (last_text s)) (c.in-Fault.ensures.read ∙ ap (scan c.args.profile) there)

pub returns-in-Token-clause-answer : goal.returns-in-Token-clause-answer
returns-in-Token-clause-answer c =
    let there = from_there c.args.text.now c.args.at c.min-at.result c.min-at.ensures in
    ap token_answer (c.in-Token.ensures.read ∙ ap (scan c.args.profile) there)

pub returns-in-Token-clause-from : goal.returns-in-Token-clause-from
returns-in-Token-clause-from c =
    let there = from_there c.args.text.now c.args.at c.min-at.result c.min-at.ensures in
    c.filler_end-told.ensures.read ∙ ap after_fillers there

pub returns-in-Token-clause-to : goal.returns-in-Token-clause-to
returns-in-Token-clause-to c =
    let there = from_there c.args.text.now c.args.at c.min-at.result c.min-at.ensures in
    ap after_token (c.in-Token.ensures.read ∙ ap (scan c.args.profile) there)

pub returns-in-Token-clause-kind : goal.returns-in-Token-clause-kind
returns-in-Token-clause-kind c =
    let there = from_there c.args.text.now c.args.at c.min-at.result c.min-at.ensures in
    c.number_of_token-told.ensures _ ∙ ap token_kind (c.in-Token.ensures.read ∙ ap (scan c.args.profile) there)

pub returns-in-Token-clause-size : goal.returns-in-Token-clause-size
returns-in-Token-clause-size c =
    let there = from_there c.args.text.now c.args.at c.min-at.result c.min-at.ensures in
    c.text_size-told.ensures ∙ ap (λ (s : Scanned). length (last_text s)) (c.in-Token.ensures.read ∙ ap (scan c.args.profile) there)

pub returns-in-Token-clause-within : goal.returns-in-Token-clause-within
returns-in-Token-clause-within c =
    let text = c.args.text.now in
    let place = c.in-Token.ensures.place in
    let from = c.in-Token.token.span.from in
    let passed = c.filler_end-told.result in
    let same : length text - passed ≡ length text - from =
    sym (length-drop passed text) ∙ ap length (c.filler_end-told.ensures.read ∙ sym place.begins) ∙ length-drop from text in
    (omega (arith, same, c.filler_end-told.ensures.within, place.long, place.inside), place.inside)
