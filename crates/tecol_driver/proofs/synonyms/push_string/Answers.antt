use Rattle.std.proofs.Common.{◌≡◌, ◌∙◌, [], is_some, sym, ap, append-nil, drop, true, false}
use Rattle.std.proofs.lemmas.List.{take_rest}
use Rattle.std.proofs.lemmas.Result.{IfOk-weaker}
use Rattle.teco_scan.specs.Stream.{move_asked}
use Rattle.tecol_driver.specs.Synonyms.{of_request, of_run}
use Rattle.tecol_driver.proofs.synonyms.push_string.Goals as goal

pub returns-then-is_some : goal.returns-then-is_some
returns-then-is_some c =
    let text = c.args.text.now in
    let asks : is_some (move_asked (drop c.args.from text)) ≡ true =
    sym (ap (λ bytes. is_some (move_asked bytes)) (take_rest text c.args.from)) ∙ (sym (ap is_some c.move_asked.ensures) ∙ (sym c.is_some.ensures ∙ c.if-is_some.true)) in
    ([], sym (append-nil c.args.out.now.items), of_request asks)

pub returns : goal.returns
returns c =
    let text = c.args.text.now in
    let asks : is_some (move_asked (drop c.args.from text)) ≡ false =
    sym (ap (λ bytes. is_some (move_asked bytes)) (take_rest text c.args.from)) ∙ (sym (ap is_some c.move_asked.ensures) ∙ (sym c.is_some.ensures ∙ c.if-is_some.false)) in
    IfOk-weaker c.push_tokens.result _ _ (λ whole put. (put.0, put.1, of_run asks put.2)) c.push_tokens.ensures
