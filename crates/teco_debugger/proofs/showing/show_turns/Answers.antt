use Rattle.std.proofs.Common.{◌∙◌, sym}
use Rattle.std.specs.String.{string_bytes}
use Rattle.std.proofs.lemmas.Result.{on_ok_weaker}
use Rattle.teco_debugger.proofs.CallLines.{some_turns}
use Rattle.teco_debugger.proofs.showing.show_turns.Goals as goal

pub returns : goal.returns
returns c =
    on_ok_weaker c.show_each_turn.result
    (λ e. some_turns c.args.turns.now (string_bytes c.args.out.now) (string_bytes c.push_str.new.self) (string_bytes c.show_each_turn.new.out)
    (sym c.is_empty.ensures ∙ c.if-is_empty.false) c.in_ok-push_str.ensures.bytes e)
    c.show_each_turn.ensures
