use Rattle.std.proofs.Common.{◌+◌, ◌<◌, ℕ, Bool, List, length, drop, ◌||◌, is_some, arith, sym, ap, subst, length-drop, ◌∙◌}
use Rattle.std.proofs.lemmas.List.{take_rest}
use Rattle.teco_scan.specs.Stream.{asks_history}
use Rattle.teco_scan.proofs.Streams.{asks_history-from}
use Rattle.teco_scan.proofs.stream.asks_history.Goals as goal

pub returns-then-is_some : goal.returns-then-is_some
returns-then-is_some c =
    let bs = c.args.commands.now in
    let start = c.loop-at.start in
    let later = asks_history (drop (start + (c.in-Some.at + 1)) bs) in
    sym (c.loop-at.invariant.asks ∙ asks_history-from bs start c.in-Some.at c.in-Some.ensures
    ∙ ap (λ (b : Bool). b || later) (ap is_some (sym c.move_asked.ensures) ∙ sym c.is_some.ensures ∙ c.if-is_some.true))

pub loop-at-preserved : goal.loop-at-preserved
loop-at-preserved c =
    let bs = c.args.commands.now in
    let start = c.loop-at.start in
    let later = asks_history (drop (start + (c.in-Some.at + 1)) bs) in
    let inside : c.in-Some.at < length (drop start bs) = subst (λ (rest : List ℕ). c.in-Some.at < length rest) (take_rest bs start) c.in-Some.ensures.0 in
    record {
      inside = omega (arith, inside, length-drop start bs);
      asks = c.loop-at.invariant.asks ∙ asks_history-from bs start c.in-Some.at c.in-Some.ensures
          ∙ ap (λ (b : Bool). b || later) (ap is_some (sym c.move_asked.ensures) ∙ sym c.is_some.ensures ∙ c.if-is_some.false);
    }
