use Rattle.std.proofs.Common.{◌≤◌, Ok, ap, drop, length, subst, ◌∙◌}
use Rattle.teco_core.specs.ArgumentsView.{arguments}
use Rattle.teco_exec.specs.Frames.{frames}
use Rattle.teco_exec.proofs.Frames.{begin_closed, closed_same, begin_turned, start_within, turn_goes_on, turn_is_last}
use Rattle.teco_exec.proofs.cursor.Cursor.end_turn.Goals as goal

pub invariant_of-self : goal.invariant_of-self
invariant_of-self c =
    let new = begin_turned c.args.self.now.blocks c.in-Some.ensures.0 c.args.self.now.begin in
    record {
      within = subst (λ start. start ≤ length c.args.self.now.text.bytes.now) c.in-Some.ensures.1 (start_within c.next_turn-next.new.self new);
      begin = new;
      same = c.args.self.now.same;
    }

pub invariant_of-self-in-None-clause-begin : goal.invariant_of-self-in-None-clause-begin
invariant_of-self-in-None-clause-begin c = begin_closed c.args.self.now.blocks c.pop.new.self c.pop.result (closed_same c.pop.new.self c.pop.result c.in-None.ensures.1 c.pop.ensures) c.args.self.now.begin

pub returns-in-Some-clause-moves : goal.returns-in-Some-clause-moves
returns-in-Some-clause-moves c =
    let s = c.args.self.now in
    let text = s.text.bytes.now in
    ap (λ a. Ok (record { args = a; left = drop c.in-Some.start text; blocks = frames text c.next_turn-next.new.self })) c.clear.ensures
    ∙ turn_goes_on text (drop c.args.to text) (drop s.at text) (arguments s.args) s.blocks c.requires.ends c.in-Some.ensures.0 c.in-Some.ensures.1

pub returns-in-None-clause-moves : goal.returns-in-None-clause-moves
returns-in-None-clause-moves c =
    let s = c.args.self.now in
    let text = s.text.bytes.now in
    ap (λ a. Ok (record { args = a; left = drop c.args.to text; blocks = frames text c.pop.new.self })) c.clear.ensures
    ∙ turn_is_last text (drop c.args.to text) (drop s.at text) (arguments s.args) s.blocks c.pop.new.self c.pop.result (closed_same c.pop.new.self c.pop.result c.in-None.ensures.1 c.pop.ensures) c.requires.ends c.in-None.ensures.0
