use Rattle.std.proofs.Common.{◌≡◌, ◌++◌, ◌∷◌, [], true, false, sym, ◌∙◌, rules}
use Rattle.teco_exec.specs.View.{cursor}
use Rattle.teco_exec.specs.declared.place.Call.{Call}
use Rattle.teco_exec.proofs.Placings.{has_place, kept_call}
use Rattle.teco_exec.proofs.Turns.{turns_same}
use Rattle.teco_exec.proofs.watch.WatchedWatch.called.Goals as goal

pub returns-else-is_err-clause-told : goal.returns-else-is_err-clause-told
returns-else-is_err-clause-told c p known =
    let at = c.args.cursor.now in
    let call : Call = record { register = c.args.register; at = c.filler_end.result; turns = c.in-Ok.turns } in
    let more : c.push.new.self.items ≡ c.args.self.now.place.calls.items ++ call ∷ [] = search rules in (
      c.filler_end.result,
      record { rest = c.filler_end.ensures.read; within = c.filler_end.ensures.within.1 },
      (
        known.0,
        λ memory. record { told = kept_call c.args.self.now.place c.push.new.self.items call (cursor at).blocks p (known.1 memory).told more (c.in-Ok.ensures ∙ sym (turns_same at.text.bytes.now at.blocks)); fault = (known.1 memory).fault },
      ),
    )

pub returns-in-Err-clause-told : goal.returns-in-Err-clause-told
returns-in-Err-clause-told c p known =
    let h = has_place c.args.cursor.now.text.bytes.now c.args.at c.requires in
    (h.0, h.1, (known.0, λ memory. absurd (let no : true ≡ false = memory in cc)))

pub returns-then-is_err-clause-told : goal.returns-then-is_err-clause-told
returns-then-is_err-clause-told c p known =
    let h = has_place c.args.cursor.now.text.bytes.now c.args.at c.requires in
    (h.0, h.1, (known.0, λ memory. absurd (let no : true ≡ false = memory in cc)))
