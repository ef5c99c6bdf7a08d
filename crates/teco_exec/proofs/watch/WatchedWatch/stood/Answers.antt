use Rattle.std.proofs.Common.{◌≡◌, true, false, refl, sym, ◌∙◌}
use Rattle.teco_exec.specs.View.{cursor}
use Rattle.teco_exec.proofs.Placings.{has_place, kept_here}
use Rattle.teco_exec.proofs.Turns.{turns_same}
use Rattle.teco_exec.proofs.watch.WatchedWatch.stood.Goals as goal

pub returns-in-Ok-clause-told : goal.returns-in-Ok-clause-told
returns-in-Ok-clause-told c known =
    let at = c.args.cursor.now in (
      c.filler_end-self.result,
      record { rest = c.filler_end-self.ensures.read; within = c.filler_end-self.ensures.within.1 },
      (
        refl,
        λ memory. record { told = kept_here at.text.profile c.args.steps at.text.bytes.now c.filler_end-self.result c.in-Ok.turns.items (cursor at).blocks c.args.self.now.place.calls.items (c.in-Ok.ensures ∙ sym (turns_same at.text.bytes.now at.blocks)) known.2; fault = c.first_fault-self.ensures.first },
      ),
    )

pub returns-in-Err-clause-told : goal.returns-in-Err-clause-told
returns-in-Err-clause-told c known =
    let h = has_place c.args.cursor.now.text.bytes.now c.args.at c.requires in
    (h.0, h.1, (refl, λ memory. absurd (let no : true ≡ false = memory in cc)))
