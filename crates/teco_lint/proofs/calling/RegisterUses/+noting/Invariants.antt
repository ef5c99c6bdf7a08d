use Rattle.std.proofs.Common.{◌*◌, ◌+◌, ◌-◌, Bool, List, length, drop}
use Rattle.teco_lint.proofs.Noted.{OfBytes}
use Rattle.teco_lint.proofs.calling.RegisterUses.+noting.Given as goal

-- a text is above its tokens, and a token above the texts in it
abbrev pub decreases-note_text : goal.decreases-note_text
decreases-note_text l = 2 * l.texts + 1

abbrev pub decreases-note_token : goal.decreases-note_token
decreases-note_token l = 2 * l.texts

-- if what is left of the text is noted, all of it is
abbrev pub invariant-note_text-loop-at : goal.invariant-note_text-loop-at
invariant-note_text-loop-at l = (later : List Bool) → OfBytes l.profile (drop l.at l.text) l.self.called later → OfBytes l.profile l.text l.fn.self.called later

abbrev pub decreases-note_text-loop-at : goal.decreases-note_text-loop-at
decreases-note_text-loop-at l = length l.text - l.at
