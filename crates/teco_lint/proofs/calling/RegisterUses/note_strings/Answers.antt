use Rattle.std.proofs.Common.{◌-◌, [], ◌∷◌, ℕ, List, length, take, drop, sym, subst, ap, ◌∙◌, arith}
use Rattle.teco_lint.proofs.Cuts.{whole_held}
use Rattle.teco_lint.proofs.Noted.{OfStrings, last_noted}
use Rattle.teco_lint.proofs.calling.RegisterUses.note_strings.Goals as goal

pub returns : goal.returns
returns c =
    let commands = c.args.commands.now in
    let rest = drop c.loop-end.start commands in
    let now = c.note_text-2.new.self.called in
    c.loop-end.invariant.rest now
    (subst (λ (strings : List (List ℕ)). OfStrings c.args.profile strings c.loop-end.self.called now)
    (sym (c.in_default.ensures.last ∙ ap (λ (s : List ℕ). s ∷ []) (sym (whole_held c.loop-end.start (length commands) commands (omega arith)))))
    (last_noted c.args.profile (take (length commands - c.loop-end.start) rest) c.loop-end.self.called now c.note_text-2.ensures))
