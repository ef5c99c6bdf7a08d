use Rattle.std.proofs.Common.{List, ℕ, ◌≡◌, true, rules, subst}
use Rattle.teco_check.specs.Checked.{held}
use Rattle.teco_lint.proofs.Noted.{OfBytes, register_noted}
use Rattle.teco_lint.proofs.calling.RegisterUses.note_register.Goals as goal

pub returns : goal.returns
returns c = λ strings are.
    let marked : held c.args.self.now.called c.args.register ≡ true = search rules in
    register_noted c.args.profile c.args.first.now strings c.args.register c.args.self.now.called c.note_text.new.self.called marked
    (subst (λ (bs : List ℕ). OfBytes c.args.profile bs c.args.self.now.called c.note_text.new.self.called) c.text-text.ensures c.note_text.ensures) are
