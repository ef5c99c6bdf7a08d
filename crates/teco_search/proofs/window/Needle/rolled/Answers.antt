use Rattle.std.proofs.Common.{◌+◌, ◌*◌, ◌%◌, ap₂, ◌∙◌}
use Rattle.teco_search.specs.declared.window.TheConstants.{BASE, MODULUS}
use Rattle.teco_search.proofs.Windows.{window_number-rolled}
use Rattle.teco_search.proofs.window.Needle.rolled.Goals as goal

pub returns : goal.returns
returns c =
    ap₂ (λ last first. (c.args.number * BASE + last + first * c.args.self.now.leaving) % MODULUS) (c.from-entering.ensures ∙ c.byte_at.ensures) (c.from.ensures ∙ c.byte_at-2.ensures)
    ∙ window_number-rolled c.args.text.now c.args.start c.args.self.now.len c.args.number c.args.self.now.leaving c.requires.leaving c.requires.number
