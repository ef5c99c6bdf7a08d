use Rattle.std.proofs.Common.{◌+◌, ◌*◌, ◌%◌, ap, ◌∙◌}
use Rattle.teco_search.specs.declared.window.TheConstants.{BASE, MODULUS}
use Rattle.teco_search.proofs.Windows.{window_number-zero, window_number-more}
use Rattle.teco_search.proofs.window.Needle.number_of.Goals as goal

pub bytes-init : goal.bytes-init
bytes-init c = window_number-zero c.args.text.now c.args.start

pub bytes-preserved : goal.bytes-preserved
bytes-preserved c =
    ap (λ b. (c.bytes.number * BASE + b) % MODULUS) (c.from.ensures ∙ c.byte_at.ensures)
    ∙ window_number-more c.args.text.now c.args.start c.bytes.i c.bytes.number c.bytes.invariant
