use Rattle.std.proofs.Common.{◌≡◌, Ok, Err, pos, sym, ◌∙◌}
use Rattle.teco_core.specs.Number.{digits_value}
use Rattle.teco_scan.proofs.StreamCounts.{few_digits-fit}
use Rattle.teco_scan.proofs.stream.number.Goals as goal

pub unreachable-requires : goal.unreachable-requires
unreachable-requires c =
    let ds = c.args.digits.now in
    let wrong : Err c.in-Err.field-0 ≡ Ok (pos (digits_value 0 ds)) = sym c.in-Err.is ∙ c.decimal.ensures ∙ few_digits-fit ds c.requires.few c.requires.digits in
    absurd cc
