use Rattle.std.proofs.Common.{◌∙◌, ap, sym, pos, w32, Ok, nat_abs}
use Rattle.std.proofs.lemmas.Int.{to_z-of_z}
use lib.Signed.{lt_z}
use Rattle.teco_step.proofs.Acting.{as_byte_in}
use Rattle.teco_step.proofs.taking.as_byte.Goals as goal

pub returns : goal.returns
returns c =
    let e = to_z-of_z w32 c.args.n c.ranges.n in
    as_byte_in c.args.n (sym (ap (λ n. lt_z n (pos 0)) e) ∙ c.if-n-lt0.false) (sym (ap (λ n. lt_z (pos 255) n) e) ∙ c.if-n-gt255.false) ∙ ap (λ n. Ok (nat_abs n)) (sym e)
