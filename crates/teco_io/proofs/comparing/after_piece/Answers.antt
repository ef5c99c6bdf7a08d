use Rattle.std.proofs.Common.{◌∙◌, ◌++◌, ap, sym, append_assoc}
use Rattle.teco_io.proofs.comparing.after_piece.Goals as goal

pub returns-in-Some : goal.returns-in-Some
returns-in-Some c = ap (λ l. l ++ c.args.parts.1.now) c.in-Some.ensures ∙ append_assoc c.args.piece.now c.in-Some.front.now c.args.parts.1.now

pub returns : goal.returns
returns c =
    ap (λ l. c.args.parts.0.now ++ l) c.in_ok-back.ensures
    ∙ (sym (append_assoc c.args.parts.0.now c.in_ok-rest.rest.now c.in_ok-back.back.now) ∙ ap (λ l. l ++ c.in_ok-back.back.now) (sym c.in_ok-rest.ensures))
