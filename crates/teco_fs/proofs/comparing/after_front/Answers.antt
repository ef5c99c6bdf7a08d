use Rattle.std.proofs.Common.{◌≡◌, ◌∙◌, ◌++◌, ap₂, sym}
use Rattle.std.proofs.lemmas.List.{take-append-drop}
use Rattle.std.proofs.lemmas.Slice.Eq.{bytes_eq-Decides}
use Rattle.teco_fs.proofs.comparing.after_front.Goals as goal

pub returns-then-eq : goal.returns-then-eq
returns-then-eq c =
    let parts = c.in_ok-head.ensures.cases in
    let head : c.in_ok-head.head.now ≡ c.args.front.now = (bytes_eq-Decides c.in_ok-head.head.now c.args.front.now).0 (sym c.eq.ensures ∙ c.if-eq.true) in
    sym (take-append-drop _ c.args.bytes.now) ∙ ap₂ ◌++◌ (sym parts.1 ∙ head) (sym parts.2)
