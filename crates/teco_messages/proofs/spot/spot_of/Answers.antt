use Rattle.std.proofs.Common.{◌≡◌, ◌∙◌, ◌+◌, ◌-◌, ℕ, arith, ap, ap₂, length, take}
use Rattle.std.proofs.lemmas.List.{take_all}
use Rattle.std.specs.List.{after_last}
use Rattle.std.specs.Prelude.{count_by}
use Rattle.teco_messages.specs.Spot.{is_newline}
use Rattle.teco_messages.specs.declared.spot.Spot.{Spot}
use Rattle.teco_messages.proofs.spot.spot_of.Goals as goal

pub returns : goal.returns
returns c =
    let front = take c.args.at c.args.text.now in
    let lines : c.loop-byte.lines ≡ count_by is_newline front = c.loop-byte.invariant ∙ ap (count_by is_newline) (take_all c.loop-byte.byte-index front c.loop-byte-test.false) in
    let column : c.args.at - c.line_start.result ≡ length (after_last is_newline front) = omega (arith, c.line_start.ensures.value) in
    let spot : ℕ → ℕ → Spot = λ a b. record { line = a + 1; column = b + 1 } in
    ap₂ spot lines column
