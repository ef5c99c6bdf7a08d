use Rattle.std.proofs.Common.{◌≡◌, ◌+◌, [], ◌∷◌, ◌++◌, take, get_or, false, ◌&&◌, ◌==◌, arith, sym, ◌∙◌}
use Rattle.std.proofs.lemmas.List.{take_more}
use Rattle.std.proofs.lemmas.Bool.{and_left, and_right, ne_eqb}
use Rattle.teco_core.specs.declared.ascii.TheConstants.{ESC}
use Rattle.teco_scan.specs.Stream.{ends_in_escape}
use Rattle.teco_scan.proofs.Streams.{texts_of-more, ends-more}
use Rattle.teco_scan.proofs.stream.pair_end.Goals as goal
use Rattle.teco_scan.proofs.stream.pair_end.Goals.{else-is_escape-via-then-is_escape+else-escape, else-is_escape-via-else-is_escape}

pub loop-at-preserved : goal.loop-at-preserved
loop-at-preserved c =
    let xs = c.args.bytes.now in
    let i = c.loop-at.at in
    let b = get_or xs i 0 in
    let one_more : take (i + 1) xs ≡ take i xs ++ b ∷ [] = take_more xs i 0 (omega arith) in
    let on : (b == ESC && ends_in_escape (take i xs)) ≡ false = elim c.else-is_escape.branch [
      | else-is_escape-via-then-is_escape+else-escape w ↦ and_right _ _ (c.loop-at.invariant.last ∙ w.if-escape.false)
      | else-is_escape-via-else-is_escape w ↦ and_left _ _ (ne_eqb b ESC w.if-is_escape.false)
    ] in
    record { none = rw one_more (texts_of-more (take i xs) b c.loop-at.invariant.none on); last = rw one_more (ends-more (take i xs) b) }

pub loop-at-init : goal.loop-at-init
loop-at-init c = record { none = c.requires.none; last = sym c.ends_in_escape-escape.ensures }
