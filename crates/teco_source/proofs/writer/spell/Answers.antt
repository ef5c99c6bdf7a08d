use Rattle.std.proofs.Common.{◌≡◌, ℕ, ◌+◌, List, ◌++◌, drop, get_or, OnOk, sym, ap, subst, ◌∙◌, arith}
use Rattle.teco_source.specs.declared.reader.Mode.{Mode}
use Rattle.teco_source.specs.Listing.{spelled, spelled_end, spelling}
use Rattle.teco_source.proofs.Writing.{one_byte, none_left}
use Rattle.teco_source.proofs.writer.spell.Goals as goal

pub loop-byte-preserved : goal.loop-byte-preserved
loop-byte-preserved c =
    ap (λ (out : List ℕ). out ++ spelled c.mode_after-mode.result (drop (c.loop-byte.byte-index + 1) c.args.bytes.now)) c.in_ok-spell_byte.ensures
    ∙ ap (λ (m : Mode). (c.loop-byte.out.items ++ spelling c.loop-byte.mode (get_or c.args.bytes.now c.loop-byte.byte-index 0)) ++ spelled m (drop (c.loop-byte.byte-index + 1) c.args.bytes.now)) c.mode_after-mode.ensures
    ∙ one_byte c.loop-byte.out.items c.loop-byte.mode c.loop-byte.byte-index c.args.bytes.now (omega arith) ∙ c.loop-byte.invariant

pub returns : goal.returns
returns c =
    let e : c.loop-byte.out.items ++ spelled_end c.loop-byte.mode ≡ c.args.out.now.items ++ spelled c.args.mode c.args.bytes.now
    = sym (none_left c.loop-byte.out.items c.loop-byte.mode c.loop-byte.byte-index c.args.bytes.now (omega arith)) ∙ c.loop-byte.invariant in
    subst (λ (xs : List ℕ). OnOk c.push_end.result (c.push_end.new.out.items ≡ xs)) e c.push_end.ensures
