use Rattle.std.proofs.Common.{[], append-nil, arith, drop, false, rules, subst, sym, take, take-append-drop}
use Rattle.std.proofs.KnownBytes.{Appends-trans, Appends-kept}
use Rattle.std.proofs.Math.Seq.{take-add}
use Rattle.std.proofs.lemmas.Bool.{ne_eqb}
use Rattle.std.proofs.lemmas.Grind.{common_steps}
use Rattle.std.proofs.lemmas.List.{take_rest}
use Rattle.std.specs.Io.KnownBytes.{Appends}
use Rattle.teco_io.specs.Sink.{Counts}
use Rattle.teco_io.proofs.Counting.{Counts-trans}
use Rattle.teco_io.proofs.writer_terminal.write_flushed.Goals as goal

pub returns-in-Ok-eq0-clause-err : goal.returns-in-Ok-eq0-clause-err
returns-in-Ok-eq0-clause-err g c =
    let bs = c.args.bytes.now in
    let i = c.loop-at.at in
    let none : Appends (g.S.Sink.taken c.loop-at.sink) (g.S.Sink.taken c.write.new.self) [] = search (rules, c.in-Ok-eq0.ensures.taken, c.in-Ok-eq0.field-0-is) in
    (take i bs, (drop i bs, sym (take-append-drop i bs)), subst (Appends _ _) (append-nil (take i bs)) (Appends-trans _ _ _ _ _ c.loop-at.invariant.written none))

pub loop-at-preserved : goal.loop-at-preserved
loop-at-preserved g c = record {
  within = grind (arith, common_steps, c.in-Ok.ensures.within);
  written =
      let bs = c.args.bytes.now in
      let i = c.loop-at.at in
      rw take-add (Appends-trans _ _ _ _ _ c.loop-at.invariant.written (rw (take_rest bs i) at c.in-Ok.ensures.taken));
  failures = Counts-trans _ _ _ false c.loop-at.invariant.failures (subst (Counts _ _) (ne_eqb c.in-Ok.n 0 c.in-Ok.n-test.1) c.in-Ok.ensures.failures);
}

pub returns-in-Err-clause-err : goal.returns-in-Err-clause-err
returns-in-Err-clause-err g c =
    let bs = c.args.bytes.now in
    let i = c.loop-at.at in
    (take i bs, (drop i bs, sym (take-append-drop i bs)), Appends-kept _ _ _ _ c.loop-at.invariant.written c.in-Err.ensures.taken)

pub returns-in-Err-flush-clause-err : goal.returns-in-Err-flush-clause-err
returns-in-Err-flush-clause-err g c =
    let bs = c.args.bytes.now in
    let i = c.loop-at.at in
    (take i bs, (drop i bs, sym (take-append-drop i bs)), Appends-kept _ _ _ _ c.loop-at.invariant.written c.flush.ensures.taken)
