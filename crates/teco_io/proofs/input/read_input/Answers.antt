use Rattle.std.proofs.Common.{◌++◌, ℕ, arith, false, length-take-le, subst, sym, take}
use Rattle.std.proofs.lemmas.Grind.{common_steps}
use Rattle.teco_io.proofs.Sources.{Gives-more, Gives-on, length-more}
use Rattle.teco_io.specs.Source.{Gives}
use Rattle.teco_io.proofs.input.read_input.Goals as goal

pub returns-then-n-max-clause-fault : goal.returns-then-n-max-clause-fault
returns-then-n-max-clause-fault g c =
    let input = c.pieces.input.items in
    let long = length-more input c.read.new.piece c.in-Ok.n c.in-Ok.ensures.fits in
    (input ++ take c.in-Ok.n c.read.new.piece, omega (arith, long), Gives-more c.pieces.invariant.given c.in-Ok.ensures.ok)

pub returns-in_default-extend_from_slice-clause-fault : goal.returns-in_default-extend_from_slice-clause-fault
returns-in_default-extend_from_slice-clause-fault g c =
    let input = c.pieces.input.items in
    let long = length-more input c.read.new.piece c.in-Ok.n c.in-Ok.ensures.fits in
    (input ++ take c.in-Ok.n c.read.new.piece, omega (arith, long), omega (arith, long), Gives-more c.pieces.invariant.given c.in-Ok.ensures.ok)

pub pieces-smaller : goal.pieces-smaller
pieces-smaller g c = omega (arith, length-take-le c.in-Ok.n c.read.new.piece c.in-Ok.ensures.fits, c.in-Ok.ensures.ok.less)

pub returns-then-n-eq0-clause-all : goal.returns-then-n-eq0-clause-all
returns-then-n-eq0-clause-all g c =
    Gives-on c.pieces.invariant.given (subst (λ (k : ℕ). Gives g.S.Source.coming g.S.Source.bound g.S.Source.failures c.pieces.source c.read.new.self (take k c.read.new.piece) false) c.if-n-eq0.true c.in-Ok.ensures.ok)

pub returns-then-n-eq0-clause-ended : goal.returns-then-n-eq0-clause-ended
returns-then-n-eq0-clause-ended g c = c.in-Ok.ensures.ends c.if-n-eq0.true (omega arith)

pub pieces-preserved : goal.pieces-preserved
pieces-preserved g c =
    let items = c.in-Ok-extend_from_slice.ensures.items in
    let long = length-more c.pieces.input.items c.read.new.piece c.in-Ok.n c.in-Ok.ensures.fits in record {
      given = subst (λ l. Gives g.S.Source.coming g.S.Source.bound g.S.Source.failures c.args.source.now c.read.new.self l false) (sym items) (Gives-more c.pieces.invariant.given c.in-Ok.ensures.ok);
      most = rw items (omega (arith, long));
    }

pub slice_bounds-extend_from_slice-end : goal.slice_bounds-extend_from_slice-end
slice_bounds-extend_from_slice-end g c = grind (arith, common_steps)
