use Rattle.std.proofs.Common.{◌∙◌, ◌++◌, ap₂}
use Rattle.teco_store.proofs.Outputs.{within_source}
use Rattle.teco_store.proofs.output.Output.lend_after.Goals as goal

pub returns-clause-ok : goal.returns-clause-ok
returns-clause-ok c =
    let input = c.args.input.now in
    (c.lend.ensures.bytes input c.make_room.ensures.part (within_source c.make_room.new.self input c.args.upto c.requires.within)).1
    ∙ ap₂ ◌++◌ c.in_ok-make_room.ensures.ok (c.lend.ensures.within input c.requires.within)

pub returns-clause-part : goal.returns-clause-part
returns-clause-part c =
    let input = c.args.input.now in
    (c.lend.ensures.bytes input c.make_room.ensures.part (within_source c.make_room.new.self input c.args.upto c.requires.within)).0
