use Rattle.std.proofs.Common.{[]}
use Rattle.teco_exec.proofs.Continuations.{passes_short}
use Rattle.teco_exec.proofs.PassedTags.{nothing_passed, one_more_passed}
use Rattle.teco_exec.proofs.cursor.Cursor.pass_tags.Goals as goal

pub tags-init : goal.tags-init
tags-init c = nothing_passed c.args.self.now

pub tags-smaller : goal.tags-smaller
tags-smaller c = passes_short c.block_laws.ensures c.tags.self c.pass_tag.new.self c.in-Some.found [] (c.pass_tag.ensures.passed c.if-not-pass_tag.false)

pub tags-preserved : goal.tags-preserved
tags-preserved c =
    one_more_passed c.block_laws.ensures c.args.self.now c.tags.self c.pass_tag.new.self c.in-Some.found c.tags.invariant c.pass_tag.ensures.text
    (c.pass_tag.ensures.passed c.if-not-pass_tag.false)
